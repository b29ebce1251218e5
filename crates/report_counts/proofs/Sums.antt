-- Sums of counts row by row: in any order, and as a loop stores them. Assumes nothing.
use Rattle.std.proofs.Common.{◌≡◌, ℕ, zero, suc, ◌+◌, ◌^◌, ◌<◌, ◌≤◌, List, [], ◌∷◌, ◌++◌, length, get_or, take, drop, set, sym, refl, ap, ◌∙◌, append-nil, add-one, arith, drop_of_length-le, length-take-le, take_all, drop-cons, take-suc}
use lib.Seq.{append_snoc, set_at, get_or_at}
use Rattle.report_counts.specs.Rows.{times_in}
use Rattle.report_counts.specs.Largest.{plus}
use Rattle.report_counts.specs.Report.{sums, tally_from}
use Rattle.report_counts.proofs.Held.{plus_assoc, plus_none, none-plus}

pub sums-assoc : (a b c : List ℕ) → sums (sums a b) c ≡ sums a (sums b c)
unfolding sums
sums-assoc [] b c = refl
sums-assoc (x ∷ a) [] c = refl
sums-assoc (x ∷ a) (y ∷ b) [] = refl
sums-assoc (x ∷ a) (y ∷ b) (z ∷ c) = rw (plus_assoc x y z, sums-assoc a b c)

-- every count fits in 64 bits
unfoldable pub Fit : List ℕ → Type 0
Fit [] = Unit {0}
Fit (x ∷ a) = (x < 2 ^ 64) × Fit a

-- with counts that are all 0, as of no answer
pub sums_none : (k n : ℕ) (a : List ℕ) → length a ≡ n → Fit a → sums a (tally_from k n []) ≡ a
unfolding sums tally_from Fit times_in
sums_none k zero [] e h = refl
sums_none k zero (x ∷ a) e h = absurd (omega (arith, e))
sums_none k (suc n) [] e h = refl
sums_none k (suc n) (x ∷ a) e h = rw (plus_none x h.0, sums_none (suc k) n a (omega (arith, e)) h.1)

pub none-sums : (k n : ℕ) (a : List ℕ) → length a ≡ n → Fit a → sums (tally_from k n []) a ≡ a
unfolding sums tally_from Fit times_in
none-sums k zero [] e h = refl
none-sums k zero (x ∷ a) e h = absurd (omega (arith, e))
none-sums k (suc n) [] e h = absurd (omega (arith, e))
none-sums k (suc n) (x ∷ a) e h = rw (none-plus x h.0, none-sums (suc k) n a (omega (arith, e)) h.1)

-- ---- as a loop stores them
pub length-sums : (a b : List ℕ) → length a ≡ length b → length (sums a b) ≡ length a
unfolding sums
length-sums [] b e = refl
length-sums (x ∷ a) [] e = absurd (omega (arith, e))
length-sums (x ∷ a) (y ∷ b) e = ap suc (length-sums a b (omega (arith, e)))

get_d-sums : (a b : List ℕ) (i : ℕ) → length a ≡ length b → i < length a → get_or (sums a b) i 0 ≡ plus (get_or a i 0) (get_or b i 0)
unfolding sums
get_d-sums [] b i e h = absurd (omega arith)
get_d-sums (x ∷ a) [] i e h = absurd (omega (arith, e))
get_d-sums (x ∷ a) (y ∷ b) zero e h = refl
get_d-sums (x ∷ a) (y ∷ b) (suc i) e h = get_d-sums a b i (omega (arith, e)) (omega arith)

module _ (a b : List ℕ) (same : length a ≡ length b) where
  -- sums up to row i, and behind them the first list
  abbrev pub sums_to : ℕ → List ℕ
  sums_to i = take i (sums a b) ++ drop i a

  pub one_more : (both : List ℕ) (i v : ℕ) → i < length a → both ≡ sums_to i → v ≡ plus (get_or both i 0) (get_or b i 0) → set both i v ≡ sums_to (i + 1)
  one_more both i v h is e =
      let all = sums a b in
      let size : i < length all = omega (arith, length-sums a b same) in
      let front = length-take-le i all (omega arith) in
      let cut : both ≡ take i all ++ (get_or a i 0 ∷ drop (suc i) a) = is ∙ ap (λ (l : List ℕ). take i all ++ l) (drop-cons a i 0 h) in
      let here : get_or both i 0 ≡ get_or a i 0 = ap (λ (l : List ℕ). get_or l i 0) cut ∙ get_or_at (take i all) (get_or a i 0) (drop (suc i) a) 0 i front in
      let value : v ≡ get_or all i 0 = e ∙ rw here (sym (get_d-sums a b i same h)) in
      let stored : set both i v ≡ take i all ++ (v ∷ drop (suc i) a) =
      ap (λ (l : List ℕ). set l i v) cut ∙ set_at (take i all) (get_or a i 0) (drop (suc i) a) v i front in
      stored ∙ rw (add-one, take-suc all i 0 size, value) (sym (append_snoc (take i all) (get_or all i 0) (drop (suc i) a)))

  pub all-summed : (both : List ℕ) (i : ℕ) → length a ≤ i → both ≡ sums_to i → both ≡ sums a b
  all-summed both i h is =
      is ∙ rw (take_all i (sums a b) (omega (arith, length-sums a b same)), drop_of_length-le a h) (append-nil (sums a b))
