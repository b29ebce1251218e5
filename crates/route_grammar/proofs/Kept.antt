-- A route's text read: what is kept of it in lent lists of any length, byte by byte. Assumes nothing.
use mathlib.Core.Path.{◌≡◌, refl, sym, ap, ◌∙◌}
use mathlib.Core.Bool.{Bool, true, false, cond}
use mathlib.Core.List.{List, [], ◌∷◌, ◌++◌, map, append-nil, append_assoc}
use mathlib.Core.Logic.{inl, inr}
use Prim.Native.Nat.{ℕ, suc, ◌+◌, ◌-◌, ◌*◌, ◌/◌, ◌%◌, ◌^◌, ◌≤◌, ◌<◌}
use native.Mathlib.Omega.{arith}
use native.Mathlib.Nat.{mod-eq_of_lt}
use borrow.Author.Tests.{lt-ltb, le-ltb, ltb-true, ltb-false, ne_eqb}
use lib.Dec.{ltb}
use lib.Ieee.{Float, binary32, of_bits}
use lib.ListN.{length, take, set}
use lib.Seq.{take-nil}
use Rattle.model.specs.Text.{capital, hex_by}
use Rattle.text.specs.Read.{hex_digit}
use Rattle.text.proofs.ReadBack.{capital-value}
use Rattle.numerals.specs.Numerals.{Capital, Capitals, worth, word_from}
use Rattle.numerals.proofs.Numerals.{hex-is-capitals, hex-says}
use Rattle.route_line.specs.declared.Kind.{Kind}
use Rattle.route_line.specs.declared.Kind.TheVariants.{Nothing, Slop, Cart, At, Still}
use Rattle.route_line.specs.declared.Line.{Line}
use Rattle.route_line.specs.Line.{line, between, word_end, most_words, name, takes_word, is_whole, one_more, named, in_name, after_word, in_word, line_after}
use Rattle.route_line.specs.Text.{words_text, line_text, Way, way_words, ways_text, stills_text, route_text}
use Rattle.route_read.specs.declared.Kept.{Kept}
use Rattle.route_read.specs.Read.{kept, reader, no_text, Run, run, byte_more, reader_after, floats_after, lengths_of, run_over, cart_end, way_end, is_still, next_line}
use Rattle.route_read.proofs.Runs.{read-in-two-parts}
use Rattle.route_grammar.specs.Grammar.{numbers, way_numbers, joined, sizes, Fit, FitWays, FitStills}

-- ---- a lent list with the first of others in it, as many as there are places for
unfoldable pub filled : {A : Type 0} → List A → List A → List A
filled [] d = d
filled (k ∷ ks) [] = []
filled (k ∷ ks) (x ∷ d) = k ∷ filled ks d

unfoldable pub stored : {A : Type 0} → List A → List A → ℕ
stored [] d = 0
stored (k ∷ ks) [] = 0
stored (k ∷ ks) (x ∷ d) = suc (stored ks d)

module _ {A : Type 0} where
  filled_more : (ks d : List A) (x : A) → set (filled ks d) (stored ks d) x ≡ filled (ks ++ (x ∷ [])) d
  unfolding filled stored
  filled_more [] [] x = refl
  filled_more [] (y ∷ d) x = refl
  filled_more (k ∷ ks) [] x = refl
  filled_more (k ∷ ks) (y ∷ d) x = ap (λ (l : List A). k ∷ l) (filled_more ks d x)

  stored_more : (ks d : List A) (x : A) →
      cond (ltb (stored ks d) (length (filled ks d))) (stored ks d + 1) (stored ks d) ≡ stored (ks ++ (x ∷ [])) d
  unfolding filled stored
  stored_more [] [] x = refl
  stored_more [] (y ∷ d) x = rw (lt-ltb 0 (suc (length d)) (omega arith))
  stored_more (k ∷ ks) [] x = refl
  stored_more (k ∷ ks) (y ∷ d) x = go (ltb (stored ks d) (length (filled ks d))) refl (stored_more ks d x)
    where
      go : (t : Bool) → ltb (stored ks d) (length (filled ks d)) ≡ t
          → cond (ltb (stored ks d) (length (filled ks d))) (stored ks d + 1) (stored ks d) ≡ stored (ks ++ (x ∷ [])) d
          → cond (ltb (suc (stored ks d)) (suc (length (filled ks d)))) (suc (stored ks d) + 1) (suc (stored ks d)) ≡ suc (stored (ks ++ (x ∷ [])) d)
      go true e rest =
          let less : stored ks d < length (filled ks d) = ltb-true (stored ks d) (length (filled ks d)) e in
          let one : stored ks d + 1 ≡ stored (ks ++ (x ∷ [])) d = rw e at rest in
          rw (lt-ltb (suc (stored ks d)) (suc (length (filled ks d))) (omega arith)) (omega (arith, one))
      go false e rest =
          let most : length (filled ks d) ≤ stored ks d = ltb-false (stored ks d) (length (filled ks d)) e in
          let same : stored ks d ≡ stored (ks ++ (x ∷ [])) d = rw e at rest in
          rw (le-ltb (suc (stored ks d)) (suc (length (filled ks d))) (omega arith)) (omega (arith, same))

word-grows : (w : List ℕ) (v : ℕ) → v ≤ word_from v w
unfolding word_from
word-grows [] v = omega arith
word-grows (x ∷ w) v = omega (arith, word-grows w (v * 16 + worth x))

seven-digits : (n : ℕ) → 6 + length (hex_by 7 n) ≡ 13
unfolding hex_by
seven-digits n = refl

-- ---- the words of a line, and the lines of a text
-- what a word adds to the numbers that are kept, after n others of its line
abbrev kept_one : ℕ → ℕ → List Float
kept_one n w = cond (ltb n most_words) (of_bits binary32 w ∷ []) []

-- how many are counted after n others
unfoldable pub count_from : ℕ → List ℕ → ℕ
count_from n [] = n
count_from n (w ∷ ws) = count_from (one_more n) ws

-- which numbers are kept
unfoldable kept_from : ℕ → List ℕ → List Float
kept_from n [] = []
kept_from n (w ∷ ws) = kept_one n w ++ kept_from (one_more n) ws

-- the last of them
unfoldable last_of : ℕ → List ℕ → ℕ
last_of v [] = v
last_of v (w ∷ ws) = last_of w ws

-- a line of that kind takes each of them
unfoldable pub Taken : Kind → ℕ → List ℕ → Type 0
Taken kind n [] = Unit {0}
Taken kind n (w ∷ ws) = (takes_word kind n ≡ true) × Taken kind (one_more n) ws

-- which kind follows which
data Follows : Kind → Kind → Type 0 where
  slop-first : Follows Nothing Slop
  then-cart : Follows Slop Cart
  first_way : Follows Cart At
  next_way : Follows At At
  still-behind-cart : Follows Cart Still
  still-behind-way : Follows At Still
  next-still : Follows Still Still

-- ---- a run that holds such lists
module _ (d : List Float) (d' : List ℕ) where
  abbrev pub holding : Line → List Float → List ℕ → ℕ → ℕ → ℕ → Run
  holding l ks ns c e m = run (reader l (kept (stored ks d) c e (stored ns d')) m) (filled ks d) (filled ns d')

  -- ---- a word
  digit-worth : (x : ℕ) → Capital x → (hex_digit x ≡ worth x) × (worth x < 16)
  digit-worth x (inl (low, high)) =
      let digit : hex_digit x ≡ x - 48 = rw (le-ltb x 48 low, lt-ltb x 58 (omega arith)) in
      let same : worth x ≡ x - 48 = rw (lt-ltb x 65 (omega arith)) in
      (digit ∙ sym same, rw same (omega arith))
  digit-worth x (inr (low, high)) =
      let digit : hex_digit x ≡ x - 55 = rw (le-ltb x 48 (omega arith), le-ltb x 58 (omega arith), le-ltb x 65 low, lt-ltb x 71 (omega arith)) in
      let same : worth x ≡ x - 55 = rw (le-ltb x 65 low) in
      (digit ∙ sym same, rw same (omega arith))

  module _ (kind : Kind) (n : ℕ) (k : Kept) (m : ℕ) (fl : List Float) (le : List ℕ) where
    abbrev within : ℕ → ℕ → Run
    within p v = run (reader (line kind p v n) k m) fl le

    digit-run : (p v x : ℕ) → 6 ≤ p → p < 13 → Capital x → v * 16 + worth x < 2 ^ 32 → byte_more (within p v) x ≡ within (p + 1) (v * 16 + worth x)
    unfolding reader_after floats_after lengths_of line_after in_word
    digit-run p v x low high h fits =
        let w = digit-worth x h in
        let small : worth x < 16 = w.1 in
        let value : (v * 16 + worth x % 16) % 2 ^ 32 ≡ v * 16 + worth x = rw (mod-eq_of_lt small) (mod-eq_of_lt fits) in
        rw (
          le-ltb p 5 (omega arith),
          ne_eqb p 5 (λ e. omega arith),
          w.0,
          ne_eqb (worth x) 16 (λ e. omega arith),
          lt-ltb p 13 high,
          ne_eqb p 13 (λ e. omega arith),
          ne_eqb (p + 1) 0 (λ e. omega arith),
          value,
        )

    digits-run : (w : List ℕ) (p v : ℕ) → Capitals w → 6 ≤ p → p + length w ≡ 13 → word_from v w < 2 ^ 32 →
        run_over (within p v) w ≡ within 13 (word_from v w)
    unfolding run_over Capitals word_from
    digits-run [] p v h low end fits = let same : p ≡ 13 = omega (arith, end) in rw same
    digits-run (x ∷ w) p v h low end fits =
        let less : v * 16 + worth x < 2 ^ 32 = omega (arith, word-grows w (v * 16 + worth x), fits) in
        ap (λ (s : Run). run_over s w) (digit-run p v x low (omega (arith, end)) h.0 less)
        ∙ digits-run w (p + 1) (v * 16 + worth x) h.1 (omega arith) (omega (arith, end)) fits

  used-more : (n : ℕ) (ks : List Float) (x : Float) →
      cond (ltb n 129) (cond (ltb (stored ks d) (length (filled ks d))) (stored ks d + 1) (stored ks d)) (stored ks d)
      ≡ stored (ks ++ cond (ltb n 129) (x ∷ []) []) d
  used-more n ks x = go (ltb n 129)
    where
      go : (t : Bool) → cond t (cond (ltb (stored ks d) (length (filled ks d))) (stored ks d + 1) (stored ks d)) (stored ks d)
          ≡ stored (ks ++ cond t (x ∷ []) []) d
      go true = stored_more ks d x
      go false = rw (append-nil ks)

  floats-more : (n : ℕ) (ks : List Float) (x : Float) →
      cond (ltb n 129) (set (filled ks d) (stored ks d) x) (filled ks d) ≡ filled (ks ++ cond (ltb n 129) (x ∷ []) []) d
  floats-more n ks x = go (ltb n 129)
    where
      go : (t : Bool) → cond t (set (filled ks d) (stored ks d) x) (filled ks d) ≡ filled (ks ++ cond t (x ∷ []) []) d
      go true = filled_more ks d x
      go false = rw (append-nil ks)

  module _ (kind : Kind) (ks : List Float) (ns : List ℕ) (c e m : ℕ) where
    last-run : (n w : ℕ) → w < 2 ^ 32 →
        byte_more (holding (line kind 13 (w / 16) n) ks ns c e m) (capital (w % 16)) ≡ holding (line kind word_end w (one_more n)) (ks ++ kept_one n w) ns c e m
    unfolding reader_after floats_after lengths_of line_after in_word
    last-run n w fits =
        let small : w % 16 < 16 = omega arith in
        let value : (w / 16 * 16 + w % 16 % 16) % 4294967296 ≡ w = omega arith in
        rw (
          capital-value (w % 16) small,
          ne_eqb (w % 16) 16 (λ h. omega arith),
          value,
          used-more n ks (of_bits binary32 w),
          floats-more n ks (of_bits binary32 w),
        )

    blank-run : (v n : ℕ) → takes_word kind n ≡ true → byte_more (holding (line kind word_end v n) ks ns c e m) 32 ≡ holding (line kind 6 0 n) ks ns c e m
    unfolding reader_after floats_after lengths_of line_after after_word
    blank-run v n takes = rw takes

    word-run : (v n w : ℕ) → takes_word kind n ≡ true → w < 2 ^ 32 →
        run_over (holding (line kind word_end v n) ks ns c e m) (32 ∷ hex_by 8 w) ≡ holding (line kind word_end w (one_more n)) (ks ++ kept_one n w) ns c e m
    unfolding run_over hex_by
    word-run v n w takes fits =
        let less : w / 16 < 16 ^ 7 = omega (arith, fits) in
        let says : word_from 0 (hex_by 7 (w / 16)) ≡ w / 16 = hex-says 7 (w / 16) less in
        let start = holding (line kind 6 0 n) ks ns c e m in
        let seven : run_over start (hex_by 7 (w / 16)) ≡ holding (line kind 13 (w / 16) n) ks ns c e m =
        rw says at
        (digits-run kind n (kept (stored ks d) c e (stored ns d')) m (filled ks d) (filled ns d') (hex_by 7 (w / 16)) 6 0 (hex-is-capitals 7 (w / 16))
        (omega arith) (seven-digits (w / 16)) (rw says (omega arith))) in
        ap (λ (s : Run). run_over s (hex_by 8 w)) (blank-run v n takes)
        ∙ read-in-two-parts start (hex_by 7 (w / 16)) (capital (w % 16) ∷ [])
        ∙ ap (λ (s : Run). run_over s (capital (w % 16) ∷ [])) seven
        ∙ last-run n w fits

  -- ---- the words of a line
  words-run : (kind : Kind) (ks : List Float) (ns : List ℕ) (c e m : ℕ) (v n : ℕ) (ws : List ℕ) → Taken kind n ws → Fit ws →
      run_over (holding (line kind word_end v n) ks ns c e m) (words_text ws)
      ≡ holding (line kind word_end (last_of v ws) (count_from n ws)) (ks ++ kept_from n ws) ns c e m
  unfolding words_text count_from kept_from last_of Taken Fit run_over
  words-run kind ks ns c e m v n [] taken fit = rw (append-nil ks)
  words-run kind ks ns c e m v n (w ∷ ws) taken fit =
      let start = holding (line kind word_end v n) ks ns c e m in
      read-in-two-parts start (32 ∷ hex_by 8 w) (words_text ws)
      ∙ ap (λ (s : Run). run_over s (words_text ws)) (word-run kind ks ns c e m v n w taken.0 fit.0)
      ∙ words-run kind (ks ++ kept_one n w) ns c e m w (one_more n) ws taken.1 fit.1
      ∙ ap (λ (l : List Float). holding (line kind word_end (last_of w ws) (count_from (one_more n) ws)) l ns c e m)
      (append_assoc ks (kept_one n w) (kept_from (one_more n) ws))

  -- ---- the end of a line
  abbrev lengths_with : Kind → List ℕ → ℕ → List ℕ
  lengths_with kind ns n = cond (is_still kind) (ns ++ (n ∷ [])) ns

  end-run : (kind : Kind) (ks : List Float) (ns : List ℕ) (c e m : ℕ) (v n : ℕ) → is_whole kind n ≡ true →
      byte_more (holding (line kind word_end v n) ks ns c e m) 10
      ≡ holding (line kind between 0 n) ks (lengths_with kind ns n) (cart_end kind (stored ks d) c) (way_end kind (stored ks d) e) (next_line m)
  unfolding reader_after floats_after lengths_of line_after after_word
  end-run Nothing ks ns c e m v n whole = absurd (let z : ◌≡◌ {A = ℕ} 0 1 = cc in omega arith)
  end-run Slop ks ns c e m v n whole = rw whole
  end-run Cart ks ns c e m v n whole = refl
  end-run At ks ns c e m v n whole = rw whole
  end-run Still ks ns c e m v n whole = rw (stored_more ns d' n, filled_more ns d' n)

  -- ---- a line
  name-run : (last kind : Kind) → Follows last kind → (ks : List Float) (ns : List ℕ) (c e m n : ℕ) →
      run_over (holding (line last between 0 n) ks ns c e m) (name kind) ≡ holding (line kind word_end 0 0) ks ns c e m
  unfolding run_over reader_after floats_after lengths_of line_after in_name named
  name-run _ _ slop-first ks ns c e m n = refl
  name-run _ _ then-cart ks ns c e m n = refl
  name-run _ _ first_way ks ns c e m n = refl
  name-run _ _ next_way ks ns c e m n = refl
  name-run _ _ still-behind-cart ks ns c e m n = refl
  name-run _ _ still-behind-way ks ns c e m n = refl
  name-run _ _ next-still ks ns c e m n = refl

  -- a run between two lines that holds these
  pub data Between (kind : Kind) (ks : List Float) (ns : List ℕ) (c e : ℕ) : Run → Type 0 where
    holds : (n m : ℕ) → Between kind ks ns c e (holding (line kind between 0 n) ks ns c e m)

  line-run : (last kind : Kind) (ks : List Float) (ns : List ℕ) (c e : ℕ) (ws : List ℕ) (s : Run) → Follows last kind → Taken kind 0 ws →
      is_whole kind (count_from 0 ws) ≡ true → Fit ws → Between last ks ns c e s →
      Between kind (ks ++ kept_from 0 ws) (lengths_with kind ns (count_from 0 ws)) (cart_end kind (stored (ks ++ kept_from 0 ws) d) c)
      (way_end kind (stored (ks ++ kept_from 0 ws) d) e) (run_over s (line_text kind ws))
  unfolding run_over
  line-run last kind ks ns c e ws _ follows taken whole fit (holds n m) =
      let start = holding (line last between 0 n) ks ns c e m in
      rw (
        read-in-two-parts start (name kind ++ words_text ws) (10 ∷ []),
        read-in-two-parts start (name kind) (words_text ws),
        name-run last kind follows ks ns c e m n,
        words-run kind ks ns c e m 0 0 ws taken fit,
        end-run kind (ks ++ kept_from 0 ws) ns c e m (last_of 0 ws) (count_from 0 ws) whole,
      )
      (holds (count_from 0 ws) (next_line m))

-- ---- of a line at most the first 129 numbers are kept, and counted
abbrev pub firsts_of : List ℕ → List Float
firsts_of ws = take most_words (numbers ws)

module _ (d : List Float) (d' : List ℕ) where
  kept-from : (n : ℕ) (ws : List ℕ) → n ≤ 129 → kept_from n ws ≡ take (129 - n) (numbers ws)
  unfolding kept_from
  kept-from n [] most = sym (take-nil (129 - n))
  kept-from n (w ∷ ws) most = go (ltb n 129) refl (λ k. kept-from k ws)
    where
      go : (t : Bool) → ltb n 129 ≡ t → ((k : ℕ) → k ≤ 129 → kept_from k ws ≡ take (129 - k) (numbers ws))
          → cond t (of_bits binary32 w ∷ []) [] ++ kept_from (cond t (n + 1) n) ws ≡ take (129 - n) (of_bits binary32 w ∷ numbers ws)
      go true e rest =
          let less : n < 129 = ltb-true n 129 e in
          let next : 129 - n ≡ suc (129 - (n + 1)) = omega arith in
          rw next (ap (λ (l : List Float). of_bits binary32 w ∷ l) (rest (n + 1) (omega arith)))
      go false e rest =
          let none : 129 - n ≡ 0 = omega (arith, ltb-false n 129 e) in
          rest n most ∙ rw none

  count-from : (n : ℕ) (ws : List ℕ) → n ≤ 129 → count_from n ws ≡ n + length (take (129 - n) (numbers ws))
  unfolding count_from
  count-from n [] most = rw (take-nil {A = Float} (129 - n)) (omega arith)
  count-from n (w ∷ ws) most = go (ltb n 129) refl (λ k. count-from k ws)
    where
      go : (t : Bool) → ltb n 129 ≡ t → ((k : ℕ) → k ≤ 129 → count_from k ws ≡ k + length (take (129 - k) (numbers ws)))
          → count_from (cond t (n + 1) n) ws ≡ n + length (take (129 - n) (of_bits binary32 w ∷ numbers ws))
      go true e rest =
          let less : n < 129 = ltb-true n 129 e in
          let next : 129 - n ≡ suc (129 - (n + 1)) = omega arith in
          rw next (rest (n + 1) (omega arith) ∙ omega arith)
      go false e rest =
          let none : 129 - n ≡ 0 = omega (arith, ltb-false n 129 e) in
          rest n most ∙ rw none

  kept-is : (ws : List ℕ) → kept_from 0 ws ≡ firsts_of ws
  kept-is ws = kept-from 0 ws (omega arith)

  count-is : (ws : List ℕ) → count_from 0 ws ≡ length (firsts_of ws)
  count-is ws = count-from 0 ws (omega arith) ∙ omega arith

  -- ---- the lines of a text
  open-taken : (kind : Kind) → ((n : ℕ) → takes_word kind n ≡ true) → (n : ℕ) (ws : List ℕ) → Taken kind n ws
  unfolding Taken
  open-taken kind takes n [] = tt
  open-taken kind takes n (w ∷ ws) = (takes n, open-taken kind takes (one_more n) ws)

  slop-run : (slop : ℕ) → slop < 2 ^ 32 → Between d d' Slop (of_bits binary32 slop ∷ []) [] 0 0 (run_over (run no_text d d') (line_text Slop (slop ∷ [])))
  unfolding Taken Fit kept_from count_from filled stored
  slop-run slop fits = line-run d d' Nothing Slop [] [] 0 0 (slop ∷ []) (run no_text d d') slop-first (refl, tt) refl (fits, tt) (holds 0 0)

  cart-run : (ks : List Float) (s : Run) (cart : List ℕ) → Fit cart → Between d d' Slop ks [] 0 0 s →
      Between d d' Cart (ks ++ firsts_of cart) [] (stored (ks ++ firsts_of cart) d) (stored (ks ++ firsts_of cart) d) (run_over s (line_text Cart cart))
  cart-run ks s cart fit b =
      rw (kept-is cart) at (line-run d d' Slop Cart ks [] 0 0 cart s then-cart (open-taken Cart (λ n. refl) 0 cart) refl fit b)

  way-run : (last : Kind) → Follows last At → (ks : List Float) (ns : List ℕ) (c e : ℕ) (s : Run) (w : Way) → Fit (way_words w) →
      Between d d' last ks ns c e s →
      Between d d' At (ks ++ numbers (way_words w)) ns c (stored (ks ++ numbers (way_words w)) d) (run_over s (line_text At (way_words w)))
  unfolding Taken kept_from count_from
  way-run last follows ks ns c e s w fit b =
      line-run d d' last At ks ns c e (way_words w) s follows (refl, (refl, (refl, (refl, tt)))) refl fit b

  still-run : (last : Kind) → Follows last Still → (ks : List Float) (ns : List ℕ) (c e : ℕ) (s : Run) (ws : List ℕ) → Fit ws →
      Between d d' last ks ns c e s → Between d d' Still (ks ++ firsts_of ws) (ns ++ (length (firsts_of ws) ∷ [])) c e (run_over s (line_text Still ws))
  still-run last follows ks ns c e s ws fit b =
      rw (kept-is ws, count-is ws) at (line-run d d' last Still ks ns c e ws s follows (open-taken Still (λ n. refl) 0 ws) refl fit b)

  -- behind the cart or a waypoint, and behind any line that a text may end with
  pub data Ready (ks : List Float) (ns : List ℕ) (c e : ℕ) (s : Run) : Type 0 where
    behind-cart : Between d d' Cart ks ns c e s → Ready ks ns c e s
    behind-way : Between d d' At ks ns c e s → Ready ks ns c e s

  pub data Done (ks : List Float) (ns : List ℕ) (c e : ℕ) (s : Run) : Type 0 where
    no-still : Ready ks ns c e s → Done ks ns c e s
    behind-still : Between d d' Still ks ns c e s → Done ks ns c e s

  ways-run : (ks : List Float) (ns : List ℕ) (c : ℕ) (s : Run) (ways : List Way) → FitWays ways → Ready ks ns c (stored ks d) s →
      Ready (ks ++ way_numbers ways) ns c (stored (ks ++ way_numbers ways) d) (run_over s (ways_text ways))
  unfolding ways_text way_numbers FitWays run_over
  ways-run ks ns c s [] fit r = rw (append-nil ks) r
  ways-run ks ns c s (w ∷ ways) fit r =
      let next = ways-run (ks ++ numbers (way_words w)) ns c (run_over s (line_text At (way_words w))) ways fit.1 (one r) in
      rw (read-in-two-parts s (line_text At (way_words w)) (ways_text ways)) (rw (append_assoc ks (numbers (way_words w)) (way_numbers ways)) at next)
    where
      one : Ready ks ns c (stored ks d) s
          → Ready (ks ++ numbers (way_words w)) ns c (stored (ks ++ numbers (way_words w)) d) (run_over s (line_text At (way_words w)))
      one (behind-cart b) = behind-way (way-run Cart first_way ks ns c (stored ks d) s w fit.0 b)
      one (behind-way b) = behind-way (way-run At next_way ks ns c (stored ks d) s w fit.0 b)

  stills-run : (ks : List Float) (ns : List ℕ) (c e : ℕ) (s : Run) (stills : List (List ℕ)) → FitStills stills → Done ks ns c e s →
      Done (ks ++ joined (map firsts_of stills)) (ns ++ sizes (map firsts_of stills)) c e (run_over s (stills_text stills))
  unfolding stills_text joined sizes FitStills run_over
  stills-run ks ns c e s [] fit r = rw (append-nil ks, append-nil ns) r
  stills-run ks ns c e s (w ∷ stills) fit r =
      let next =
      stills-run (ks ++ firsts_of w) (ns ++ (length (firsts_of w) ∷ [])) c e (run_over s (line_text Still w)) stills fit.1 (behind-still (one r)) in
      rw (read-in-two-parts s (line_text Still w) (stills_text stills))
      (rw (
        append_assoc ks (firsts_of w) (joined (map firsts_of stills)),
        append_assoc ns (length (firsts_of w) ∷ []) (sizes (map firsts_of stills)),
      ) at next)
    where
      one : Done ks ns c e s → Between d d' Still (ks ++ firsts_of w) (ns ++ (length (firsts_of w) ∷ [])) c e (run_over s (line_text Still w))
      one (no-still (behind-cart b)) = still-run Cart still-behind-cart ks ns c e s w fit.0 b
      one (no-still (behind-way b)) = still-run At still-behind-way ks ns c e s w fit.0 b
      one (behind-still b) = still-run Still next-still ks ns c e s w fit.0 b

  -- ---- the whole text
  pub text-run : (slop : ℕ) (cart : List ℕ) (ways : List Way) (stills : List (List ℕ)) → slop < 2 ^ 32 → Fit cart → FitWays ways → FitStills stills →
      Done (of_bits binary32 slop ∷ (firsts_of cart ++ way_numbers ways ++ joined (map firsts_of stills))) (sizes (map firsts_of stills))
      (stored (of_bits binary32 slop ∷ firsts_of cart) d) (stored (of_bits binary32 slop ∷ (firsts_of cart ++ way_numbers ways)) d)
      (run_over (run no_text d d') (route_text slop cart ways stills))
  text-run slop cart ways stills fits fit-cart fit-ways fit-stills =
      let start = run no_text d d' in
      let a = line_text Slop (slop ∷ []) in
      let b = line_text Cart cart in
      let at-slop = slop-run slop fits in
      let at-cart = cart-run (of_bits binary32 slop ∷ []) _ cart fit-cart at-slop in
      let at-way = ways-run (of_bits binary32 slop ∷ firsts_of cart) [] _ _ ways fit-ways (behind-cart at-cart) in
      rw (
        read-in-two-parts start (a ++ b ++ ways_text ways) (stills_text stills),
        read-in-two-parts start (a ++ b) (ways_text ways),
        read-in-two-parts start a b,
      )
      (stills-run (of_bits binary32 slop ∷ (firsts_of cart ++ way_numbers ways)) [] _ _ _ stills fit-stills (no-still at-way))
