-- Blocks counted in one after the other, and batches one behind another put together one after the other. Assumes nothing.
use mathlib.Core.Path.{◌≡◌, refl, sym, ap, ◌∙◌}
use mathlib.Core.List.{List, [], ◌∷◌, ◌++◌}
use Prim.Native.Nat.{ℕ, ◌+◌, ◌*◌, ◌-◌, ◌/◌, ◌%◌, ◌<◌, ◌≤◌}
use native.Mathlib.Omega.{arith}
use native.Mathlib.Numerals.{add-one}
use Rattle.std.specs.Prelude.{min}
use Rattle.std.proofs.Math.Nat.{min_comm}
use borrow.Author.Tests.{eq-eqb, ne_eqb}
use lib.Ieee.{binary32}
use lib.ListN.{length, get_or, take, drop}
use lib.Seq.{take_all, take-suc}
use Rattle.std.proofs.lemmas.List.{take_min, drop_min}
use Rattle.model.specs.Work.{block_answer, BlockAnswer}
use Rattle.model.specs.Blocks.{whole_blocks}
use Rattle.model.specs.Sheet.{whole_answers, rest_answer, answers}
use Rattle.model.specs.Block.{refused}
use Rattle.model.proofs.Sheet.{answers-more, answers-cut}
use Rattle.report_counts.specs.declared.counting.Report.{Report}
use Rattle.report_counts.specs.Report.{report, counted, counted_all, together}
use Rattle.report_counts.proofs.Merged.{counted-all, counted-one-by-one, report-of-both}
use Rattle.report_batches.specs.Batches.{batches_in}

-- ---- blocks
pub no_block : (r : Report) (b : List ℕ) → r ≡ counted_all r (whole_answers binary32 0 b)
unfolding whole_blocks counted_all
no_block r b = refl

last-counted : (r so : Report) (xs : List BlockAnswer) (x : BlockAnswer) → so ≡ counted_all r xs → counted so x ≡ counted_all r (xs ++ (x ∷ []))
unfolding counted_all
last-counted r so xs x is = rw is (sym (counted-all r xs (x ∷ [])))

-- block i, answered by x
pub block_more : (r so : Report) (b : List ℕ) (i : ℕ) (x : BlockAnswer) → so ≡ counted_all r (whole_answers binary32 i b) →
    x ≡ block_answer binary32 (take 512 (drop (512 * i) b)) → counted so x ≡ counted_all r (whole_answers binary32 (i + 1) b)
block_more r so b i x is here = rw (add-one, answers-more binary32 i b, ← here) (last-counted r so (whole_answers binary32 i b) x is)

-- ---- a rest
pub no-rest : (r : Report) (rest : ℕ) → rest ≡ 0 → r ≡ counted_all r (rest_answer rest)
unfolding counted_all
no-rest r rest e = rw (eq-eqb rest 0 e)

pub a-rest : (r : Report) (rest : ℕ) → (rest ≡ 0 → ⊥) → counted r (refused 0 9) ≡ counted_all r (rest_answer rest)
unfolding counted_all
a-rest r rest h = rw (ne_eqb rest 0 h)

pub blocks-and-rest : (r so : Report) (b : List ℕ) → so ≡ counted_all r (whole_answers binary32 (length b / 512) b) →
    counted_all so (rest_answer (length b % 512)) ≡ counted_all r (answers binary32 b)
blocks-and-rest r so b is = rw (answers-cut binary32 b, is) (sym (counted-all r (whole_answers binary32 (length b / 512) b) (rest_answer (length b % 512))))

-- ---- batches
-- a batch whole
pub whole-batch : (xs : List BlockAnswer) → counted_all (report ([] ∷ [])) xs ≡ report (xs ∷ [])
whole-batch xs = counted-one-by-one [] xs

-- what is left behind batches of so many bytes
unfoldable pub left_over : List ℕ → List ℕ → List ℕ
left_over [] b = b
left_over (n ∷ ns) b = left_over ns (drop n b)

left-more : (ns : List ℕ) (n : ℕ) (b : List ℕ) → left_over (ns ++ (n ∷ [])) b ≡ drop n (left_over ns b)
unfolding left_over
left-more [] n b = refl
left-more (m ∷ ns) n b = left-more ns n (drop m b)

batches-more : (ns : List ℕ) (n : ℕ) (b : List ℕ) → batches_in (ns ++ (n ∷ [])) b ≡ batches_in ns b ++ (answers binary32 (take n (left_over ns b)) ∷ [])
unfolding left_over batches_in
batches-more [] n b = refl
batches-more (m ∷ ns) n b = ap (λ (l : List (List BlockAnswer)). answers binary32 (take m b) ∷ l) (batches-more ns n (drop m b))

-- the reports of the first i batches, and the bytes behind them
pub record Reported (sizes b : List ℕ) (i : ℕ) (rest : List ℕ) (so : Report) : Type 0 where
  pub left : rest ≡ left_over (take i sizes) b
  pub report : so ≡ report (batches_in (take i sizes) b)

pub none-reported : (sizes b : List ℕ) (so : Report) → so ≡ report [] → Reported sizes b 0 b so
unfolding left_over batches_in
none-reported sizes b so is = record { left = refl; report = is }

pub all-reported : {sizes b : List ℕ} {i : ℕ} {rest : List ℕ} {so : Report} → length sizes ≤ i → Reported sizes b i rest so → so ≡ report (batches_in sizes b)
all-reported {sizes} {b} {i} h r = r.report ∙ rw (take_all i sizes h)

-- batch i, of so many bytes or of all that are left, counted into one
pub one-reported : {sizes b : List ℕ} {i : ℕ} {rest : List ℕ} {so : Report} → Reported sizes b i rest so → i < length sizes → (one : Report)
    → one ≡ counted_all (report ([] ∷ [])) (answers binary32 (take (min (length rest) (get_or sizes i 0)) rest))
    → Reported sizes b (i + 1) (drop (min (length rest) (get_or sizes i 0)) rest) (together so one)
one-reported {sizes} {b} {i} {rest} {so} before more one is =
    let n = get_or sizes i 0 in
    let ns = take i sizes in
    let cut : take (i + 1) sizes ≡ ns ++ (n ∷ []) = rw add-one (take-suc sizes i 0 more) in
    let most : min (length rest) n ≡ min n (length rest) = min_comm (length rest) n in
    let batch : one ≡ report (answers binary32 (take n (left_over ns b)) ∷ []) =
    rw (most, take_min n rest, before.left) at is ∙ whole-batch (answers binary32 (take n (left_over ns b))) in
    record {
      left = rw (most, drop_min n rest, before.left, cut) (sym (left-more ns n b));
      report = rw (before.report, batch, cut, batches-more ns n b) (sym (report-of-both (batches_in ns b) (answers binary32 (take n (left_over ns b)) ∷ [])));
    }
