-- What is refused here is what the sheet refuses, by the same line, and both count the same. Assumes nothing.
use Rattle.std.proofs.Common.{Ok, Err}
use mathlib.Core.Path.{◌≡◌, refl, ap}
use mathlib.Core.List.{List, [], ◌∷◌, map}
use Prim.Native.Nat.{ℕ, ◌+◌}
use lib.Ieee.{Format}
use Rattle.model.specs.declared.Status.{Status}
use Rattle.model.specs.declared.Status.TheVariants.{Overlapped, Hit, Separated, Failed}
use Rattle.model.specs.declared.Totals.{Totals}
use Rattle.model.specs.Blocks.{blocks}
use Rattle.model.specs.Sheet.{answer_of, answers, answer_line, one_worked, totals_from}
use Rattle.model.specs.Sheet as Sheet
use Rattle.model.specs.Block.{refused}
use Rattle.model.specs.Work.{BlockAnswer}
use Rattle.gaps_lines.specs.declared.part.Tally.{Tally}
use Rattle.gaps_lines.specs.Gaps.{line_of, none, counted, tally_from}

pub refused-as-on-the-sheet : (f : Format) (n : ℕ) (b : List ℕ) (job number : ℕ) → answer_of f b ≡ refused job number
    → line_of f n b ≡ answer_line f n (answer_of f b)
refused-as-on-the-sheet f n b job number e = rw e

-- ---- the two numbers behind TOTAL are the sheet's first and last
abbrev Agree : Tally → Totals → Type 0
Agree t s = (t.blocks ≡ s.blocks) × (t.refused ≡ s.refused)

one_more : (t : Tally) (s : Totals) (x : BlockAnswer) → Agree t s → Agree (counted t x) (Sheet.counted s x)
one_more t s (Err e) (b, r) = (ap (λ (n : ℕ). n + 1) b, ap (λ (n : ℕ). n + 1) r)
one_more t s (Ok w) (b, r) = go w.verdict.status
  where
    go : (k : Status) → (t.blocks + 1 ≡ (one_worked s k).blocks) × (t.refused ≡ (one_worked s k).refused)
    go Overlapped = (ap (λ (n : ℕ). n + 1) b, r)
    go Hit = (ap (λ (n : ℕ). n + 1) b, r)
    go Separated = (ap (λ (n : ℕ). n + 1) b, r)
    go Failed = (ap (λ (n : ℕ). n + 1) b, r)

all-agree : (f : Format) (t : Tally) (s : Totals) (bs : List (List ℕ)) → Agree t s → Agree (tally_from f t bs) (totals_from s (map (answer_of f) bs))
unfolding tally_from totals_from
all-agree f t s [] h = h
all-agree f t s (b ∷ bs) h =
    all-agree f (counted t (answer_of f b)) (Sheet.counted s (answer_of f b)) bs (one_more t s (answer_of f b) h)

pub counts-as-on-the-sheet : (f : Format) (b : List ℕ) → Agree (tally_from f none (blocks b)) (totals_from Sheet.none (answers f b))
unfolding answers
counts-as-on-the-sheet f b = all-agree f none Sheet.none (blocks b) (refl, refl)
