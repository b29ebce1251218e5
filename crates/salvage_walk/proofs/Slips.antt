-- Slips that look harmless, each with what the definition says where it would show, computed. Assumes nothing.
use mathlib.Core.Path.{◌≡◌, refl}
use mathlib.Core.List.{[], ◌∷◌}
use Prim.Native.Nat.{ℕ}
use Rattle.model.specs.Text.{decimal_by}
use Rattle.salvage_walk.specs.declared.Walk.{Walk}
use Rattle.salvage_walk.specs.Walk.{next, total_line}
use Rattle.salvage_walk.specs.Walk.Step.{kept}
use Rattle.salvage_walk.specs.Part.{skipped_on}

abbrev walk : ℕ → ℕ → ℕ → Walk
walk k n r = record { kept = k; skipped = n; run = r }

-- the last run goes on with what is left of the file
last-run-miscounted : skipped_on 5 (walk 1 2 3) ≡ walk 1 2 8
last-run-miscounted = refl

-- a run starts behind a block with no byte in it
run-too-long : next (walk 1 2 3) (kept []) ≡ walk 2 5 0
run-too-long = refl

-- `TOTAL 3 9`: the first total is of blocks
totals-count-bytes : total_line (walk 3 4 5) ≡ 84 ∷ 79 ∷ 84 ∷ 65 ∷ 76 ∷ 32 ∷ 51 ∷ 32 ∷ 57 ∷ 10 ∷ []
unfolding total_line decimal_by
totals-count-bytes = refl
