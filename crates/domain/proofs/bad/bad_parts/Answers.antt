-- `bad::bad_parts` meets its contract. The invariant: a bad part was met, or what is left has one, just where the list has one. Assumes nothing.
use Prim.Native.Nat.{◌+◌}
use mathlib.Core.Bool.{Bool, ◌||◌}
use mathlib.Core.Path.{sym, ap, ◌∙◌}
use lib.Ieee.{nan, binary32}
use lib.ListN.{get_or, drop}
use Rattle.model.specs.Domain.{bad_part, bad_parts}
use Rattle.domain.proofs.Laws.{parts-step, parts-stop, either_way}
use Rattle.domain.proofs.bad.bad_parts.Goals as goal

pub loop-x-preserved : goal.loop-x-preserved
loop-x-preserved c = let l = c.loop-x in
    let s = c.args.points.now in
    let step = parts-step binary32 s l.x-index c.loop-x-test.true in
    let order = either_way (bad_part binary32 (get_or s l.x-index nan)) (bad_parts binary32 (drop (l.x-index + 1) s)) l.bad in
    simp c.bad_part-bad.ensures (sym order ∙ ap (λ (b : Bool). b || l.bad) (sym step) ∙ l.invariant)

pub returns : goal.returns
returns c = let l = c.loop-x in
    simp (parts-stop binary32 c.args.points.now l.x-index c.loop-x-test.false) at l.invariant
