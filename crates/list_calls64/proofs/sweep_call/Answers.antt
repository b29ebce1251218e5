-- Written by tests/written/wide.py from list_calls, in f64.
-- `list_calls::sweep_call` meets its contract: the lists have their lengths, and the answer is told. Assumes nothing.
use mathlib.Core.Path.{ap, ◌∙◌}
use lib.Ieee.{binary64}
use Rattle.model64.specs.Work.{told}
use Rattle.list_calls64.proofs.Told.{sweep-lengths, sweep-told, sweep-misfit}
use Rattle.list_calls64.proofs.sweep_call.Goals as goal

pub tell_sweep-requires : goal.tell_sweep-requires
tell_sweep-requires c = let a = c.args in
    let sizes = sweep-lengths a.numbers.now a.out.now a.counts.now c.if-numbers-out.true in
    (sizes.1, sizes.2)

pub returns-then-numbers-out : goal.returns-then-numbers-out
returns-then-numbers-out c = let a = c.args in
    let is = c.told.ensures
    ∙ ap (told binary64) c.sweep_of-swept.ensures in
    sweep-told a.numbers.now a.out.now a.counts.now a.points_a.now a.points_b.now _ _ _ _
    c.if-numbers-out.true is c.tell_sweep.ensures

pub returns-else-numbers-out : goal.returns-else-numbers-out
returns-else-numbers-out c = let a = c.args in
    sweep-misfit a.numbers.now a.out.now a.counts.now a.points_a.now a.points_b.now c.if-numbers-out.false
