-- Each ending is its law. Assumes nothing.
use Rattle.clearance_call.proofs.Refusals.{pair-refused, sweeps-refused, fraction-refused, start-refused, last-told}
use borrow.Author.Rules.{rules}
use Rattle.clearance_call.proofs.refusal_by.Goals as goal

pub returns-in_default : goal.returns-in_default
returns-in_default c = let f = c.args in
    pair-refused f.points_a.now f.points_b.now f.radii f.limits f.move_a f.move_b f.from
    _ c.check_pair-pair.ensures _ c.in_default.is _ c.refusal.ensures

pub returns-in_default-sweeps : goal.returns-in_default-sweeps
returns-in_default-sweeps c = let f = c.args in
    sweeps-refused f.points_a.now f.points_b.now f.radii f.limits f.move_a f.move_b f.from
    _ c.check_pair-pair.ensures c.in-Ok.is
    _ c.check_sweeps-sweeps.ensures _ c.in_default-sweeps.is _ c.refusal-in_default-sweeps.ensures

pub returns-in_default-fraction : goal.returns-in_default-fraction
returns-in_default-fraction c = let f = c.args in
    fraction-refused f.points_a.now f.points_b.now f.radii f.limits f.move_a f.move_b f.from
    _ c.check_pair-pair.ensures c.in-Ok.is
    _ c.check_sweeps-sweeps.ensures c.in-Ok-sweeps.is
    _ c.check_fraction-fraction.ensures _ c.in_default-fraction.is _ c.refusal-in_default-fraction.ensures

pub returns-in_default-start : goal.returns-in_default-start
returns-in_default-start c = let f = c.args in
    start-refused f.points_a.now f.points_b.now f.radii f.limits f.move_a f.move_b f.from
    _ c.check_pair-pair.ensures c.in-Ok.is
    _ c.check_sweeps-sweeps.ensures c.in-Ok-sweeps.is
    _ c.check_fraction-fraction.ensures c.in-Ok-fraction.is
    _ c.check_from-start.ensures _ c.in_default-start.is _ c.refusal-in_default-start.ensures

pub returns : goal.returns
returns c = let f = c.args in
    last-told f.points_a.now f.points_b.now f.radii f.limits f.move_a f.move_b f.from
    _ c.check_pair-pair.ensures c.in-Ok.is
    _ c.check_sweeps-sweeps.ensures c.in-Ok-sweeps.is
    _ c.check_fraction-fraction.ensures c.in-Ok-fraction.is
    _ c.check_from-start.ensures c.in-Ok-start.is _ c.check_slop.ensures _ c.refusal-2.ensures
