-- Written by tests/written/wide.py from work, in f64.
-- `work::work_block` meets its contract: the lent parts of the arrays are the block's points and numbers. Assumes nothing.
use mathlib.Core.Path.{sym}
use Prim.Native.Nat.{◌*◌, ◌≤◌}
use native.Mathlib.Omega.{arith}
use lib.Seq.{length-take-le}
use borrow.Author.Rules.{rules}
use Rattle.work64.proofs.work_block.Goals as goal

pub slice_bounds-sweep_of-end : goal.slice_bounds-sweep_of-end
slice_bounds-sweep_of-end c = sym (length-take-le _ _ (search rules))

pub slice_bounds-sweep_of-end-2 : goal.slice_bounds-sweep_of-end-2
slice_bounds-sweep_of-end-2 c = sym (length-take-le _ _ (search rules))

pub slice_bounds-sweep_of-end-3 : goal.slice_bounds-sweep_of-end-3
slice_bounds-sweep_of-end-3 c = sym (length-take-le 24 c.floats_at-numbers.result (search rules))

pub returns : goal.returns
returns c =
    let a = c.args in
    let n-a : 2 * a.k.count_a ≤ 32 = omega (arith, c.requires) in
    let n-b : 2 * a.k.count_b ≤ 32 = omega (arith, c.requires) in
    rw (
      c.sweep_of.ensures,
      c.floats_at-points_a.ensures.1 (2 * a.k.count_a) n-a,
      c.floats_at-points_b.ensures.1 (2 * a.k.count_b) n-b,
      c.floats_at-numbers.ensures.1 24 (omega arith),
    )
