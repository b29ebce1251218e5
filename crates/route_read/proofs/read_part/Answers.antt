-- `route_read::read_part` meets its contract: what is left to read comes to what the whole does. Assumes nothing.
use borrow.Author.Rules.{rules}
use mathlib.Core.Path.{◌≡◌, refl, ◌∙◌}
use Prim.Native.Nat.{◌≤◌, ◌-◌}
use native.Mathlib.Omega.{arith}
use lib.ListN.{length, drop}
use Rattle.route_read.specs.Read.{run, run_over}
use Rattle.route_read.proofs.Runs.{read-on, read_whole}
use Rattle.route_read.proofs.read_part.Goals as goal

pub loop-x-preserved : goal.loop-x-preserved
loop-x-preserved c = let l = c.loop-x in
    let part = c.args.part.now in
    let e = c.read_byte-after in
    let one = read-on part l.x-index l.after _ l.floats _ l.lengths _ (omega arith) e.ensures.0 e.ensures.1 e.ensures.2 in (
      e.auto.floats ∙ l.invariant.0,
      e.auto.lengths ∙ l.invariant.1,
      one ∙ l.invariant.2,
    )

pub shape_of-floats : goal.shape_of-floats
shape_of-floats c = c.loop-x.invariant.0

pub shape_of-lengths : goal.shape_of-lengths
shape_of-lengths c = c.loop-x.invariant.1

pub returns : goal.returns
returns c = let l = c.loop-x in read_whole c.args.part.now l.x-index _ _ _ _ (omega arith) (omega arith) l.invariant.2
