-- `all_clear_search::count` meets its contract, by whether bytes are left over. Assumes nothing.
use mathlib.Core.Path.{sym}
use native.Mathlib.Omega.{arith}
use Rattle.model.proofs.Blocks.{whole-counted, rest-counted}
use Rattle.all_clear_search.proofs.count.Goals as goal

pub returns-then-part-eq0 : goal.returns-then-part-eq0
returns-then-part-eq0 c = (sym (whole-counted c.args.part.now c.if-part-eq0.true), omega (arith, c.well_formed))

pub returns : goal.returns
returns c = (sym (rest-counted c.args.part.now c.if-part-eq0.false), omega (arith, c.well_formed))
