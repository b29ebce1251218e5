-- `report_lines::put_named` meets its contract: the name, and then the place. Assumes nothing.
use native.Mathlib.Omega.{arith}
use lib.ListN.{length}
use Rattle.text.proofs.Written.{there, wrote-then, wrote-most}
use Rattle.report_lines.proofs.put_named.Goals as goal

pub returns : goal.returns
returns c = wrote-most (omega (arith, c.requires.1))
    (wrote-then (omega arith) (there (length c.args.name.now) c.put.ensures (omega (arith, c.requires.0, c.requires.1))) c.put_most.ensures)
