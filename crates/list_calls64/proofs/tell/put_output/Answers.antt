-- Written by tests/written/wide.py from list_calls, in f64.
-- `list_calls::tell::put_output` meets its contract: every place is stored to. Assumes nothing.
use native.Mathlib.Omega.{arith}
use lib.ListN.{length-set}
use Rattle.list_calls64.specs.Entry.{output_floats}
use Rattle.list_calls64.proofs.Filled.{stored, filled}
use Rattle.list_calls64.proofs.tell.put_output.Goals as goal

pub bounds-out-4 : goal.bounds-out-4
bounds-out-4 c = simp length-set (omega arith)

pub bounds-out-5 : goal.bounds-out-5
bounds-out-5 c = simp length-set (omega arith)

pub bounds-out-6 : goal.bounds-out-6
bounds-out-6 c = simp length-set (omega arith)

pub returns : goal.returns
unfolding stored
returns c = filled c.args.out.now (output_floats c.args.o) c.requires
