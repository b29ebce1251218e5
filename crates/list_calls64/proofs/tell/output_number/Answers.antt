-- Written by tests/written/wide.py from list_calls, in f64.
-- `list_calls::tell::output_number` meets its contract: both numbers are small. Assumes nothing.
use native.Mathlib.Omega.{arith}
use Rattle.list_calls64.proofs.Told.{ending-small}
use Rattle.list_calls64.proofs.tell.output_number.Goals as goal

pub overflow_add-result : goal.overflow_add-result
overflow_add-result c = omega (arith, c.ending_number.ensures, ending-small c.args.ending)
