-- `list_calls::tell::output_number` meets its contract: both numbers are small. Assumes nothing.
use native.Mathlib.Omega.{arith}
use Rattle.list_calls.proofs.Told.{ending-small}
use Rattle.list_calls.proofs.tell.output_number.Goals as goal

pub overflow_add-result : goal.overflow_add-result
overflow_add-result c = omega (arith, c.ending_number.ensures, ending-small c.args.ending)
