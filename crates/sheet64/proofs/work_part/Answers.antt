-- Written by tests/written/wide.py from sheet, in f64.
-- The text that was written ends within the room for it.
use Rattle.text.proofs.Ends.{prefix}
use Rattle.sheet64.proofs.work_part.Goals as goal

pub slice_bounds-write_to_output-end : goal.slice_bounds-write_to_output-end
slice_bounds-write_to_output-end g c = (prefix c.write_part-written.ensures.put c.write_part-written.auto.out).0

pub slice_bounds-write_to_output-end-2 : goal.slice_bounds-write_to_output-end-2
slice_bounds-write_to_output-end-2 g c = (prefix c.write_part-written.ensures.put c.write_part-written.auto.out).1
