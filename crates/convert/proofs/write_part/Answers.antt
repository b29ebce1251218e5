-- What was written ends within the room for it.
use Rattle.text.proofs.Ends.{prefix}
use Rattle.convert.proofs.write_part.Goals as goal

pub slice_bounds-write_to-end : goal.slice_bounds-write_to-end
slice_bounds-write_to-end g c = (prefix c.convert_part-converted.ensures.put.0 c.convert_part-converted.auto.file).0

pub slice_bounds-write_to-end-2 : goal.slice_bounds-write_to-end-2
slice_bounds-write_to-end-2 g c = (prefix c.convert_part-converted.ensures.put.0 c.convert_part-converted.auto.file).1

pub slice_bounds-write_to_output-end : goal.slice_bounds-write_to_output-end
slice_bounds-write_to_output-end g c = (prefix c.convert_part-converted.ensures.put.1 c.convert_part-converted.auto.text).0

pub slice_bounds-write_to_output-end-2 : goal.slice_bounds-write_to_output-end-2
slice_bounds-write_to_output-end-2 g c = (prefix c.convert_part-converted.ensures.put.1 c.convert_part-converted.auto.text).1
