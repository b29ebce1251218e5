-- What was written ends within the room for it.
use Rattle.text.proofs.Ends.{prefix}
use Rattle.any_contact.proofs.tell_answer.Goals as goal

pub slice_bounds-text-end : goal.slice_bounds-text-end
slice_bounds-text-end g c = (prefix c.write_found-n.ensures c.write_found-n.auto.out).0

pub slice_bounds-write_to_output-end : goal.slice_bounds-write_to_output-end
slice_bounds-write_to_output-end g c = (prefix c.write_found-n.ensures c.write_found-n.auto.out).1
