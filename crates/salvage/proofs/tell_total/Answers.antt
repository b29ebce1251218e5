-- What was written ends within the room for it.
use Rattle.text.proofs.Ends.{prefix}
use Rattle.salvage.proofs.tell_total.Goals as goal

pub slice_bounds-text-end : goal.slice_bounds-text-end
slice_bounds-text-end g c = (prefix c.tell_total-n.ensures c.tell_total-n.auto.text).0

pub slice_bounds-write_to_output-end : goal.slice_bounds-write_to_output-end
slice_bounds-write_to_output-end g c = (prefix c.tell_total-n.ensures c.tell_total-n.auto.text).1
