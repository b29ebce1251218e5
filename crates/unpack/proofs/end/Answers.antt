-- What was written ends within the room for it.
use Rattle.text.proofs.Ends.{prefix}
use Rattle.unpack.proofs.end.Goals as goal

pub slice_bounds-write_to_error-end : goal.slice_bounds-write_to_error-end
slice_bounds-write_to_error-end g c = (prefix c.tell_rest-n.ensures c.tell_rest-n.auto.err).0

pub slice_bounds-write_to_error-end-2 : goal.slice_bounds-write_to_error-end-2
slice_bounds-write_to_error-end-2 g c = (prefix c.tell_rest-n.ensures c.tell_rest-n.auto.err).1
