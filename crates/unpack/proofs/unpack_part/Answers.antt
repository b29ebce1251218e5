-- What was written ends within the room for it.
use Rattle.text.proofs.Ends.{prefix}
use Rattle.unpack.proofs.unpack_part.Goals as goal

pub slice_bounds-write_both-end : goal.slice_bounds-write_both-end
slice_bounds-write_both-end g c = (prefix c.unpack_part-unpacked.ensures.put c.unpack_part-unpacked.auto.out).0

pub slice_bounds-write_both-end-2 : goal.slice_bounds-write_both-end-2
slice_bounds-write_both-end-2 g c = (prefix c.unpack_part-unpacked.ensures.put c.unpack_part-unpacked.auto.out).1

pub slice_bounds-write_both-end-3 : goal.slice_bounds-write_both-end-3
slice_bounds-write_both-end-3 g c = (prefix c.unpack_part-unpacked.ensures.put_2.0 c.unpack_part-unpacked.auto.err).0

pub slice_bounds-write_both-end-4 : goal.slice_bounds-write_both-end-4
slice_bounds-write_both-end-4 g c = (prefix c.unpack_part-unpacked.ensures.put_2.0 c.unpack_part-unpacked.auto.err).1
