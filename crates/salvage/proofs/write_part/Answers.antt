-- What was written ends within the room for it.
use Rattle.text.proofs.Ends.{prefix}
use Rattle.salvage.proofs.write_part.Goals as goal

pub slice_bounds-file-end : goal.slice_bounds-file-end
slice_bounds-file-end g c = (prefix c.salvage_part-salvaged.ensures.kept c.salvage_part-salvaged.auto.file).0

pub slice_bounds-write_to-end : goal.slice_bounds-write_to-end
slice_bounds-write_to-end g c = (prefix c.salvage_part-salvaged.ensures.kept c.salvage_part-salvaged.auto.file).1

pub slice_bounds-text-end : goal.slice_bounds-text-end
slice_bounds-text-end g c = (prefix c.salvage_part-salvaged.ensures.told c.salvage_part-salvaged.auto.text).0

pub slice_bounds-write_to_output-end : goal.slice_bounds-write_to_output-end
slice_bounds-write_to_output-end g c = (prefix c.salvage_part-salvaged.ensures.told c.salvage_part-salvaged.auto.text).1
