-- `unpack_blocks::unpack_part` meets its contract: both texts of the blocks so far stand at the start. Assumes nothing.
use Rattle.std.proofs.Common.{◌≡◌, ◌+◌, ◌*◌, ◌≤◌, length, take}
use Rattle.text.specs.Put.{Put}
use Rattle.model.specs.Blocks.{whole_blocks}
use Rattle.runs.proofs.Walked.{Walked}
use Rattle.unpack_blocks.specs.Unpack.{lines_of, refusals_of}
use Rattle.unpack_blocks.proofs.unpack_part.Given as goal

abbrev pub invariant-loop-block : goal.invariant-loop-block
invariant-loop-block l =
    let i = length l.yielded in
    Walked (take (512 * l.n) l.part) i l.block-iterator × (length l.out ≡ length l.initial.out) × (length l.err ≡ length l.initial.err) × (l.places.at ≤ 855 * i)
    × (l.places.told ≤ 42 * i) × (l.blocks ≡ l.before + i) × Put l.initial.out 0 (lines_of (whole_blocks i l.part)) l.out l.places.at
    × Put l.initial.err 0 (refusals_of l.before (whole_blocks i l.part)) l.err l.places.told
