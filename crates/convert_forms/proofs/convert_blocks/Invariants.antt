-- `convert_forms::convert_blocks` meets its contract: what the blocks so far come to stands at the start of both. Assumes nothing.
use Rattle.std.proofs.Common.{◌≡◌, ◌+◌, ◌*◌, ◌≤◌, length}
use Rattle.model.specs.Blocks.{whole_blocks}
use Rattle.runs.proofs.Walked.{Walked}
use Rattle.text.specs.Put.{Put}
use Rattle.convert_forms.specs.Convert.{converted, told_from}
use Rattle.convert_forms.proofs.convert_blocks.Given as goal

abbrev pub invariant-loop-block : goal.invariant-loop-block
invariant-loop-block l =
    let i = length l.yielded in
    Walked l.part i l.block-iterator × (l.n ≡ l.before + i) × (length l.file ≡ length l.initial.file) × (length l.text ≡ length l.initial.text) × (l.at.file ≤ 512 * i)
    × (l.at.text ≤ 21 * i) × Put l.initial.file 0 (converted (whole_blocks i l.part)) l.file l.at.file × Put l.initial.text 0 (told_from l.before (whole_blocks i l.part)) l.text l.at.text
