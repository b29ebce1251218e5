-- `any_contact_search::search_blocks` meets its contract: what is left to search tells what the whole does. Assumes nothing.
use Rattle.std.proofs.Common.{◌≡◌, ◌+◌, ◌/◌, length}
use Rattle.std.specs.Float.{binary32}
use Rattle.model.specs.Sheet.{whole_answers}
use Rattle.runs.proofs.Walked.{Walked}
use Rattle.any_contact_search.specs.First.{first_from}
use Rattle.any_contact_search.proofs.Blocks.{left_from}
use Rattle.any_contact_search.proofs.search_blocks.Given as goal

abbrev pub invariant-loop-block : goal.invariant-loop-block
invariant-loop-block l =
    let i = length l.yielded in
    let k = length l.part / 512 in
    Walked l.part i l.block-iterator × (l.n ≡ l.before + i) × (left_from l.part k l.n i ≡ first_from l.before (whole_answers binary32 k l.part))
