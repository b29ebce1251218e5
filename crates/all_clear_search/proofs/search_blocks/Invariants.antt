-- `all_clear_search::search_blocks` meets its contract: what is found among the blocks left is found among all. Assumes nothing.
use Rattle.std.proofs.Common.{◌≡◌, ◌+◌, ◌/◌, length}
use Rattle.runs.proofs.Walked.{Walked}
use Rattle.all_clear_search.proofs.First.{LeftFrom}
use Rattle.all_clear_search.proofs.search_blocks.Given as goal

abbrev pub invariant-loop-block : goal.invariant-loop-block
invariant-loop-block l =
    let i = length l.yielded in
    Walked l.part i l.block-iterator × (l.n ≡ l.before + i) × LeftFrom l.part (length l.part / 512) l.before l.n i
