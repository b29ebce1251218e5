-- `job_text::build::build_block` meets its contract: the words so far stand at the start, their sum has wrapped as it goes. Assumes nothing.
use Rattle.std.proofs.Common.{◌≡◌, ◌-◌, ◌*◌, ◌%◌, ◌^◌, ◌≤◌, length}
use Rattle.text.specs.Put.{Put}
use Rattle.job_text.specs.Job.{first_words, sum_of_first}
use Rattle.job_text.proofs.build.build_block.Given as goal

abbrev pub invariant-loop-i : goal.invariant-loop-i
invariant-loop-i l = (l.at ≡ 4 * l.i) × (length l.block ≡ 512) × Put l.initial.block 0 (first_words l.numbers l.i) l.block l.at
    × (l.sum ≡ sum_of_first l.numbers l.i % 2 ^ 32)
