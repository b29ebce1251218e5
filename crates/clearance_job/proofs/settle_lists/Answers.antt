-- The job on its board, and the promise from what is said there. Assumes nothing.
use Rattle.std.proofs.Common.{Option, Some, None, IfSome}
use Rattle.clearance_verdict.specs.declared.Answer.{Answer}
use Rattle.clearance_job.proofs.Laws.{counted, promised}
use Rattle.clearance_job.proofs.settle_lists.Goals as goal

-- of an answer, or of none
of_answer : (o : Option Answer) (P Q : Answer → Type 0) → ((a : Answer) → P a → Q a) → IfSome o P → IfSome o Q
of_answer None P Q g h = h
of_answer (Some a) P Q g h = g a h

pub returns : goal.returns
returns c =
    let f = c.args in (
      of_answer c.settle_board.result _ _
          (λ a spoken. (
            promised f.points_a.now f.points_b.now f.numbers.now f.from _ _ _ _ _ spoken.part c.in_ok-job.ensures spoken.asked a spoken.settled,
            counted f.points_a.now f.points_b.now f.numbers.now f.from _ _ _ _ _ spoken.part c.in_ok-job.ensures spoken.asked a spoken.settled,
          ))
          c.settle_board.ensures.0,
      λ o h. c.settle_board.ensures.1 h,
    )
