-- `grid_job::grid_job` meets its contract. Assumes nothing.
use Rattle.std.proofs.Common.{Option, Some, None, MatchOption}
use Rattle.board.specs.declared.GridJob.{GridJob}
use Rattle.grid_job.proofs.Laws.{steady, on-board}
use Rattle.grid_job.proofs.grid_job.Goals as goal

-- of a job, or of none
of_job : (o : Option GridJob) (P P' : Type 0) (Q Q' : GridJob → Type 0) → (P → P') → ((job : GridJob) → Q job → Q' job) → MatchOption o P Q
    → MatchOption o P' Q'
of_job None P P' Q Q' f g h = f h
of_job (Some job) P P' Q Q' f g h = g job h

pub returns : goal.returns
returns c =
    let f = c.args in
    let a = c.body_of-a in
    let b = c.body_of-b in
    of_job c.job_of.result _ _ _ _
    (λ none o. none
    (steady f.points_a.now f.numbers.now 2 c.in_ok-g.g _ _ a.result a.ensures o.ordinary.turns_a)
    (steady f.points_b.now f.numbers.now 7 c.in_ok-g.g _ _ b.result b.ensures o.ordinary.turns_b))
    (λ job joined. on-board f.points_a.now f.points_b.now f.numbers.now c.in_ok-g.g _ _ _ _ a.result b.result job a.ensures b.ensures joined)
    c.job_of.ensures
