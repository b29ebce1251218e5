-- The counts of what is done again from the same state.
use Rattle.std.specs.Prelude.{ℕ, ◌+◌, ◌-◌, ◌*◌}
use Rattle.model.specs.declared.Counts.{Counts}
use Rattle.model.specs.SweepToi.{counts}

-- what came to the counts n on the way to m
abbrev pub since : Counts → Counts → Counts
since n m = counts (m.distance_calls - n.distance_calls) (m.searches - n.searches) (m.root_steps - n.root_steps)

-- the counts n, and k times d more
abbrev pub further : Counts → ℕ → Counts → Counts
further n k d = counts (n.distance_calls + k * d.distance_calls) (n.searches + k * d.searches) (n.root_steps + k * d.root_steps)
