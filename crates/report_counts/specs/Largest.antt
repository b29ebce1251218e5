-- The largest count on a worked block, with the first batch and block that has it.
use Rattle.std.specs.Prelude.{ℕ, ◌+◌, ◌%◌, ◌^◌, cond, List, [], ◌∷◌, nat_lt, Option, Some, None, Ok, Err}
use Rattle.model.specs.declared.Counts.{Counts}
use Rattle.model.specs.Work.{BlockAnswer}
use Rattle.report_counts.specs.declared.most.Most.{Most}
use Rattle.report_counts.specs.declared.most.Largest.{Largest}

-- a count as 64 bits hold it: below 2 ^ 64 as it is
abbrev pub hold : ℕ → ℕ
hold n = n % 2 ^ 64

abbrev pub plus : ℕ → ℕ → ℕ
plus a b = hold (a + b)

-- a count, and the batch and block that has it
abbrev pub seen_at : ℕ → ℕ → ℕ → Option Most
seen_at n i j = Some (record { count = n; batch = i; block = j })

-- the first where they are equal; any is larger than none
unfoldable pub larger : Option Most → Option Most → Option Most
larger None b = b
larger (Some s) None = Some s
larger (Some s) (Some t) = cond (nat_lt s.count t.count) (Some t) (Some s)

-- its batch moved up
unfoldable pub moved : ℕ → Option Most → Option Most
moved by None = None
moved by (Some s) = seen_at s.count (plus by s.batch) s.block

-- ---- the three counts
abbrev pub largest : Option Most → Option Most → Option Most → Largest
largest calls searches steps = record { calls = calls; searches = searches; steps = steps }

abbrev pub nowhere : Largest
nowhere = largest None None None

abbrev pub larger_each : Largest → Largest → Largest
larger_each a b = largest (larger a.calls b.calls) (larger a.searches b.searches) (larger a.steps b.steps)

abbrev pub moved_each : ℕ → Largest → Largest
moved_each by a = largest (moved by a.calls) (moved by a.searches) (moved by a.steps)

abbrev pub at : ℕ → ℕ → Counts → Largest
at i j n = largest (seen_at n.distance_calls i j) (seen_at n.searches i j) (seen_at n.root_steps i j)

-- of one answer, as block j of batch i; a refused one was not worked
abbrev pub seen : ℕ → ℕ → BlockAnswer → Largest
seen i j (Ok w) = at i j w.verdict.counts
seen i j (Err r) = nowhere

-- of batch i's answers that follow n others
unfoldable pub largest_from : ℕ → ℕ → List BlockAnswer → Largest
largest_from i n [] = nowhere
largest_from i n (x ∷ xs) = larger_each (seen (hold i) (hold (n + 1)) x) (largest_from i (n + 1) xs)

-- of batches that follow i others
unfoldable pub largest_in : ℕ → List (List BlockAnswer) → Largest
largest_in i [] = nowhere
largest_in i (b ∷ bs) = larger_each (largest_from (i + 1) 0 b) (largest_in (i + 1) bs)
