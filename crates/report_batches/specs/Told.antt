-- What the rows of a report say of its batches: how they add up, and where the three largest counts stand.
use Rattle.std.specs.Prelude.{◌≡◌, List, [], ◌∷◌, ◌++◌, ℕ, zero, suc, ◌+◌, ◌≤◌, ◌<◌, length, get_or, Ok, Err, Option, Some, None}
use Prim.{Unit}
use Rattle.model.specs.declared.Counts.{Counts}
use Rattle.model.specs.Block.{refused}
use Rattle.model.specs.Work.{BlockAnswer}
use Rattle.report_counts.specs.declared.most.Most.{Most}
use Rattle.report_counts.specs.declared.most.Largest.{Largest}
use Rattle.report_counts.specs.Largest.{hold, seen_at}

-- a number that a block can be refused by: 3 to 11, or 13
abbrev pub Given : ℕ → Type 0
Given n = (3 ≤ n) × (n ≤ 13) × (n ≡ 12 → ⊥)

-- ---- rows that add up
-- the sum of n counts from row k on
unfoldable pub sum_of_rows : ℕ → ℕ → List ℕ → ℕ
sum_of_rows k zero counts = 0
sum_of_rows k (suc n) counts = get_or counts k 0 + sum_of_rows (suc k) n counts

pub record AddsUp (counts : List ℕ) : Type 0 where
  -- BLOCKS: clear, overlapped, failed, hit; and refused
  pub blocks : get_or counts 0 0 ≡ sum_of_rows 1 4 counts + get_or counts 17 0
  -- HIT: the eighths, 1, below, above, not a number
  pub hits : get_or counts 4 0 ≡ sum_of_rows 5 12 counts
  -- REFUSED: 3 to 11, and 13
  pub refused : get_or counts 17 0 ≡ sum_of_rows 18 10 counts

-- ---- blocks with their places, in order
pub record Place : Type 0 where
  pub batch : ℕ
  pub block : ℕ
  pub answer : BlockAnswer

abbrev pub placed : ℕ → ℕ → BlockAnswer → Place
placed i j x = record { batch = i; block = j; answer = x }

-- batch i's answers that follow n others
unfoldable pub in_batch : ℕ → ℕ → List BlockAnswer → List Place
in_batch i n [] = []
in_batch i n (x ∷ xs) = placed i (n + 1) x ∷ in_batch i (n + 1) xs

-- batches that follow i others
unfoldable pub in_batches : ℕ → List (List BlockAnswer) → List Place
in_batches i [] = []
in_batches i (b ∷ bs) = in_batch (i + 1) 0 b ++ in_batches (i + 1) bs

-- ---- the first of the largest
-- what a place shows of a count: none where its block was refused
abbrev pub shown : (Counts → ℕ) → ℕ → ℕ → BlockAnswer → Option Most
shown which i j (Ok w) = seen_at (which w.verdict.counts) (hold i) (hold j)
shown which i j (Err r) = None

abbrev pub shown_at : (Counts → ℕ) → Place → Option Most
shown_at which p = shown which p.batch p.block p.answer

-- at most n, and below n; what was not worked is both
abbrev pub AtMost : ℕ → Option Most → Type 0
AtMost n None = Unit {0}
AtMost n (Some s) = s.count ≤ n

abbrev pub Below : ℕ → Option Most → Type 0
Below n None = Unit {0}
Below n (Some s) = s.count < n

abbrev pub nobody : Place
nobody = placed 0 0 (refused 0 0)

-- place k shows the maximum, none shows more, and those before it show less; or there is none, and nothing is shown
pub data Told (which : Counts → ℕ) (ps : List Place) (m : Option Most) : Type 0 where
  none : m ≡ None → ((k : ℕ) → shown_at which (get_or ps k nobody) ≡ None) → Told which ps m
  first : (k n i j : ℕ) → m ≡ seen_at n i j → k < length ps → shown_at which (get_or ps k nobody) ≡ seen_at n i j
      → ((l : ℕ) → AtMost n (shown_at which (get_or ps l nobody))) → ((l : ℕ) → l < k → Below n (shown_at which (get_or ps l nobody))) → Told which ps m

-- the three lines
abbrev pub calls_of : Counts → ℕ
calls_of n = n.distance_calls

abbrev pub searches_of : Counts → ℕ
searches_of n = n.searches

abbrev pub steps_of : Counts → ℕ
steps_of n = n.root_steps

pub record Firsts (bs : List (List BlockAnswer)) (a : Largest) : Type 0 where
  pub calls : Told calls_of (in_batches 0 bs) a.calls
  pub searches : Told searches_of (in_batches 0 bs) a.searches
  pub steps : Told steps_of (in_batches 0 bs) a.steps
