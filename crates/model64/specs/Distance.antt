-- Written by tests/written/wide.py from model, in f64.
-- The distance call, over two flat lists of points and the pose of B in the frame of A. It ends in one of three ways:
--   touching      the origin is within what a solve kept: distance 0, and the cache is left as it came;
--   settled       the new support pair was held before the round: the cache takes what the solve kept;
--   round limit   20 rounds without either: the vertex added last is counted, and the cache is written.
-- A cache that is written carries the number that the caller gave for the pair of outlines; no other part of the call looks at a number.
use Rattle.std.specs.Prelude.{ℕ, zero, suc, ◌+◌, ◌/◌, Bool, true, false, ◌&&◌, ◌||◌, cond, List, [], ◌∷◌, eqb, ltb, leb, get_or, set, length, Float, Ok, Err}
use Rattle.std.specs.Float.{Format}
use Rattle.std.specs.Float.Ieee.{sub, mul, neg, lt}
use Rattle.model64.specs.declared.Vector.{Vector}
use Rattle.model64.specs.declared.Pose.{Pose}
use Rattle.model64.specs.declared.SimplexVertex.{SimplexVertex}
use Rattle.model64.specs.declared.Solved.{Solved}
use Rattle.model.specs.declared.SimplexCache.{SimplexCache}
use Rattle.model.specs.declared.Ending.{Ending}
use Rattle.model.specs.declared.Ending.TheVariants.{Touching, Settled, RoundLimit}
use Rattle.model64.specs.declared.Rounds.{Rounds}
use Rattle.model64.specs.declared.WitnessPoints.{WitnessPoints}
use Rattle.model64.specs.declared.ProxyDistanceOutput.{ProxyDistanceOutput}
use Rattle.model64.specs.declared.Measurement.{Measurement}
use Rattle.model64.specs.declared.Distance.{Distance}
use Rattle.model.specs.Ground.{max}
use Rattle.model64.specs.Ground.{one, epsilon, origin, plus, minus, times, negate, dot, distance, normalise_or_zero, inverse_rotate, on_point}
use Rattle.model64.specs.Ground as Ground
use Rattle.model.specs.Domain.{cache_refusal, or_else, numbered}
use Rattle.model64.specs.Domain.{pair_refusal, pose_refusal}
use Rattle.model64.specs.Support.{point, support}
use Rattle.model64.specs.Simplex.{slot, solve}
pub use Rattle.model.specs.Distance.{cache}
unfoldable pub use Rattle.model.specs.Distance.{all_below}
pub use Rattle.model.specs.Distance.{cache_is_valid}
unfoldable pub use Rattle.model.specs.Distance.{replaced}
pub use Rattle.model.specs.Distance.{from_cache}
pub use Rattle.model.specs.Distance.{start_count}
pub use Rattle.model.specs.Distance.{max_iterations}

-- the cache with the pair's number and the first n vertices of s; entries at or past n keep what they held
abbrev pub written : ℕ → SimplexCache → List SimplexVertex → ℕ → SimplexCache
written pair c s n = cache pair n (replaced c.index_a n (λ i. (slot s i).index_a)) (replaced c.index_b n (λ i. (slot s i).index_b))

-- ---- one vertex, one round
-- a slot that holds nothing yet
abbrev pub blank : Format → SimplexVertex
blank f = record { wa = origin f; wb = origin f; w = origin f; a = Ground.zero f; index_a = 0; index_b = 0 }

-- whether the pair (i, j) stands in the first n slots
unfoldable pub held : List SimplexVertex → ℕ → ℕ → ℕ → Bool
held s zero i j = false
held s (suc n) i j = held s n i j || (eqb (slot s n).index_a i && eqb (slot s n).index_b j)

abbrev pub ended : Ending → List SimplexVertex → ℕ → Vector → ℕ → Rounds
ended e s n d it = record { ending = e; simplex = s; count = n; direction = d; iterations = it }

-- after a solve, three vertices or a direction too small to search along
abbrev pub touches : Format → Solved → Bool
touches f r = eqb r.count 3 || lt (dot f r.direction r.direction) (mul f (epsilon f) (epsilon f))

-- the corner of A that lies farthest along d, and that of the posed B against it
abbrev pub support_a : Format → List Float → Vector → ℕ
support_a f outline_a d = support f outline_a d

abbrev pub support_b : Format → List Float → Pose → Vector → ℕ
support_b f outline_b pose d = support f outline_b (inverse_rotate f pose.rotation (negate d))

module _ (f : Format) (outline_a outline_b : List Float) (pose : Pose) where
  -- ---- the start
  -- corner i of A against the posed corner j of B, with the weight x
  unfoldable pub vertex : ℕ → ℕ → Float → SimplexVertex
  vertex i j x =
      let wa = point outline_a i in
      let wb = on_point f pose (point outline_b j) in
      record { wa = wa; wb = wb; w = minus f wa wb; a = x; index_a = i; index_b = j }

  -- slot i of a start from the cache: weight -1 before the count, blank from there on
  abbrev pub cached : SimplexCache → ℕ → SimplexVertex
  cached c i = cond (ltb i c.count) (vertex (get_or c.index_a i 0) (get_or c.index_b i 0) (neg (one f))) (blank f)

  unfoldable pub start_simplex : SimplexCache → List SimplexVertex
  start_simplex c =
      cond (from_cache c (length outline_a / 2) (length outline_b / 2)) (cached c 0 ∷ cached c 1 ∷ cached c 2 ∷ [])
      (vertex 0 0 (one f) ∷ blank f ∷ blank f ∷ [])

  -- ---- the rounds
  -- what a solve kept, with the new vertex in the slot behind it, whose weight stays
  abbrev pub extended : Solved → List SimplexVertex
  extended r =
      set r.simplex r.count
      (vertex (support_a f outline_a r.direction) (support_b f outline_b pose r.direction) (slot r.simplex r.count).a)

  -- k rounds left, it made, n vertices held; d is the direction of the round before
  unfoldable pub rounds_from : ℕ → List SimplexVertex → ℕ → Vector → ℕ → Rounds
  rounds_from zero s n d it = ended RoundLimit s n d it
  rounds_from (suc k) s n d it =
      let r = solve f s n in
      cond (touches f r) (ended Touching r.simplex r.count (origin f) it)
      (cond (held s n (support_a f outline_a r.direction) (support_b f outline_b pose r.direction))
      (ended Settled (extended r) r.count r.direction (it + 1))
      (rounds_from k (extended r) (r.count + 1) r.direction (it + 1)))

  abbrev pub rounds : SimplexCache → Rounds
  rounds c = rounds_from max_iterations (start_simplex c) (start_count c (length outline_a / 2) (length outline_b / 2)) (origin f) 0

-- ---- what is measured
abbrev pub witness : Vector → Vector → WitnessPoints
witness u w = record { a = u; b = w }

abbrev pub output : WitnessPoints → Vector → Float → ℕ → Ending → ProxyDistanceOutput
output w n x it e = record { point_a = w.a; point_b = w.b; normal = n; distance = x; iterations = it; ending = e }

module _ (f : Format) where
  -- by the weights: the sum of two, and of three
  abbrev pub two : List SimplexVertex → (SimplexVertex → Vector) → Vector
  two s g = plus f (times f (g (slot s 0)) (slot s 0).a) (times f (g (slot s 1)) (slot s 1).a)

  abbrev pub three : List SimplexVertex → (SimplexVertex → Vector) → Vector
  three s g = plus f (two s g) (times f (g (slot s 2)) (slot s 2).a)

  -- of three vertices both points are A's sum
  unfoldable pub witness_points : List SimplexVertex → ℕ → WitnessPoints
  witness_points s n =
      cond (eqb n 1) (witness (slot s 0).wa (slot s 0).wb)
      (cond (eqb n 2) (witness (two s (λ v. v.wa)) (two s (λ v. v.wb))) (witness (three s (λ v. v.wa)) (three s (λ v. v.wa))))

  -- the distance less both radii, not below 0, and the points moved along the normal
  abbrev pub with_radii : Float → Float → ProxyDistanceOutput → ProxyDistanceOutput
  with_radii ra rb o =
      output (witness (plus f o.point_a (times f o.normal ra)) (minus f o.point_b (times f o.normal rb)))
      o.normal (max (sub f (sub f o.distance ra) rb) (Ground.zero f)) o.iterations o.ending

  abbrev pub apart : Bool → Float → Float → WitnessPoints → Rounds → ProxyDistanceOutput
  apart radii ra rb w r =
      let o = output w (normalise_or_zero f r.direction) (distance f w.a w.b) r.iterations r.ending in
      cond radii (with_radii ra rb o) o

  abbrev pub measured_by : Ending → Bool → Float → Float → WitnessPoints → Rounds → ProxyDistanceOutput
  measured_by Touching radii ra rb w r = output w (origin f) (Ground.zero f) r.iterations r.ending
  measured_by Settled radii ra rb w r = apart radii ra rb w r
  measured_by RoundLimit radii ra rb w r = apart radii ra rb w r

abbrev pub cache_by : Ending → ℕ → SimplexCache → Rounds → SimplexCache
cache_by Touching pair c r = c
cache_by Settled pair c r = written pair c r.simplex r.count
cache_by RoundLimit pair c r = written pair c r.simplex r.count

-- ---- the call
abbrev pub measured_from : Format → Float → Float → Bool → ℕ → SimplexCache → Rounds → Measurement
measured_from f ra rb radii pair c r =
    record { output = measured_by f r.ending radii ra rb (witness_points f r.simplex r.count) r; cache = cache_by r.ending pair c r }

-- of all but the cache: 1 to 6
abbrev pub inputs_refusal : Format → Pose → List Float → Float → List Float → Float → ℕ
inputs_refusal f pose outline_a ra outline_b rb = or_else (pair_refusal f outline_a outline_b ra rb) (pose_refusal f pose)

-- the cache comes last
abbrev pub distance_refusal : Format → Pose → List Float → Float → List Float → Float → ℕ → SimplexCache → ℕ
distance_refusal f pose outline_a ra outline_b rb pair c = or_else (inputs_refusal f pose outline_a ra outline_b rb) (cache_refusal pair c)

module _ (f : Format) (pose : Pose) (outline_a : List Float) (ra : Float) (outline_b : List Float) (rb : Float) (radii : Bool) (pair : ℕ)
    (c : SimplexCache) where
  -- with nothing checked: what a sweep uses on the poses that it works out
  unfoldable pub measure : Measurement
  measure = measured_from f ra rb radii pair c (rounds f outline_a outline_b pose c)

  abbrev pub distance_by : ℕ → Distance
  distance_by zero = record { answer = Ok measure.output; cache = measure.cache }
  distance_by (suc n) = record { answer = Err (numbered (suc n)); cache = c }

  -- a refusal leaves the cache as it came
  unfoldable pub proxy_distance : Distance
  proxy_distance = distance_by (distance_refusal f pose outline_a ra outline_b rb pair c)
