-- The distance call of the f64 crates is model's. Assumes nothing.
use Prim.Native.Nat.{ℕ, zero, suc, ◌+◌, ◌/◌}
use mathlib.Core.Bool.{Bool, true, false, ◌&&◌, ◌||◌, cond}
use mathlib.Core.List.{List, [], ◌∷◌, map}
use mathlib.Core.Path.{◌≡◌, refl, ap, ◌∙◌}
use lib.Dec.{eqb, ltb}
use lib.ListN.{length}
use lib.Ieee.{Float, Format}
use Rattle.model.specs.declared.Vector.{Vector}
use Rattle.model.specs.declared.Pose.{Pose}
use Rattle.model.specs.declared.SimplexVertex.{SimplexVertex}
use Rattle.model.specs.declared.SimplexCache.{SimplexCache}
use Rattle.model.specs.declared.Rounds.{Rounds}
use Rattle.model.specs.declared.WitnessPoints.{WitnessPoints}
use Rattle.model.specs.declared.Ending.{Ending}
use Rattle.model.specs.declared.Ending.TheVariants.{Touching, Settled, RoundLimit}
use Rattle.model.specs.Ground as Ground
use Rattle.model.specs.Simplex.{slot, solve}
use Rattle.model.specs.Distance.{vertex, held, start_simplex, rounds_from, measure, proxy_distance}
use Rattle.model.specs.Distance as D
use Rattle.model64.specs.Distance.{vertex as vertex_of64, held as held64, start_simplex as start_simplex64, rounds_from as rounds_from64, measure as measure64}
use Rattle.model64.specs.Distance.{proxy_distance as proxy_distance64}
use Rattle.model64.specs.Distance as D64
use Rattle.bridge.specs.Wide.{vector64, pose64, vertex64, simplex64, solved64, rounds64, witness_points64, output64, measurement64, distance64}
use Rattle.bridge.proofs.Ground.{by-test, normalise-same}
use Rattle.bridge.proofs.Domain.{pair-refusal-same, support-same}
use Rattle.bridge.proofs.Simplex.{set-map, slot_same, solve-same, witness-same}

pub held_same : (s : List SimplexVertex) (n i j : ℕ) → held64 (simplex64 s) n i j ≡ held s n i j
unfolding held64 held
held_same s zero i j = refl
held_same s (suc n) i j = rw (held_same s n i j, slot_same s n)

written_same : (pair : ℕ) (c : SimplexCache) (s : List SimplexVertex) (n : ℕ) → D64.written pair c (simplex64 s) n ≡ D.written pair c s n
written_same pair c s n = simp slot_same

module _ (f : Format) (a b : List Float) (p : Pose) where
  pub vertex-same : (i j : ℕ) (x : Float) → vertex_of64 f a b (pose64 p) i j x ≡ vertex64 (vertex f a b p i j x)
  unfolding vertex_of64 vertex
  vertex-same i j x = refl

  cached-same : (c : SimplexCache) (i : ℕ) → D64.cached f a b (pose64 p) c i ≡ vertex64 (D.cached f a b p c i)
  cached-same c i = by-test vertex64 (ltb i c.count) (vertex-same _ _ _) refl

  pub start-same : (c : SimplexCache) → start_simplex64 f a b (pose64 p) c ≡ simplex64 (start_simplex f a b p c)
  unfolding start_simplex64 start_simplex
  start-same c =
      by-test simplex64 (D.from_cache c (length a / 2) (length b / 2)) (rw (cached-same c 0, cached-same c 1, cached-same c 2)) (rw (vertex-same 0 0))

  pub rounds-same : (k : ℕ) (s : List SimplexVertex) (n : ℕ) (d : Vector) (it : ℕ) →
      rounds_from64 f a b (pose64 p) k (simplex64 s) n (vector64 d) it ≡ rounds64 (rounds_from f a b p k s n d it)
  unfolding rounds_from64 rounds_from
  rounds-same zero s n d it = refl
  rounds-same (suc k) s n d it =
      let r = solve f s n in
      let i = D.support_a f a r.direction in
      let j = D.support_b f b p r.direction in
      let v = vertex f a b p i j (slot r.simplex r.count).a in
      rw (
        solve-same f s n,
        slot_same r.simplex r.count,
        support-same f a r.direction,
        support-same f b
            (Ground.inverse_rotate f p.rotation (Ground.negate r.direction)),
        held_same s n i j,
        vertex-same i j,
        set-map vertex64 r.simplex r.count v,
      )
      (by-test rounds64 (D.touches f r) refl
      (by-test rounds64 (held s n i j) refl (rounds-same k _ _ _ _)))

-- ---- what is measured
module _ (f : Format) (ra rb : Float) (radii : Bool) where
  apart-same : (w : WitnessPoints) (r : Rounds) → D64.apart f radii ra rb (witness_points64 w) (rounds64 r) ≡ output64 (D.apart f radii ra rb w r)
  apart-same w r = rw (normalise-same f r.direction) (by-test output64 radii refl refl)

  measured-same : (e : Ending) (w : WitnessPoints) (r : Rounds) →
      D64.measured_by f e radii ra rb (witness_points64 w) (rounds64 r) ≡ output64 (D.measured_by f e radii ra rb w r)
  measured-same Touching w r = refl
  measured-same Settled w r = apart-same w r
  measured-same RoundLimit w r = apart-same w r

cache-same : (e : Ending) (pair : ℕ) (c : SimplexCache) (r : Rounds) → D64.cache_by e pair c (rounds64 r) ≡ D.cache_by e pair c r
cache-same Touching pair c r = refl
cache-same Settled pair c r = written_same pair c r.simplex r.count
cache-same RoundLimit pair c r = written_same pair c r.simplex r.count

-- ---- the call
module _ (f : Format) (p : Pose) (a : List Float) (ra : Float) (b : List Float) (rb : Float) (radii : Bool) (pair : ℕ) (c : SimplexCache) where
  from-same : (r : Rounds) →
      D64.measured_from f ra rb radii pair c (rounds64 r) ≡ measurement64 (D.measured_from f ra rb radii pair c r)
  from-same r = rw (witness-same f r.simplex r.count, measured-same f ra rb radii r.ending, cache-same r.ending pair c r)

  pub measure-same : measure64 f (pose64 p) a ra b rb radii pair c ≡ measurement64 (measure f p a ra b rb radii pair c)
  unfolding measure64 measure
  measure-same =
      rw (start-same f a b p c, rounds-same f a b p 20 (start_simplex f a b p c) (D.start_count c (length a / 2) (length b / 2)) (Ground.origin f) 0)
      (from-same (D.rounds f a b p c))

  by-refusal : (n : ℕ) → D64.distance_by f (pose64 p) a ra b rb radii pair c n ≡ distance64 (D.distance_by f p a ra b rb radii pair c n)
  by-refusal zero = rw measure-same
  by-refusal (suc n) = refl

  pub proxy-distance-same : proxy_distance64 f (pose64 p) a ra b rb radii pair c ≡ distance64 (proxy_distance f p a ra b rb radii pair c)
  unfolding proxy_distance64 proxy_distance
  proxy-distance-same = rw (pair-refusal-same f a b ra rb) (by-refusal (D.distance_refusal f p a ra b rb pair c))
