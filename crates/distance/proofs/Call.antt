-- The endings of `measure` and of `proxy_distance`, one law each. Assumes nothing.
use Prim.Native.Nat.{ℕ}
use mathlib.Core.Bool.{Bool}
use mathlib.Core.List.{List}
use mathlib.Core.Path.{◌≡◌, refl, ap, ◌∙◌}
use lib.Ieee.{Float, Format}
use Rattle.std.proofs.Common.{Result, Ok, Err}
use Rattle.model.specs.declared.Vector.{Vector}
use Rattle.model.specs.declared.Pose.{Pose}
use Rattle.model.specs.declared.SimplexCache.{SimplexCache}
use Rattle.model.specs.declared.Ending.{Ending}
use Rattle.model.specs.declared.Ending.TheVariants.{Touching, Settled, RoundLimit}
use Rattle.model.specs.declared.Rounds.{Rounds}
use Rattle.model.specs.declared.WitnessPoints.{WitnessPoints}
use Rattle.model.specs.declared.ProxyDistanceOutput.{ProxyDistanceOutput}
use Rattle.model.specs.declared.Measurement.{Measurement}
use Rattle.model.specs.declared.Distance.{Distance}
use Rattle.model.specs.declared.Refusal.{Refusal}
use Rattle.model.specs.Ground.{origin}
use Rattle.model.specs.Ground as Ground
use Rattle.model.specs.Domain.{pair_refusal, pose_refusal, cache_refusal, or_else, checked, checked_pose, refusal_of_pose, numbered}
use Rattle.model.specs.Domain.{refusal as number_of}
use Rattle.model.specs.Distance.{written, rounds, witness_points, output, apart, measured_by, cache_by, measured_from, measure, distance_by, proxy_distance}
use Rattle.model.proofs.Domain.{passed, refused, pose-passed}
use Rattle.model.proofs.Domain as Domain

abbrev measurement : ProxyDistanceOutput → SimplexCache → Measurement
measurement o k = record { output = o; cache = k }

abbrev answered : ProxyDistanceOutput → SimplexCache → Distance
answered o k = record { answer = Ok o; cache = k }

abbrev refusal : ℕ → SimplexCache → Distance
refusal n k = record { answer = Err (numbered n); cache = k }

module _ (f : Format) (p : Pose) (a : List Float) (ra : Float) (b : List Float) (rb : Float) (radii : Bool) (pair : ℕ) (c : SimplexCache) where
  -- ---- the measurement
  by-touching : (e : Ending) (r : Rounds) (w : WitnessPoints) → e ≡ Touching →
      measurement (output w (origin f) (Ground.zero f) r.iterations r.ending) c ≡ measurement (measured_by f e radii ra rb w r) (cache_by e pair c r)
  by-touching e r w t = rw t

  by-other : (e : Ending) (r : Rounds) (w : WitnessPoints) → (e ≡ Touching → ⊥) →
      measurement (apart f radii ra rb w r) (written pair c r.simplex r.count) ≡ measurement (measured_by f e radii ra rb w r) (cache_by e pair c r)
  by-other Touching r w n = absurd (n refl)
  by-other Settled r w n = refl
  by-other RoundLimit r w n = refl

  module _ (r : Rounds) (e : r ≡ rounds f a b p c) (w : WitnessPoints) (ew : w ≡ witness_points f r.simplex r.count) where
    whole : measurement (measured_by f r.ending radii ra rb w r) (cache_by r.ending pair c r) ≡ measure f p a ra b rb radii pair c
    unfolding measure
    whole = rw ew (ap (λ (x : Rounds). measured_from f ra rb radii pair c x) e)

    pub touching-measured : r.ending ≡ Touching → (n : Vector) → n ≡ origin f →
        measurement (output w n (Ground.zero f) r.iterations r.ending) c ≡ measure f p a ra b rb radii pair c
    touching-measured t n en = rw en (by-touching r.ending r w t ∙ whole)

    pub apart-measured : (r.ending ≡ Touching → ⊥) → (o : ProxyDistanceOutput) → o ≡ apart f radii ra rb w r →
        (k : SimplexCache) → k ≡ written pair c r.simplex r.count → measurement o k ≡ measure f p a ra b rb radii pair c
    apart-measured n o eo k ek = rw (eo, ek) (by-other r.ending r w n ∙ whole)

  -- ---- the checked call
  abbrev by : ℕ → Distance
  by k = distance_by f p a ra b rb radii pair c k

  -- what the outlines' number gives before the pose's, and that before the cache's
  abbrev first : ℕ → Distance
  first k = by (or_else (or_else k (pose_refusal f p)) (cache_refusal pair c))

  abbrev second : ℕ → Distance
  second k = by (or_else k (cache_refusal pair c))

  abbrev refuse : ℕ → Distance
  refuse n = refusal n c

  module _ (x : Result Unit Refusal) (ex : x ≡ checked (pair_refusal f a b ra rb)) where
    pub pair-refused : (r : Refusal) → x ≡ Err r → (m : ℕ) → m ≡ number_of x → refusal m c ≡ proxy_distance f p a ra b rb radii pair c
    unfolding proxy_distance
    pair-refused = refused first refuse (λ n. refl) (pair_refusal f a b ra rb) x ex

    module _ (good : x ≡ Ok tt) (y : Result Pose Refusal) (ey : y ≡ checked_pose (checked (pose_refusal f p)) p) where
      after-pair : second (pose_refusal f p) ≡ proxy_distance f p a ra b rb radii pair c
      unfolding proxy_distance
      after-pair = passed first refuse (λ n. refl) (pair_refusal f a b ra rb) x ex good

      pub pose-refused : (r : Refusal) → y ≡ Err r → (m : ℕ) → m ≡ refusal_of_pose y → refusal m c ≡ proxy_distance f p a ra b rb radii pair c
      pose-refused n g m em = Domain.pose-refused second refuse (λ n. refl) (pose_refusal f p) p y ey n g m em ∙ after-pair

      module _ (q : Pose) (g : y ≡ Ok q) (z : Result Unit Refusal) (ez : z ≡ checked (cache_refusal pair c)) where
        posed : (second 0 ≡ second (pose_refusal f p)) × (q ≡ p)
        posed = pose-passed second refuse (λ n. refl) (pose_refusal f p) p y ey q g

        pub cache-refused : (r : Refusal) → z ≡ Err r → (m : ℕ) → m ≡ number_of z → refusal m c ≡ proxy_distance f p a ra b rb radii pair c
        cache-refused n r m em = refused by refuse (λ n. refl) (cache_refusal pair c) z ez n r m em ∙ posed.0 ∙ after-pair

        pub all-passed : z ≡ Ok tt → (m : Measurement) → m ≡ measure f q a ra b rb radii pair c →
            answered m.output m.cache ≡ proxy_distance f p a ra b rb radii pair c
        all-passed own m em =
            let goes_on = passed by refuse (λ n. refl) (cache_refusal pair c) z ez own in
            rw (em, posed.1) (goes_on ∙ posed.0 ∙ after-pair)
