-- A call that is answered tells the ending and the number of its rounds. Assumes nothing.
use mathlib.Core.Path.{◌≡◌, refl, ap, ◌∙◌}
use mathlib.Core.Bool.{Bool, true, false}
use mathlib.Core.List.{List}
use Prim.Native.Nat.{ℕ, zero, suc}
use native.Mathlib.Omega.{arith}
use lib.Ieee.{Float, Format}
use Rattle.std.proofs.Common.{Ok, Err}
use Rattle.model.specs.declared.Pose.{Pose}
use Rattle.model.specs.declared.SimplexCache.{SimplexCache}
use Rattle.model.specs.declared.Rounds.{Rounds}
use Rattle.model.specs.declared.WitnessPoints.{WitnessPoints}
use Rattle.model.specs.declared.Ending.{Ending}
use Rattle.model.specs.declared.Ending.TheVariants.{Touching, Settled, RoundLimit}
use Rattle.model.specs.declared.ProxyDistanceOutput.{ProxyDistanceOutput}
use Rattle.model.specs.Domain.{numbered}
use Rattle.model.specs.Distance.{rounds, witness_points, measured_by, measure, distance_by, distance_refusal, proxy_distance}
use Rattle.exact.proofs.Demand3.{ending-told}

rounds-told : (f : Format) (e : Ending) (radii : Bool) (ra rb : Float) (w : WitnessPoints) (r : Rounds)
    → (measured_by f e radii ra rb w r).iterations ≡ r.iterations
rounds-told f Touching radii ra rb w r = refl
rounds-told f Settled true ra rb w r = refl
rounds-told f Settled false ra rb w r = refl
rounds-told f RoundLimit true ra rb w r = refl
rounds-told f RoundLimit false ra rb w r = refl

module _ (f : Format) (p : Pose) (a : List Float) (ra : Float) (b : List Float) (rb : Float) (radii : Bool) (pair : ℕ) (c : SimplexCache)
    (o : ProxyDistanceOutput) where
  pub record ToldByRounds : Type 0 where
    pub passed : distance_refusal f p a ra b rb pair c ≡ 0
    pub ending : o.ending ≡ (rounds f a b p c).ending
    pub iterations : o.iterations ≡ (rounds f a b p c).iterations

  pub told-by-rounds : (proxy_distance f p a ra b rb radii pair c).answer ≡ Ok o → ToldByRounds
  unfolding proxy_distance measure
  told-by-rounds answered = go (distance_refusal f p a ra b rb pair c) (λ h. h) answered
    where
      go : (n : ℕ) → (n ≡ 0 → distance_refusal f p a ra b rb pair c ≡ 0) → (distance_by f p a ra b rb radii pair c n).answer ≡ Ok o → ToldByRounds
      go zero none is =
          let r = rounds f a b p c in
          let w = witness_points f r.simplex r.count in
          let same : o ≡ (measure f p a ra b rb radii pair c).output = cc in
          record {
            passed = none refl;
            ending = ap (λ (x : ProxyDistanceOutput). x.ending) same ∙ ending-told f r.ending radii ra rb w r;
            iterations = ap (λ (x : ProxyDistanceOutput). x.iterations) same ∙ rounds-told f r.ending radii ra rb w r;
          }
      go (suc n) none is = absurd (refused is)
        where
          refused : Err (numbered (suc n)) ≡ Ok o → ⊥
          refused e = let z : ◌≡◌ {A = ℕ} 0 1 = cc in omega arith
