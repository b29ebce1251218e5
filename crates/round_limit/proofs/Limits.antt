-- Rounds that do not run out within a limit are the same within a larger one; a call makes no more rounds than its limit. By cases on the two tests of a
-- round. Assumes nothing.
use mathlib.Core.Path.{◌≡◌, refl}
use mathlib.Core.Bool.{Bool, true, false, cond}
use mathlib.Core.List.{List}
use Prim.Native.Nat.{ℕ, zero, suc, ◌+◌, ◌≤◌}
use native.Mathlib.Nat.{le_of_suc-le-suc, not-suc-le-zero}
use native.Mathlib.Omega.{arith}
use lib.Ieee.{Float, Format}
use Rattle.model.specs.declared.Vector.{Vector}
use Rattle.model.specs.declared.Pose.{Pose}
use Rattle.model.specs.declared.SimplexVertex.{SimplexVertex}
use Rattle.model.specs.declared.Rounds.{Rounds}
use Rattle.model.specs.declared.Ending.TheVariants.{RoundLimit}
use Rattle.model.specs.Simplex.{solve}
use Rattle.model.specs.Distance.{held, touches, support_a, support_b, extended, rounds_from}

same-onward : (touching settled : Bool) (u v w w' : Rounds) → ((w.ending ≡ RoundLimit → ⊥) → w' ≡ w)
    → ((cond touching u (cond settled v w)).ending ≡ RoundLimit → ⊥) → cond touching u (cond settled v w') ≡ cond touching u (cond settled v w)
same-onward true settled u v w w' same ends = refl
same-onward false true u v w w' same ends = refl
same-onward false false u v w w' same ends = same ends

few-onward : (touching settled : Bool) (u v w : Rounds) (n : ℕ) → u.iterations ≤ n → v.iterations ≤ n → w.iterations ≤ n
    → (cond touching u (cond settled v w)).iterations ≤ n
few-onward true settled u v w n x y z = x
few-onward false true u v w n x y z = y
few-onward false false u v w n x y z = z

module _ (f : Format) (a b : List Float) (p : Pose) where
  pub steady : (k k' : ℕ) → k ≤ k' → (s : List SimplexVertex) (n : ℕ) (d : Vector) (it : ℕ) → ((rounds_from f a b p k s n d it).ending ≡ RoundLimit → ⊥)
      → rounds_from f a b p k' s n d it ≡ rounds_from f a b p k s n d it
  unfolding rounds_from
  steady zero k' less s n d it ends = absurd (ends refl)
  steady (suc k) zero less s n d it ends = absurd (not-suc-le-zero less)
  steady (suc k) (suc k') less s n d it ends =
      let r = solve f s n in
      let again = held s n (support_a f a r.direction) (support_b f b p r.direction) in
      same-onward (touches f r) again _ _ _ _ (steady k k' (le_of_suc-le-suc less) _ _ _ _) ends

  pub few-rounds : (k : ℕ) (s : List SimplexVertex) (n : ℕ) (d : Vector) (it : ℕ) → (rounds_from f a b p k s n d it).iterations ≤ it + k
  unfolding rounds_from
  few-rounds zero s n d it = omega arith
  few-rounds (suc k) s n d it =
      let r = solve f s n in
      let rest = few-rounds k (extended f a b p r) (r.count + 1) r.direction (it + 1) in
      let again = held s n (support_a f a r.direction) (support_b f b p r.direction) in
      few-onward (touches f r) again _ _ _ _ (omega arith) (omega arith) (omega (arith, rest))
