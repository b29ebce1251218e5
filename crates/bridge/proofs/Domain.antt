-- The domain and `support` of the f64 crates are model's. Assumes nothing.
use Prim.Native.Nat.{ℕ, ◌+◌, ◌%◌, ◌^◌}
use mathlib.Core.Bool.{cond}
use mathlib.Core.List.{List, [], ◌∷◌}
use mathlib.Core.Path.{◌≡◌, refl, ap}
use lib.Ieee.{Float, Format}
use lib.ListN.{drop}
use Rattle.std.proofs.Common.{Result, Ok, Err}
use Rattle.model.specs.declared.Vector.{Vector}
use Rattle.model.specs.declared.Pose.{Pose}
use Rattle.model.specs.declared.Sweep.{Sweep}
use Rattle.model.specs.declared.Refusal.{Refusal}
use Rattle.model.specs.Ground as Ground
use Rattle.model.specs.Domain as Domain
use Rattle.model.specs.Domain.{bad_parts, outline_refusal, checked_pose}
use Rattle.model.specs.Support.{point, support, support_from}
use Rattle.model.specs.Second.{second_from, support_by, support_pair, support_answer}
use Rattle.model.specs.Second as Second
use Rattle.model64.specs.Domain as Domain64
use Rattle.model64.specs.Domain.{bad_parts as bad_parts64, checked_pose as checked_pose_of64}
use Rattle.model64.specs.Support.{point as point64, support as support64, support_from as support_from64}
use Rattle.model64.specs.Second.{second_from as second_from64, support_pair as support_pair64, support_answer as support_answer64}
use Rattle.model64.specs.Second as Second64
use Rattle.bridge.specs.Wide.{vector64, pose64, sweep64, checked_pose64}

pub point-same : (s : List Float) (i : ℕ) → point64 s i ≡ vector64 (point s i)
point-same s i = refl

-- ---- the domain
pub checked-pose-same : (k : Result Unit Refusal) (p : Pose) → checked_pose_of64 k (pose64 p) ≡ checked_pose64 (checked_pose k p)
unfolding checked_pose_of64 checked_pose
checked-pose-same (Ok tt) p = refl
checked-pose-same (Err r) p = refl

pub refusal-of-pose-same : (x : Result Pose Refusal) → Domain64.refusal_of_pose (checked_pose64 x) ≡ Domain.refusal_of_pose x
refusal-of-pose-same (Ok p) = refl
refusal-of-pose-same (Err r) = refl

module _ (f : Format) where
  pub bad-vector-same : (v : Vector) → Domain64.bad_vector f (vector64 v) ≡ Domain.bad_vector f v
  bad-vector-same v = refl

  pub bad-parts-same : (s : List Float) → bad_parts64 f s ≡ bad_parts f s
  unfolding bad_parts64 bad_parts
  bad-parts-same [] = refl
  bad-parts-same (x ∷ s) = rw (bad-parts-same s)

  pub outline-refusal-same : (s : List Float) → Domain64.outline_refusal f s ≡ outline_refusal f s
  outline-refusal-same s = rw (bad-parts-same s)

  pub pair-refusal-same : (a b : List Float) (ra rb : Float) → Domain64.pair_refusal f a b ra rb ≡ Domain.pair_refusal f a b ra rb
  pair-refusal-same a b ra rb = rw (bad-parts-same a, bad-parts-same b)

  pub pose-refusal-same : (p : Pose) → Domain64.pose_refusal f (pose64 p) ≡ Domain.pose_refusal f p
  pose-refusal-same p = refl

  pub sweeps-refusal-same : (a b : Sweep) → Domain64.sweeps_refusal f (sweep64 a) (sweep64 b) ≡ Domain.sweeps_refusal f a b
  sweeps-refusal-same a b = refl

  pub fraction-refusal-same : (t : Float) → Domain64.fraction_refusal f t ≡ Domain.fraction_refusal f t
  fraction-refusal-same t = refl

  pub slop-refusal-same : (x : Float) → Domain64.slop_refusal f x ≡ Domain.slop_refusal f x
  slop-refusal-same x = refl

  -- ---- `support`
  support-from-same : (d o : Vector) (s : List Float) (i best : ℕ) (value : Float) →
      support_from64 f (vector64 d) (vector64 o) s i best value ≡ support_from f d o s i best value
  unfolding support_from64 support_from
  support-from-same d o [] i best value = refl
  support-from-same d o (x ∷ []) i best value = refl
  support-from-same d o (x ∷ y ∷ s) i best value = support-from-same d o s (i + 1) _ _

  pub support-same : (s : List Float) (d : Vector) → support64 f s (vector64 d) ≡ support f s d
  support-same s d = ap (λ (n : ℕ). n % 2 ^ 32) (support-from-same d (point s 0) (drop 2 s) 1 0 (Ground.zero f))

  second-from-same : (d o : Vector) (s : List Float) (i second : ℕ) (value : Float) →
      second_from64 f (vector64 d) (vector64 o) s i second value ≡ second_from f d o s i second value
  unfolding second_from64 second_from
  second-from-same d o [] i second value = refl
  second-from-same d o (x ∷ []) i second value = refl
  second-from-same d o (x ∷ y ∷ s) i second value = second-from-same d o s (i + 1) _ _

  second-same : (s : List Float) (d : Vector) → Second64.second f s (vector64 d) ≡ Second.second f s d
  second-same s d = ap (λ (n : ℕ). n % 2 ^ 32) (second-from-same d (point s 0) (drop 2 s) 1 0 (Ground.zero f))

  pub support-pair-same : (s : List Float) (d : Vector) → support_pair64 f s (vector64 d) ≡ support_pair f s d
  support-pair-same s d = rw (support-same s d, second-same s d)

  pub support-answer-same : (s : List Float) (d : Vector) → support_answer64 f s (vector64 d) ≡ support_answer f s d
  unfolding support_answer64 support_answer
  support-answer-same s d = rw (outline-refusal-same s, support-pair-same s d)
