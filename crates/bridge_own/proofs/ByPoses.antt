-- The separation by poses of `separation64` is that of `separation`. Assumes nothing.
use Prim.Native.Nat.{ℕ}
use mathlib.Core.List.{List}
use mathlib.Core.Path.{◌≡◌, refl}
use lib.Ieee.{Float, Format}
use Rattle.model.specs.declared.Vector.{Vector}
use Rattle.model.specs.declared.Pose.{Pose}
use Rattle.model.specs.declared.Sweep.{Sweep}
use Rattle.model.specs.declared.SimplexCache.{SimplexCache}
use Rattle.model.specs.declared.SeparationType.{SeparationType}
use Rattle.model.specs.declared.SeparationType.TheVariants.{Points, FaceA, FaceB}
use Rattle.model.specs.declared.SeparationFunction.{SeparationFunction}
use Rattle.separation.specs.ByPoses as ByPoses
use Rattle.separation64.specs.ByPoses as ByPoses64
use Rattle.bridge.specs.Wide.{vector64, pose64, sweep64, function64, search64}
use Rattle.bridge.proofs.Separation.{by-same, of-same, deepest-a-same, deepest-b-same, corners-a-same, corners-b-same}

module _ (f : Format) where
  pub new-separation-by-same : (wa wb : Sweep) (a b : List Float) (c : SimplexCache) (pa pb : Pose) →
      ByPoses64.new_separation_by f (sweep64 wa) (sweep64 wb) a b c (pose64 pa) (pose64 pb) ≡ function64 (ByPoses.new_separation_by f wa wb a b c pa pb)
  new-separation-by-same wa wb a b c pa pb = by-same f wa wb a b pa pb c.count _ _ _ _

  pub search-by-same : (a b : List Float) (g : SeparationFunction) (pa pb : Pose) →
      ByPoses64.search_by f a b (function64 g) (pose64 pa) (pose64 pb) ≡ search64 (ByPoses.search_by f a b g pa pb)
  search-by-same a b g pa pb =
      rw (
        deepest-a-same f a b g pa pb g.ty,
        deepest-b-same f a b g pa pb g.ty,
        of-same f a b g pa pb g.ty,
        corners-a-same f a b g pa pb g.ty,
        corners-b-same f a b g pa pb g.ty,
      )

  pub end-a-same : (a : List Float) (g : SeparationFunction) (y : SeparationType) (i : ℕ) →
      ByPoses64.end_a f a (function64 g) y i ≡ vector64 (ByPoses.end_a f a g y i)
  end-a-same a g Points i = refl
  end-a-same a g FaceA i = refl
  end-a-same a g FaceB i = refl

  pub end-b-same : (b : List Float) (g : SeparationFunction) (y : SeparationType) (j : ℕ) →
      ByPoses64.end_b f b (function64 g) y j ≡ vector64 (ByPoses.end_b f b g y j)
  end-b-same b g Points j = refl
  end-b-same b g FaceA j = refl
  end-b-same b g FaceB j = refl

  pub between-same : (u v x : Vector) (pa pb : Pose) (y : SeparationType) →
      ByPoses64.between f (vector64 u) (vector64 v) (vector64 x) (pose64 pa) (pose64 pb) y ≡ ByPoses.between f u v x pa pb y
  between-same u v x pa pb Points = refl
  between-same u v x pa pb FaceA = refl
  between-same u v x pa pb FaceB = refl
