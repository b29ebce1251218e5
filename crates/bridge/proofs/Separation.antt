-- Moves and the separation function of the f64 crates are model's. Assumes nothing.
use Prim.Native.Nat.{ℕ}
use mathlib.Core.Bool.{cond}
use mathlib.Core.List.{List}
use mathlib.Core.Path.{◌≡◌, refl, ap}
use lib.Dec.{eqb}
use lib.ListN.{get_or}
use lib.Ieee.{Float, Format, lt, neg}
use Rattle.model.specs.declared.Vector.{Vector}
use Rattle.model.specs.declared.Pose.{Pose}
use Rattle.model.specs.declared.Sweep.{Sweep}
use Rattle.model.specs.declared.SimplexCache.{SimplexCache}
use Rattle.model.specs.declared.SeparationFunction.{SeparationFunction}
use Rattle.model.specs.declared.SeparationType.{SeparationType}
use Rattle.model.specs.declared.SeparationType.TheVariants.{Points, FaceA, FaceB}
use Rattle.model.specs.Ground as Ground
use Rattle.model.specs.Support.{point}
use Rattle.model.specs.Sweep.{transform_at, shifted}
use Rattle.model.specs.Separation.{new_separation, evaluate, find_min_separation}
use Rattle.model.specs.Separation as S
use Rattle.model.specs.Corners.{corners_at}
use Rattle.model.specs.Corners as C
use Rattle.model64.specs.Sweep.{transform_at as transform_at64, shifted as shifted64}
use Rattle.model64.specs.Separation.{new_separation as new_separation64, evaluate as evaluate64, find_min_separation as find_min_separation64}
use Rattle.model64.specs.Separation as S64
use Rattle.model64.specs.Corners.{corners_at as corners_at64}
use Rattle.model64.specs.Corners as C64
use Rattle.bridge.specs.Wide.{vector64, rotation64, pose64, sweep64, function64, min_separation64}
use Rattle.bridge.proofs.Ground.{by-test, normalise-same}
use Rattle.bridge.proofs.Domain.{support-same, support-pair-same}

module _ (f : Format) where
  pub transform-same : (w : Sweep) (t : Float) → transform_at64 f (sweep64 w) t ≡ pose64 (transform_at f w t)
  unfolding transform_at64 transform_at
  transform-same w t = refl

  pub shifted-same : (w : Sweep) (o : Vector) → shifted64 f (sweep64 w) (vector64 o) ≡ sweep64 (shifted f w o)
  unfolding shifted64 shifted
  shifted-same w o = refl

  -- ---- the axis
  toward-same : (p : Pose) (l v x : Vector) → S64.toward f (pose64 p) (vector64 l) (vector64 v) (vector64 x) ≡ vector64 (S.toward f p l v x)
  toward-same p l v x =
      by-test vector64 (lt (Ground.dot f (Ground.minus f v (Ground.on_point f p l)) (Ground.rotate f p.rotation x)) (Ground.zero f)) refl refl

  across-same : (u w : Vector) → S64.across f (vector64 u) (vector64 w) ≡ vector64 (S.across f u w)
  across-same u w = normalise-same f (Ground.vector (Ground.minus f w u).y (neg (Ground.minus f w u).x))

  module _ (wa wb : Sweep) (a b : List Float) (pa pb : Pose) where
    points-same : (i j : ℕ) → S64.of_points f (sweep64 wa) (sweep64 wb) a b (pose64 pa) (pose64 pb) i j ≡ function64 (S.of_points f wa wb a b pa pb i j)
    points-same i j = rw (normalise-same f (Ground.minus f (Ground.on_point f pb (point b j)) (Ground.on_point f pa (point a i))))

    face-a-same : (i k j : ℕ) → S64.of_face_a f (sweep64 wa) (sweep64 wb) a b (pose64 pa) (pose64 pb) i k j ≡ function64 (S.of_face_a f wa wb a b pa pb i k j)
    face-a-same i k j =
        let l = S.middle f (point a i) (point a k) in
        rw (across-same (point a i) (point a k), toward-same pa l (Ground.on_point f pb (point b j)) (S.across f (point a i) (point a k)))

    face-b-same : (i j k : ℕ) → S64.of_face_b f (sweep64 wa) (sweep64 wb) a b (pose64 pa) (pose64 pb) i j k ≡ function64 (S.of_face_b f wa wb a b pa pb i j k)
    face-b-same i j k =
        let l = S.middle f (point b j) (point b k) in
        rw (across-same (point b j) (point b k), toward-same pb l (Ground.on_point f pa (point a i)) (S.across f (point b j) (point b k)))

    pub by-same : (n i k j l : ℕ) → S64.separation_by f (sweep64 wa) (sweep64 wb) a b (pose64 pa) (pose64 pb) n i k j l
        ≡ function64 (S.separation_by f wa wb a b pa pb n i k j l)
    by-same n i k j l =
        by-test function64 (eqb n 1) (points-same i j) (by-test function64 (eqb i k) (face-b-same i j l) (face-a-same i k j))

  pub new-separation-same : (wa wb : Sweep) (a b : List Float) (c : SimplexCache) (t : Float) →
      new_separation64 f (sweep64 wa) (sweep64 wb) a b c t ≡ function64 (new_separation f wa wb a b c t)
  unfolding new_separation64 new_separation
  new-separation-same wa wb a b c t = rw (transform-same wa t, transform-same wb t) (by-same wa wb a b _ _ c.count _ _ _ _)

  -- ---- the separation
  module _ (a b : List Float) (g : SeparationFunction) (pa pb : Pose) where
    pub of-same : (y : SeparationType) (i j : ℕ) → S64.separation_of f a b (function64 g) (pose64 pa) (pose64 pb) y i j ≡ S.separation_of f a b g pa pb y i j
    of-same Points i j = refl
    of-same FaceA i j = refl
    of-same FaceB i j = refl

    pub deepest-a-same : (y : SeparationType) → S64.deepest_a f a (function64 g) (pose64 pa) (pose64 pb) y ≡ S.deepest_a f a g pa pb y
    deepest-a-same Points = support-same f a (Ground.inverse_rotate f pa.rotation g.axis)
    deepest-a-same FaceA = refl
    deepest-a-same FaceB = support-same f a (Ground.inverse_rotate f pa.rotation (Ground.negate (Ground.rotate f pb.rotation g.axis)))

    pub deepest-b-same : (y : SeparationType) → S64.deepest_b f b (function64 g) (pose64 pa) (pose64 pb) y ≡ S.deepest_b f b g pa pb y
    deepest-b-same Points = support-same f b (Ground.inverse_rotate f pb.rotation (Ground.negate g.axis))
    deepest-b-same FaceA = support-same f b (Ground.inverse_rotate f pb.rotation (Ground.negate (Ground.rotate f pa.rotation g.axis)))
    deepest-b-same FaceB = refl

    pub corners-a-same : (y : SeparationType) → C64.corners_a f a (function64 g) (pose64 pa) (pose64 pb) y ≡ C.corners_a f a g pa pb y
    corners-a-same Points = support-pair-same f a (Ground.inverse_rotate f pa.rotation g.axis)
    corners-a-same FaceA = refl
    corners-a-same FaceB = support-pair-same f a (Ground.inverse_rotate f pa.rotation (Ground.negate (Ground.rotate f pb.rotation g.axis)))

    pub corners-b-same : (y : SeparationType) → C64.corners_b f b (function64 g) (pose64 pa) (pose64 pb) y ≡ C.corners_b f b g pa pb y
    corners-b-same Points = support-pair-same f b (Ground.inverse_rotate f pb.rotation (Ground.negate g.axis))
    corners-b-same FaceA = support-pair-same f b (Ground.inverse_rotate f pb.rotation (Ground.negate (Ground.rotate f pa.rotation g.axis)))
    corners-b-same FaceB = refl

  pub evaluate-same : (a b : List Float) (g : SeparationFunction) (i j : ℕ) (t : Float) → evaluate64 f a b (function64 g) i j t ≡ evaluate f a b g i j t
  unfolding evaluate64 evaluate
  evaluate-same a b g i j t = rw (transform-same g.sweep_a t, transform-same g.sweep_b t) (of-same a b g _ _ g.ty i j)

  pub find-same : (a b : List Float) (g : SeparationFunction) (t : Float) → find_min_separation64 f a b (function64 g) t
      ≡ min_separation64 (find_min_separation f a b g t)
  unfolding find_min_separation64 find_min_separation
  find-same a b g t =
      let pa = transform_at f g.sweep_a t in
      let pb = transform_at f g.sweep_b t in
      rw (
        transform-same g.sweep_a t,
        transform-same g.sweep_b t,
        deepest-a-same a b g pa pb g.ty,
        deepest-b-same a b g pa pb
            g.ty,
        of-same a b g pa pb g.ty,
      )

  pub corners-same : (a b : List Float) (g : SeparationFunction) (t : Float) → corners_at64 f a b (function64 g) t ≡ corners_at f a b g t
  unfolding corners_at64 corners_at
  corners-same a b g t =
      let pa = transform_at f g.sweep_a t in
      let pb = transform_at f g.sweep_b t in
      rw (transform-same g.sweep_a t, transform-same g.sweep_b t, corners-a-same a b g pa pb g.ty, corners-b-same a b g pa pb g.ty)
