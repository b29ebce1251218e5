-- Written by tests/written/wide.py from separation, in f64.
-- The separation by poses and points is the one of `model`, where the poses are those of the moves at a time and the points those of the corners.
-- Assumes nothing.
use Prim.Native.Nat.{ℕ}
use mathlib.Core.Bool.{Bool, true, false, cond}
use mathlib.Core.List.{List}
use mathlib.Core.Path.{◌≡◌, refl, ap, ◌∙◌}
use lib.Dec.{eqb}
use lib.Ieee.{Float, Format}
use lib.ListN.{get_or}
use Rattle.model64.specs.declared.Vector.{Vector}
use Rattle.model64.specs.declared.Pose.{Pose}
use Rattle.model64.specs.declared.Sweep.{Sweep}
use Rattle.model.specs.declared.SimplexCache.{SimplexCache}
use Rattle.model.specs.declared.SeparationType.{SeparationType}
use Rattle.model.specs.declared.SeparationType.TheVariants.{Points, FaceA, FaceB}
use Rattle.model64.specs.declared.SeparationFunction.{SeparationFunction}
use Rattle.model64.specs.declared.MinSeparation.{MinSeparation}
use Rattle.model.specs.declared.SupportPair.{SupportPair}
use Rattle.model64.specs.Sweep.{transform_at}
use Rattle.model64.specs.Separation.{deepest_a, deepest_b, min_separation_by, separation_of, of_points, of_face_a, of_face_b, new_separation, evaluate, find_min_separation}
use Rattle.model.specs.Corners.{corners}
use Rattle.model64.specs.Corners.{corners_a, corners_b, corners_at, found, search}
use Rattle.model64.proofs.Searches.{first-a, first-b}
use Rattle.separation64.specs.ByPoses.{new_separation_by, search_by, end_a, end_b, between}

abbrev pub least : Float → ℕ → ℕ → MinSeparation
least x i j = record { separation = x; index_a = i; index_b = j }

module _ (f : Format) (a b : List Float) where
  -- ---- the separation function keeps the moves that it was made from
  module _ (wa wb : Sweep) where
    pub record Keeps (s : SeparationFunction) : Type 0 where
      pub of-a : s.sweep_a ≡ wa
      pub of-b : s.sweep_b ≡ wb

    either : (t : Bool) (x y : SeparationFunction) → Keeps x → Keeps y → Keeps (cond t x y)
    either true x y p q = p
    either false x y p q = q

    pub moves-are-kept : (c : SimplexCache) (pa pb : Pose) → Keeps (new_separation_by f wa wb a b c pa pb)
    moves-are-kept c pa pb =
        let i = get_or c.index_a 0 0 in
        let k = get_or c.index_a 1 0 in
        let j = get_or c.index_b 0 0 in
        let l = get_or c.index_b 1 0 in
        either (eqb c.count 1) (of_points f wa wb a b pa pb i j) _ (record { of-a = refl; of-b = refl })
        (either (eqb i k) (of_face_b f wa wb a b pa pb i j l) (of_face_a f wa wb a b pa pb i k j) (record { of-a = refl; of-b = refl })
        (record { of-a = refl; of-b = refl }))

    pub new-at : (c : SimplexCache) (t : Float) →
        new_separation_by f wa wb a b c (transform_at f wa t) (transform_at f wb t) ≡ new_separation f wa wb a b c t
    unfolding new_separation
    new-at c t = refl

  -- ---- the separation at a time
  module _ (s : SeparationFunction) where
    between-is-of : (pa pb : Pose) (ty : SeparationType) (i j : ℕ) →
        between f (end_a f a s ty i) (end_b f b s ty j) s.axis pa pb ty ≡ separation_of f a b s pa pb ty i j
    between-is-of pa pb Points i j = refl
    between-is-of pa pb FaceA i j = refl
    between-is-of pa pb FaceB i j = refl

    same-least : (pa pb : Pose) (i j : ℕ) {u v : Vector} {x : Float} →
        i ≡ deepest_a f a s pa pb s.ty → j ≡ deepest_b f b s pa pb s.ty → u ≡ end_a f a s s.ty i → v ≡ end_b f b s s.ty j →
        x ≡ between f u v s.axis pa pb s.ty →
        least x i j ≡ min_separation_by f a b s pa pb (deepest_a f a s pa pb s.ty) (deepest_b f b s pa pb s.ty)
    same-least pa pb i j g h k l e =
        rw (e, k, l, g, h)
        (ap (λ (y : Float). least y (deepest_a f a s pa pb s.ty) (deepest_b f b s pa pb s.ty)) (between-is-of pa pb s.ty _ _))

    pub found-by : (pa pb : Pose) {p q : SupportPair} {u v : Vector} {x : Float} →
        p ≡ corners_a f a s pa pb s.ty → q ≡ corners_b f b s pa pb s.ty → u ≡ end_a f a s s.ty p.first → v ≡ end_b f b s s.ty q.first →
        x ≡ between f u v s.axis pa pb s.ty → found (least x p.first q.first) (corners p q) ≡ search_by f a b s pa pb
    found-by pa pb {p} {q} g h k l e =
        let i = ap (λ (y : SupportPair). y.first) g ∙ first-a f a b s pa pb s.ty in
        let j = ap (λ (y : SupportPair). y.first) h ∙ first-b f a b s pa pb s.ty in
        ap (λ (m : MinSeparation). found m (corners p q)) (same-least pa pb p.first q.first i j k l e)
        ∙ ap (λ (y : SupportPair). found least-there (corners y q)) g
        ∙ ap (λ (y : SupportPair). found least-there (corners (corners_a f a s pa pb s.ty) y)) h
      where
        least-there : MinSeparation
        least-there = min_separation_by f a b s pa pb (deepest_a f a s pa pb s.ty) (deepest_b f b s pa pb s.ty)

    pub evaluate-at : (t : Float) (i j : ℕ) →
        between f (end_a f a s s.ty i) (end_b f b s s.ty j) s.axis (transform_at f s.sweep_a t) (transform_at f s.sweep_b t) s.ty
        ≡ evaluate f a b s i j t
    unfolding evaluate
    evaluate-at t i j = between-is-of _ _ s.ty i j

    pub search-at : (t : Float) →
        search_by f a b s (transform_at f s.sweep_a t) (transform_at f s.sweep_b t) ≡ search f a b s t
    unfolding find_min_separation corners_at
    search-at t = refl
