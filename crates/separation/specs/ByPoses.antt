-- The separation function and the separation by poses that are worked out already, and between two points that are fetched already: what
-- `model` says of a time, cut where a sweep does the same work again and again.
use Rattle.std.specs.Prelude.{ℕ, List, Float, get_or}
use Rattle.std.specs.Float.{Format}
use Rattle.model.specs.declared.Vector.{Vector}
use Rattle.model.specs.declared.Pose.{Pose}
use Rattle.model.specs.declared.Sweep.{Sweep}
use Rattle.model.specs.declared.SimplexCache.{SimplexCache}
use Rattle.model.specs.declared.SeparationType.{SeparationType}
use Rattle.model.specs.declared.SeparationType.TheVariants.{Points, FaceA, FaceB}
use Rattle.model.specs.declared.SeparationFunction.{SeparationFunction}
use Rattle.model.specs.declared.Search.{Search}
use Rattle.model.specs.Ground.{minus, dot, rotate, on_point}
use Rattle.model.specs.Support.{point}
use Rattle.model.specs.Separation.{separation_by, deepest_a, deepest_b, min_separation_by}
use Rattle.model.specs.Corners.{corners, corners_a, corners_b, found}

module _ (f : Format) where
  abbrev pub new_separation_by : Sweep → Sweep → List Float → List Float → SimplexCache → Pose → Pose → SeparationFunction
  new_separation_by wa wb a b c pa pb =
      separation_by f wa wb a b pa pb c.count
      (get_or c.index_a 0 0) (get_or c.index_a 1 0) (get_or c.index_b 0 0) (get_or c.index_b 1 0)

  abbrev pub search_by : List Float → List Float → SeparationFunction → Pose → Pose → Search
  search_by a b s pa pb =
      found (min_separation_by f a b s pa pb (deepest_a f a s pa pb s.ty) (deepest_b f b s pa pb s.ty))
      (corners (corners_a f a s pa pb s.ty) (corners_b f b s pa pb s.ty))

  -- the points that the separation is measured between: corners, or a face's own point
  abbrev pub end_a : List Float → SeparationFunction → SeparationType → ℕ → Vector
  end_a a s Points i = point a i
  end_a a s FaceA i = s.local_point
  end_a a s FaceB i = point a i

  abbrev pub end_b : List Float → SeparationFunction → SeparationType → ℕ → Vector
  end_b b s Points j = point b j
  end_b b s FaceA j = point b j
  end_b b s FaceB j = s.local_point

  abbrev pub between : Vector → Vector → Vector → Pose → Pose → SeparationType → Float
  between u v x pa pb Points = dot f (minus f (on_point f pb v) (on_point f pa u)) x
  between u v x pa pb FaceA = dot f (minus f (on_point f pb v) (on_point f pa u)) (rotate f pa.rotation x)
  between u v x pa pb FaceB = dot f (minus f (on_point f pa u) (on_point f pb v)) (rotate f pb.rotation x)
