-- Written by tests/written/wide.py from model, in f64.
-- The separation function: along which axis two moving outlines are held apart, and how far apart they are along it at a time.
use Rattle.std.specs.Prelude.{ℕ, Bool, true, false, cond, List, eqb, get_or, Float}
use Rattle.std.specs.Float.{Format}
use Rattle.std.specs.Float.Ieee.{neg, lt}
use Rattle.model64.specs.declared.Vector.{Vector}
use Rattle.model64.specs.declared.Pose.{Pose}
use Rattle.model64.specs.declared.Sweep.{Sweep}
use Rattle.model.specs.declared.SimplexCache.{SimplexCache}
use Rattle.model.specs.declared.SeparationType.{SeparationType}
use Rattle.model.specs.declared.SeparationType.TheVariants.{Points, FaceA, FaceB}
use Rattle.model64.specs.declared.SeparationFunction.{SeparationFunction}
use Rattle.model64.specs.declared.MinSeparation.{MinSeparation}
use Rattle.model64.specs.Ground.{vector, half, origin, plus, minus, times, negate, dot, normalise_or_zero, rotate, inverse_rotate, on_point}
use Rattle.model64.specs.Ground as Ground
use Rattle.model64.specs.Support.{point, support}
use Rattle.model64.specs.Sweep.{transform_at}
pub use Rattle.model.specs.Separation.{no_index}

abbrev pub function : Sweep → Sweep → Vector → Vector → SeparationType → SeparationFunction
function wa wb l x ty = record { sweep_a = wa; sweep_b = wb; local_point = l; axis = x; ty = ty }

module _ (f : Format) where
  -- ---- the axis
  -- across the edge from u to w
  abbrev pub across : Vector → Vector → Vector
  across u w = normalise_or_zero f (vector (minus f w u).y (neg (minus f w u).x))

  abbrev pub middle : Vector → Vector → Vector
  middle u w = times f (plus f u w) (half f)

  -- the axis x through the local point l of the edge's outline, turned to the side of the other outline's point v
  abbrev pub toward : Pose → Vector → Vector → Vector → Vector
  toward p l v x = cond (lt (dot f (minus f v (on_point f p l)) (rotate f p.rotation x)) (Ground.zero f)) (negate x) x

  module _ (wa wb : Sweep) (outline_a outline_b : List Float) where
    -- one corner of each: the axis from A's to B's
    abbrev pub of_points : Pose → Pose → ℕ → ℕ → SeparationFunction
    of_points pa pb i j = function wa wb (origin f) (normalise_or_zero f (minus f (on_point f pb (point outline_b j)) (on_point f pa (point outline_a i)))) Points

    -- two corners of A and one of B, or the other way round
    abbrev pub of_face_a : Pose → Pose → ℕ → ℕ → ℕ → SeparationFunction
    of_face_a pa pb i k j =
        let l = middle (point outline_a i) (point outline_a k) in
        function wa wb l (toward pa l (on_point f pb (point outline_b j)) (across (point outline_a i) (point outline_a k))) FaceA

    abbrev pub of_face_b : Pose → Pose → ℕ → ℕ → ℕ → SeparationFunction
    of_face_b pa pb i j k =
        let l = middle (point outline_b j) (point outline_b k) in
        function wa wb l (toward pb l (on_point f pa (point outline_a i)) (across (point outline_b j) (point outline_b k))) FaceB

    -- by the cached corners; three are treated as two
    abbrev pub separation_by : Pose → Pose → ℕ → ℕ → ℕ → ℕ → ℕ → SeparationFunction
    separation_by pa pb n i k j l = cond (eqb n 1) (of_points pa pb i j) (cond (eqb i k) (of_face_b pa pb i j l) (of_face_a pa pb i k j))

    unfoldable pub new_separation : SimplexCache → Float → SeparationFunction
    new_separation c t =
        separation_by (transform_at f wa t) (transform_at f wb t) c.count
        (get_or c.index_a 0 0) (get_or c.index_a 1 0) (get_or c.index_b 0 0) (get_or c.index_b 1 0)

  -- ---- the separation, by the poses at a time
  -- the corners that lie deepest along the axis
  abbrev pub deepest_a : List Float → SeparationFunction → Pose → Pose → SeparationType → ℕ
  deepest_a outline_a s pa pb Points = support f outline_a (inverse_rotate f pa.rotation s.axis)
  deepest_a outline_a s pa pb FaceA = no_index
  deepest_a outline_a s pa pb FaceB = support f outline_a (inverse_rotate f pa.rotation (negate (rotate f pb.rotation s.axis)))

  abbrev pub deepest_b : List Float → SeparationFunction → Pose → Pose → SeparationType → ℕ
  deepest_b outline_b s pa pb Points = support f outline_b (inverse_rotate f pb.rotation (negate s.axis))
  deepest_b outline_b s pa pb FaceA = support f outline_b (inverse_rotate f pb.rotation (negate (rotate f pa.rotation s.axis)))
  deepest_b outline_b s pa pb FaceB = no_index

  module _ (outline_a outline_b : List Float) (s : SeparationFunction) where
    module _ (pa pb : Pose) where
      -- from corner i of A to corner j of B; a face has its own point in place of its corner
      abbrev pub separation_of : SeparationType → ℕ → ℕ → Float
      separation_of Points i j = dot f (minus f (on_point f pb (point outline_b j)) (on_point f pa (point outline_a i))) s.axis
      separation_of FaceA i j =
          dot f (minus f (on_point f pb (point outline_b j)) (on_point f pa s.local_point)) (rotate f pa.rotation s.axis)
      separation_of FaceB i j =
          dot f (minus f (on_point f pa (point outline_a i)) (on_point f pb s.local_point)) (rotate f pb.rotation s.axis)

      abbrev pub min_separation_by : ℕ → ℕ → MinSeparation
      min_separation_by i j = record { separation = separation_of s.ty i j; index_a = i; index_b = j }

    -- at time t: of given corners, and of the deepest
    unfoldable pub evaluate : ℕ → ℕ → Float → Float
    evaluate i j t = separation_of (transform_at f s.sweep_a t) (transform_at f s.sweep_b t) s.ty i j

    unfoldable pub find_min_separation : Float → MinSeparation
    find_min_separation t =
        let pa = transform_at f s.sweep_a t in
        let pb = transform_at f s.sweep_b t in
        min_separation_by pa pb (deepest_a outline_a s pa pb s.ty) (deepest_b outline_b s pa pb s.ty)
