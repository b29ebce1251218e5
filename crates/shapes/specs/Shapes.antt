-- Plates and bars: which corners they have, what is refused, and what a build answers and leaves in the lent list.
use Rattle.std.specs.Prelude.{ℕ, zero, suc, ◌*◌, ◌/◌, ◌%◌, cond, ◌||◌, List, [], ◌∷◌, ◌++◌, eqb, ltb, length, drop, Float, Result, Ok, Err}
use Rattle.std.specs.Float.{Format}
use Rattle.std.specs.Float.Ieee.{neg, lt}
use Rattle.model.specs.declared.Vector.{Vector}
use Rattle.model.specs.declared.Pose.{Pose}
use Rattle.model.specs.declared.Refusal.{Refusal}
use Rattle.model.specs.Ground.{vector, on_point}
use Rattle.model.specs.Ground as Ground
use Rattle.model.specs.Domain.{bad_vector, pose_refusal, or_else, numbered}

-- ---- corners
-- negated where the bit is 1: a zero's sign turns too
abbrev pub by_bit : ℕ → Float → Float
by_bit bit x = cond (eqb bit 1) (neg x) x

-- corner k: bit 0 of k decides over x, bit 1 over y
abbrev pub plate_corner : Float → Float → ℕ → Vector
plate_corner half_x half_y k = vector (by_bit (k % 2) half_x) (by_bit (k / 2 % 2) half_y)

abbrev pub plate_corners : Float → Float → List Vector
plate_corners half_x half_y = plate_corner half_x half_y 0 ∷ plate_corner half_x half_y 1 ∷ plate_corner half_x half_y 2 ∷ plate_corner half_x half_y 3 ∷ []

abbrev pub bar_corners : Vector → Vector → List Vector
bar_corners a b = a ∷ b ∷ []

-- each corner moved by the pose: rotated, then shifted
abbrev pub placed : Format → Pose → List Vector → List Vector
placed f p [] = []
placed f p (v ∷ s) = on_point f p v ∷ placed f p s

-- x y each
abbrev pub flat : List Vector → List Float
flat [] = []
flat (v ∷ s) = v.x ∷ v.y ∷ flat s

-- ---- refusals before the room: 0 says that nothing is refused
module _ (f : Format) where
  abbrev pub plate_refusal : Float → Float → ℕ
  plate_refusal half_x half_y = cond (bad_vector f (vector half_x half_y) || lt half_x (Ground.zero f) || lt half_y (Ground.zero f)) 3 0

  abbrev pub bar_refusal : Vector → Vector → ℕ
  bar_refusal a b = cond (bad_vector f a || bad_vector f b) 3 0

  -- the shape's own comes before the pose's
  abbrev pub placed_refusal : ℕ → Pose → ℕ
  placed_refusal own p = or_else own (pose_refusal f p)

-- ---- a build: by the number of an earlier refusal, the corners and the lent list
unfoldable pub told : ℕ → List Vector → List Float → Result ℕ Refusal
told zero corners out = cond (ltb (length out) (2 * length corners)) (Err (numbered 15)) (Ok (length corners))
told (suc n) corners out = Err (numbered (suc n))

-- the list afterwards: the corners at its front and the rest as it was, or all of it as it was
unfoldable pub left : ℕ → List Vector → List Float → List Float
left zero corners out = cond (ltb (length out) (2 * length corners)) out (flat corners ++ drop (2 * length corners) out)
left (suc n) corners out = out

-- ---- the four shapes
module _ (f : Format) where
  module _ (half_x half_y : Float) where
    abbrev pub plate_told : List Float → Result ℕ Refusal
    plate_told = told (plate_refusal f half_x half_y) (plate_corners half_x half_y)

    abbrev pub plate_left : List Float → List Float
    plate_left = left (plate_refusal f half_x half_y) (plate_corners half_x half_y)

    abbrev pub placed_plate_told : Pose → List Float → Result ℕ Refusal
    placed_plate_told p = told (placed_refusal f (plate_refusal f half_x half_y) p) (placed f p (plate_corners half_x half_y))

    abbrev pub placed_plate_left : Pose → List Float → List Float
    placed_plate_left p = left (placed_refusal f (plate_refusal f half_x half_y) p) (placed f p (plate_corners half_x half_y))

  module _ (a b : Vector) where
    abbrev pub bar_told : List Float → Result ℕ Refusal
    bar_told = told (bar_refusal f a b) (bar_corners a b)

    abbrev pub bar_left : List Float → List Float
    bar_left = left (bar_refusal f a b) (bar_corners a b)

    abbrev pub placed_bar_told : Pose → List Float → Result ℕ Refusal
    placed_bar_told p = told (placed_refusal f (bar_refusal f a b) p) (placed f p (bar_corners a b))

    abbrev pub placed_bar_left : Pose → List Float → List Float
    placed_bar_left p = left (placed_refusal f (bar_refusal f a b) p) (placed f p (bar_corners a b))
