-- What stands in the lent list after a build, corner by corner; that the rest of it stays; and that the corners of an unplaced shape pass the checks of
-- outlines. Assumes nothing.
use Prim.Native.Nat.{ℕ, zero, suc, ◌+◌, ◌*◌, ◌≤◌, ◌<◌}
use native.Mathlib.Omega.{arith}
use mathlib.Core.Bool.{Bool, true, false, ◌||◌}
use mathlib.Core.Path.{◌≡◌, refl, ap, ◌∙◌}
use mathlib.Core.List.{List, [], ◌∷◌, ◌++◌}
use borrow.Author.Tests.{ltb-false}
use lib.Dec.{ltb}
use lib.ListN.{length, take, drop, get_or, length-append, length-drop}
use lib.Seq.{take_at, drop_at}
use lib.Ieee.{Float, nan, inf, fin, Format, binary32, of_bits, neg, lt, le}
use Rattle.std.proofs.Common.{Result, Ok, Err}
use Rattle.model.specs.declared.Vector.{Vector}
use Rattle.model.specs.declared.Pose.{Pose}
use Rattle.model.specs.declared.Refusal.{Refusal}
use Rattle.model.specs.Ground.{vector, on_point, abs}
use Rattle.model.specs.Domain.{bad_part, bad_vector, bad_parts, outline_refusal, numbered}
use Rattle.model.specs.Support.{point}
use Rattle.model.proofs.Domain.{test-passed}
use Rattle.shapes.specs.Shapes.{plate_corner, plate_corners, bar_corners, placed, flat, plate_refusal, bar_refusal, told, left, plate_told, plate_left}
use Rattle.shapes.specs.Shapes.{placed_plate_told, placed_plate_left, bar_told, bar_left, placed_bar_told, placed_bar_left}
use Rattle.shapes.proofs.Endings.{flat-length}

-- ---- what an answer says of the list
module _ (corners : List Vector) (out : List Float) where
  -- nothing was refused, the number is that of the corners, and they stand before the rest
  record Stand (n m : ℕ) : Type 0 where
    none : n ≡ 0
    number : m ≡ length corners
    room : 2 * length corners ≤ length out
    is : left n corners out ≡ flat corners ++ drop (2 * length corners) out

  stand : (n m : ℕ) → told n corners out ≡ Ok m → Stand n m
  unfolding told left
  stand zero m e = go _ refl
    where
      go : (short : Bool) → ltb (length out) (2 * length corners) ≡ short → Stand 0 m
      go true s = absurd (let says : Err (numbered 15) ≡ Ok m = rw s at e in let z : ◌≡◌ {A = ℕ} 0 1 = cc in omega arith)
      go false s =
          let says : Ok (length corners) ≡ Ok m = rw s at e in
          record { none = refl; number = cc; room = ltb-false _ _ s; is = rw s refl }
  stand (suc n) m e = absurd (let z : ◌≡◌ {A = ℕ} 0 1 = cc in omega arith)

  -- a refused build leaves the list as it was
  pub refused-leaves : (n k : ℕ) → told n corners out ≡ Err (numbered k) → left n corners out ≡ out
  unfolding told left
  refused-leaves zero k e = go _ refl
    where
      go : (short : Bool) → ltb (length out) (2 * length corners) ≡ short → left 0 corners out ≡ out
      go true s = rw s refl
      go false s = absurd (let says : Ok (length corners) ≡ Err (numbered k) = rw s at e in let z : ◌≡◌ {A = ℕ} 0 1 = cc in omega arith)
  refused-leaves (suc n) k e = refl

abbrev no_corner : Vector
no_corner = vector nan nan

corner-stands : (corners : List Vector) (rest : List Float) (k : ℕ) → k < length corners → point (flat corners ++ rest) k ≡ get_or corners k no_corner
corner-stands [] rest k h = absurd (omega arith)
corner-stands (v ∷ s) rest zero h = refl
corner-stands (v ∷ s) rest (suc k) h =
    let x : 2 * suc k ≡ suc (suc (2 * k)) = omega arith in
    let y : 2 * suc k + 1 ≡ suc (suc (2 * k + 1)) = omega arith in
    rw (y, x) (corner-stands s rest k (omega arith))

module _ (n m : ℕ) (corners : List Vector) (out : List Float) (built : told n corners out ≡ Ok m) where
  corner-of : (k : ℕ) → k < length corners → point (left n corners out) k ≡ get_or corners k no_corner
  corner-of k h = rw (stand corners out n m built).is (corner-stands corners _ k h)

  front_of : take (2 * length corners) (left n corners out) ≡ flat corners
  front_of = rw (stand corners out n m built).is (take_at (flat corners) _ _ (flat-length corners))

  rest_of : drop (2 * length corners) (left n corners out) ≡ drop (2 * length corners) out
  rest_of = rw (stand corners out n m built).is (drop_at (flat corners) _ _ (flat-length corners))

  size_of : length (left n corners out) ≡ length out
  size_of =
      let s = stand corners out n m built in
      rw (s.is, length-append (flat corners) (drop (2 * length corners) out), length-drop (2 * length corners) out)
      (omega (arith, flat-length corners, s.room))

-- ---- the checks of outlines: a negated part is as large
abs_neg : (x : Float) → abs (neg x) ≡ abs x
unfolding abs neg
abs_neg nan = refl
abs_neg (inf s) = refl
abs_neg (fin s m e) = refl

neither : (a b : Bool) → (a || b) ≡ false → (a ≡ false) × (b ≡ false)
neither true b e = absurd (let z : ◌≡◌ {A = ℕ} 0 1 = cc in omega arith)
neither false b e = (refl, e)

module _ (f : Format) where
  plate-passes : (half_x half_y : Float) → plate_refusal f half_x half_y ≡ 0 → outline_refusal f (flat (plate_corners half_x half_y)) ≡ 0
  unfolding bad_parts
  plate-passes half_x half_y none =
      let sizes = (neither _ _ (neither _ _ (test-passed _ 2 0 none).0).0).0 in
      let parts = neither (bad_part f half_x) (bad_part f half_y) sizes in
      simp (abs_neg, parts.0, parts.1)

  bar-passes : (a b : Vector) → bar_refusal f a b ≡ 0 → outline_refusal f (flat (bar_corners a b)) ≡ 0
  unfolding bad_parts
  bar-passes a b none =
      let ends = neither (bad_vector f a) (bad_vector f b) (test-passed _ 2 0 none).0 in
      let first = neither (bad_part f a.x) (bad_part f a.y) ends.0 in
      let second = neither (bad_part f b.x) (bad_part f b.y) ends.1 in
      simp (first.0, first.1, second.0, second.1)

-- ---- whatever the answer: what lies behind the corners stays, and so does the length
module _ (n : ℕ) (corners : List Vector) (out : List Float) where
  pub rest-kept : drop (2 * length corners) (left n corners out) ≡ drop (2 * length corners) out
  rest-kept = go _ refl
    where
      go : (x : Result ℕ Refusal) → told n corners out ≡ x → drop (2 * length corners) (left n corners out) ≡ drop (2 * length corners) out
      go (Ok m) e = rest_of n m corners out e
      go (Err r) e = ap (drop (2 * length corners)) (refused-leaves corners out n r.number e)

  pub size-kept : length (left n corners out) ≡ length out
  size-kept = go _ refl
    where
      go : (x : Result ℕ Refusal) → told n corners out ≡ x → length (left n corners out) ≡ length out
      go (Ok m) e = size_of n m corners out e
      go (Err r) e = ap length (refused-leaves corners out n r.number e)

-- ---- the shapes, where they are built
at-four : (g : ℕ → Vector) (k : ℕ) → k < 4 → get_or (g 0 ∷ g 1 ∷ g 2 ∷ g 3 ∷ []) k no_corner ≡ g k
at-four g zero h = refl
at-four g (suc zero) h = refl
at-four g (suc (suc zero)) h = refl
at-four g (suc (suc (suc zero))) h = refl
at-four g (suc (suc (suc (suc k)))) h = absurd (omega arith)

module _ (f : Format) (out : List Float) (m : ℕ) where
  module _ (half_x half_y : Float) where
    pub plate-corner : plate_told f half_x half_y out ≡ Ok m → (k : ℕ) → k < 4 → point (plate_left f half_x half_y out) k ≡ plate_corner half_x half_y k
    plate-corner built k h = corner-of _ m (plate_corners half_x half_y) out built k h ∙ at-four (plate_corner half_x half_y) k h

    pub placed-plate-corner : (p : Pose) → placed_plate_told f half_x half_y p out ≡ Ok m →
        (k : ℕ) → k < 4 → point (placed_plate_left f half_x half_y p out) k ≡ on_point f p (plate_corner half_x half_y k)
    placed-plate-corner p built k h =
        corner-of _ m (placed f p (plate_corners half_x half_y)) out built k h ∙ at-four (λ j. on_point f p (plate_corner half_x half_y j)) k h

    pub plate-accepted : plate_told f half_x half_y out ≡ Ok m → outline_refusal f (take 8 (plate_left f half_x half_y out)) ≡ 0
    plate-accepted built =
        rw (front_of _ m (plate_corners half_x half_y) out built) (plate-passes f half_x half_y (stand (plate_corners half_x half_y) out _ m built).none)

  module _ (a b : Vector) where
    pub bar-corners : bar_told f a b out ≡ Ok m → (point (bar_left f a b out) 0 ≡ a) × (point (bar_left f a b out) 1 ≡ b)
    bar-corners built =
        let corner = corner-of _ m (bar_corners a b) out built in
        (corner 0 (omega arith), corner 1 (omega arith))

    pub placed-bar-corners : (p : Pose) → placed_bar_told f a b p out ≡ Ok m →
        (point (placed_bar_left f a b p out) 0 ≡ on_point f p a) × (point (placed_bar_left f a b p out) 1 ≡ on_point f p b)
    placed-bar-corners p built =
        let corner = corner-of _ m (placed f p (bar_corners a b)) out built in
        (corner 0 (omega arith), corner 1 (omega arith))

    pub bar-accepted : bar_told f a b out ≡ Ok m → outline_refusal f (take 4 (bar_left f a b out)) ≡ 0
    bar-accepted built = rw (front_of _ m (bar_corners a b) out built) (bar-passes f a b (stand (bar_corners a b) out _ m built).none)

-- ---- a half size of -0 is zero to the checks; where its bit is set the corner has +0
abbrev minus_zero : Float
minus_zero = of_bits binary32 0x8000_0000

pub minus-zero-passes : plate_refusal binary32 minus_zero minus_zero ≡ 0
unfolding abs of_bits lt le
minus-zero-passes = refl

pub minus-zero-turns : plate_corner minus_zero minus_zero 3 ≡ vector (of_bits binary32 0) (of_bits binary32 0)
unfolding of_bits neg
minus-zero-turns = refl
