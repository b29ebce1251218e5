-- A sheet of squared paper as it is drawn: whole numbers alone. What a call gets from it, and a test that can be computed for whether all is near enough.
use Rattle.std.specs.Prelude.{Bool, true, false, ◌&&◌, List, [], ◌∷◌, map, ℕ, zero, suc, ◌+◌, ◌*◌, ◌/◌, T, leb, eqb, ℤ, pos, negsuc, length, get_or, Float}
use Rattle.std.specs.Float.{Format}
use Rattle.std.specs.Float.Ieee.{of_int, round}
use Rattle.integers.specs.Signed.{Int, of_nat, neg, ◌⊞◌, ◌⊟◌, ◌⊠◌}
use Rattle.model.specs.declared.Pose.{Pose}
use Rattle.model.specs.Ground.{vector, rotation, pose}
use Rattle.plane.specs.Plane.{Point, sum, difference, turned}

-- two outlines x0 y0 x1 y1 .., a cosine and a sine, a shift
pub record Sheet : Type 0 where
  pub a : List ℤ
  pub b : List ℤ
  pub cosine : ℤ
  pub sine : ℤ
  pub shift_x : ℤ
  pub shift_y : ℤ

abbrev pub int : ℤ → Int
int (pos n) = of_nat n
int (negsuc n) = neg (of_nat (suc n))

abbrev pub corner_of : List ℤ → ℕ → Point
corner_of l i = record { x = int (get_or l (2 * i) (pos 0)); y = int (get_or l (2 * i + 1) (pos 0)) }

module _ (f : Format) where
  abbrev pub drawn : List ℤ → List Float
  drawn l = map (of_int f) l

  -- the same with -0 for the zeros at which a mark stands
  abbrev pub marked : Bool → ℤ → Float
  marked true (pos zero) = round f true 0 1
  marked true (pos (suc n)) = of_int f (pos (suc n))
  marked true (negsuc n) = of_int f (negsuc n)
  marked false z = of_int f z

  abbrev pub drawn_marked : List Bool → List ℤ → List Float
  drawn_marked [] l = drawn l
  drawn_marked (m ∷ ms) [] = []
  drawn_marked (m ∷ ms) (z ∷ l) = marked m z ∷ drawn_marked ms l

  abbrev pub drawn_pose : Sheet → Pose
  drawn_pose s = pose (rotation (of_int f s.cosine) (of_int f s.sine)) (vector (of_int f s.shift_x) (of_int f s.shift_y))

-- ---- the test
unfoldable pub every : ℕ → (ℕ → Bool) → Bool
every zero t = true
every (suc n) t = every n t && t n

abbrev pub within : ℕ → Int → Bool
within n z = leb z.plus (z.minus + n) && leb z.minus (z.plus + n)

abbrev pub is_zero : Int → Bool
is_zero z = eqb z.plus z.minus

abbrev pub near_point : ℕ → Point → Bool
near_point n z = within n z.x && within n z.y

-- every number at most 1,048,576 in size
abbrev pub in_domain : List ℤ → Bool
in_domain l = every (length l) (λ i. within 1048576 (int (get_or l i (pos 0))))

module _ (s : Sheet) where
  abbrev pub shift : Point
  shift = record { x = int s.shift_x; y = int s.shift_y }

  abbrev pub posed_corner : ℕ → Point
  posed_corner j = sum (turned (int s.cosine) (int s.sine) (corner_of s.b j)) shift

  -- each is computed
  pub record OnPaper (bound : ℕ) : Type 0 where
    pub numbers_a : T (in_domain s.a)
    pub numbers_b : T (in_domain s.b)
    pub quarter_turn : T (is_zero (int s.cosine ⊠ int s.cosine ⊞ int s.sine ⊠ int s.sine ⊟ of_nat 1))
    pub shifted : T (near_point 1048576 shift)
    pub near : T (every (length s.a / 2) (λ i. every (length s.b / 2) (λ j. near_point bound (difference (corner_of s.a i) (posed_corner j)))))
