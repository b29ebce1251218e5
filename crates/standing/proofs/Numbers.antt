-- The numbers of a piece's check at the scale of the planned way, and the inequalities between them. A turn of length 1 is 2^51 U there, and one step of the
-- grid 2^51 U U. Assumes nothing.
use mathlib.Core.Path.{◌≡◌}
use Prim.Native.Nat.{ℕ, ◌+◌, ◌*◌, ◌≤◌, ◌<◌}
use native.Mathlib.Nat.{mul-le-mul_left, mul-le-mul}
use native.Mathlib.Omega.{arith}
use Rattle.integers.specs.Signed.{Int, 0Int, of_nat, ◌⊞◌, ◌⊟◌, ◌⊠◌, ◌≼◌, ◌≺◌, ◌≃◌}
use Rattle.whole_move.specs.Blend.{twice}
use Rattle.whole_move.proofs.Linear.{window-linear}
use Rattle.standing.specs.Seen.{Reach}

-- of a turn that is off by y in its squared length, the blur included; of a body with corners within R on the grid
abbrev pub turn_length : ℕ → ℕ
turn_length U = 2251799813685248 * U

abbrev pub window_width : ℕ → ℕ
window_width U = 4722366482869645213696 * (U * U)

abbrev pub length_off : (U y : ℕ) → ℕ
length_off U y = 4722366482869645213696 * (U * U * y)

abbrev pub farthest : (U R : ℕ) → ℕ
farthest U R = U * (R + 3)

abbrev pub carried : (U R y : ℕ) → ℕ
carried U R y = 1310720 * (U * U * ((R + 3) * (y + 1)))

-- half of what rounding moves a part of a corner by: of its turn, of itself
abbrev pub turn_blur : (U r : ℕ) → ℕ
turn_blur U r = 2097152 * (U * r)

abbrev pub largest_part : (U R : ℕ) → ℕ
largest_part U R = U * (R + 2)

abbrev pub turn_part : ℕ → ℕ
turn_part U = 2533274790395904 * U

abbrev pub corner_blur : (U R r : ℕ) → ℕ
corner_blur U R r = turn_blur U r * largest_part U R + 2 * U * turn_part U

abbrev pub margin : (U E : ℕ) → ℕ
margin U E = 2251799813685248 * (U * U * E)

-- over the width alone, as a number of its own
room-plain : (S : Int) (Y Z y : ℕ) → S ≃ of_nat (1073741824 * Z) → Y ≡ Z * y → 0 < Z → y < 134217728 → of_nat Y ≺ S
room-plain S Y Z y s e z h =
    let below : y ≤ 134217727 = omega arith in
    omega (arith, mul-le-mul_left Z below)

tame-plain : (S : Int) (Y Z y : ℕ) → S ≃ of_nat (1073741824 * Z) → Y ≡ Z * y → y < 134217728 → of_nat 49 ⊠ (S ⊞ of_nat Y) ≼ of_nat 64 ⊠ (S ⊟ of_nat Z)
unfolding ◌⊠◌
tame-plain S Y Z y s e h =
    let below : y ≤ 134217727 = omega arith in
    omega (arith, mul-le-mul_left Z below)

disc-plain : (a b : Int) (k R : ℕ) → R ≤ 805306368 → a ≃ of_nat (k * (1073741825 * ((R + 3) * (R + 3)))) → b ≃ of_nat (k * (1073741824 * ((R + 4) * (R +
    4)))) → a ≼ b
disc-plain a b k R h ea eb =
    let below : 1073741825 * ((R + 3) * (R + 3)) ≤ 1073741824 * ((R + 4) * (R + 4)) = omega (arith, mul-le-mul_left R h) in
    omega (arith, mul-le-mul_left k below)

module _ (U : ℕ) (some : 0 < U) where
  abbrev F : Int
  F = of_nat (turn_length U)

  abbrev slack : Int
  slack = of_nat (window_width U)

  pub some_square : 0 < U * U
  some_square = mul-le-mul some some

  some_width : 0 < window_width U
  some_width = omega (arith, some_square)

  squared : F ⊠ F ≃ of_nat (1073741824 * window_width U)
  unfolding ◌⊠◌
  squared = omega arith

  off-is : (y : ℕ) → length_off U y ≡ window_width U * y
  off-is y = omega arith

  pub room-law : (y : ℕ) → y < 134217728 → of_nat (length_off U y) ≺ F ⊠ F
  room-law y h = room-plain (F ⊠ F) (length_off U y) (window_width U) y squared (off-is y) some_width h

  pub tame-law : (y : ℕ) → y < 134217728 → of_nat 49 ⊠ (F ⊠ F ⊞ of_nat (length_off U y)) ≼ of_nat 64 ⊠ (F ⊠ F ⊟ slack)
  tame-law y h = tame-plain (F ⊠ F) (length_off U y) (window_width U) y squared (off-is y) h

  linear-law : (R y : ℕ) → y < 134217728
      → of_nat 8 ⊠ (of_nat (farthest U R) ⊠ (F ⊠ (of_nat (2097152 * (U * y)) ⊞ of_nat (2097152 * U)))) ≼ of_nat 15 ⊠ ((F ⊟ of_nat (2097152 * (U * y))) ⊠ of_nat
      (carried U R y))
  unfolding ◌⊠◌
  linear-law R y h =
      let k = U * U * U * ((R + 3) * (y + 1)) in
      let below : 75 * y + 68719476736 ≤ 80530636800 = omega arith in
      omega (arith, mul-le-mul_left k below)

  square-law : (y : ℕ) → of_nat (length_off U y) ≼ F ⊠ of_nat (2097152 * (U * y))
  unfolding ◌⊠◌
  square-law y = omega arith

  slack-law : slack ≼ F ⊠ of_nat (2097152 * U)
  unfolding ◌⊠◌
  slack-law = omega arith

  below-law : (y : ℕ) → y < 134217728 → of_nat (2097152 * (U * y)) ≼ F
  below-law y h =
      let below : y ≤ 134217727 = omega arith in
      omega (arith, mul-le-mul_left U below)

  pub window-law : (R y : ℕ) → y < 134217728
      → let Y = of_nat (length_off U y) in
      let E = of_nat (carried U R y) in
      let r = of_nat (farthest U R) in
      of_nat 64 ⊠ (r ⊠ r ⊠ ((Y ⊞ slack) ⊠ (Y ⊞ slack))) ≼ of_nat 225 ⊠ ((F ⊠ F ⊟ Y) ⊠ (E ⊠ E))
  window-law R y h =
      window-linear F (of_nat (length_off U y)) slack (of_nat (farthest U R)) (of_nat (carried U R y)) (of_nat (2097152 * (U * y))) (of_nat (2097152 * U))
      (omega arith) (omega arith) (omega arith) (omega arith) (below-law y h) (square-law y) slack-law (linear-law R y h)

  -- a disc
  pub disc-law : (R : ℕ) → R ≤ 805306368
      → (F ⊠ F ⊞ slack) ⊠ (of_nat (farthest U R) ⊠ of_nat (farthest U R)) ≼ of_nat (margin U (R + 4)) ⊠ of_nat (margin U (R + 4))
  unfolding ◌⊠◌
  disc-law R h =
      disc-plain ((F ⊠ F ⊞ slack) ⊠ (of_nat (farthest U R) ⊠ of_nat (farthest U R))) (of_nat (margin U (R + 4)) ⊠ of_nat (margin U (R + 4))) (window_width U *
      (U * U)) R h (omega arith) (omega arith)

  pub wide-law : F ⊠ F ≼ slack ⊠ of_nat 1073741824
  unfolding ◌⊠◌
  wide-law = omega arith

  pub length-law : F ≃ twice (of_nat 16777216 ⊠ of_nat (67108864 * U))
  unfolding ◌⊠◌
  length-law = omega arith

  pub keep-law : (kept up : ℕ) → kept ≤ up * U → F ⊠ of_nat kept ≼ of_nat (margin U up)
  unfolding ◌⊠◌
  keep-law kept up h = omega (arith, mul-le-mul_left U h)

  -- ---- what a turn's rounding does to its squared length
  pub long-law : (y r : ℕ) → F ⊠ F ⊟ of_nat (length_off U (y + 5 * r)) ⊞ of_nat (4 * (turn_blur U r * (2814749767106560 * U)))
      ≼ of_nat (1048576 * U) ⊠ of_nat (1048576 * U) ⊠ (of_nat 2147483648 ⊠ of_nat 2147483648 ⊟ of_nat (4294967296 * y))
  unfolding ◌⊠◌
  long-law y r = omega arith

  pub short-law : (y r : ℕ) → of_nat (1048576 * U) ⊠ of_nat (1048576 * U) ⊠ (of_nat 2147483648 ⊠ of_nat 2147483648 ⊞ of_nat (4294967296 * y))
      ≼ F ⊠ F ⊞ of_nat (length_off U (y + 5 * r)) ⊟ of_nat (4 * (turn_blur U r * (2814749767106560 * U)))
  unfolding ◌⊠◌
  short-law y r = omega arith

  -- ---- margins
  pub rounding-law : (h k : ℕ) → twice (of_nat (2 * h + 2 * k) ⊠ of_nat (2 * h + 2 * k)) ≼ of_nat (3 * (h + k)) ⊠ of_nat (3 * (h + k))
  unfolding ◌⊠◌
  rounding-law h k = omega arith

  reach-plain : (R y E : ℕ) → Reach R y E → 5 * (R * (y + 1)) ≤ 8589934592 * E
  unfolding ◌⊠◌
  reach-plain R y E h = omega (arith, h.enough)

  -- h0 is half of what a centre is off by, and at most 3 2^50 U U c
  pub enough-law : (R y r E c h0 : ℕ) → Reach (R + 3) (y + 10 * r) E → h0 ≤ 1125899906842624 * (U * U * c)
      → carried U R (y + 5 * r) + 3 * (h0 + corner_blur U R r) ≤ margin U (E + 7 + 2 * c)
  enough-law R y r E c h0 reach small = omega (arith, mul-le-mul_left (U * U) (reach-plain (R + 3) (y + 10 * r) E reach))

  pub disc-enough-law : (R E c h0 : ℕ) → R + 4 ≤ E → h0 ≤ 1125899906842624 * (U * U * c) → margin U (R + 4) + 3 * h0 ≤ margin U (E + 7 + 2 * c)
  disc-enough-law R E c h0 l small = omega (arith, mul-le-mul_left (U * U) l)

  -- the axis is 2^28 long, and 2^62 is what rounding to 2^30-ths takes
  pub away-law : (up ea eb : ℕ) → of_nat 268435456 ⊠ (of_nat (margin U up) ⊞ of_nat (margin U (ea + 7 + 2 * 0)) ⊞ of_nat (margin U (eb + 7 + 2 * 3)))
      ≼ of_nat (1048576 * (U * U)) ⊠ record { plus = 2147483648 * (268435456 * (up + ea + eb + 28)); minus = 4611686018427387904 }
  unfolding ◌⊠◌
  away-law up ea eb = omega arith
