-- Rows of fractions at their edges, computed. Assumes nothing.
use mathlib.Core.Path.{◌≡◌, refl}
use mathlib.Core.List.{[], ◌∷◌, map}
use Prim.Native.Nat.{ℕ}
use lib.Ieee.{binary32, nan, of_bits, lt, eq}
use Rattle.report_counts.specs.Rows.{hit_row}

-- by the bits of a fraction
abbrev row_of : ℕ → ℕ
row_of bits = hit_row (of_bits binary32 bits)

-- 0 and -0; the last below 1/8; k/8 belongs to the row that it begins
pub eighths :
    map row_of
    (0 ∷ 0x8000_0000 ∷ 0x3dff_ffff ∷ 0x3e00_0000 ∷ 0x3e80_0000 ∷ 0x3ec0_0000 ∷ 0x3f00_0000 ∷ 0x3f20_0000 ∷ 0x3f40_0000 ∷ 0x3f60_0000 ∷ [])
    ≡ (5 ∷ 5 ∷ 5 ∷ 6 ∷ 7 ∷ 8 ∷ 9 ∷ 10 ∷ 11 ∷ 12 ∷ [])
unfolding hit_row lt eq of_bits
eighths = refl

-- 1 and its neighbours, the neighbour of -0, both infinities
pub ends : map row_of (0x3f7f_ffff ∷ 0x3f80_0000 ∷ 0x3f80_0001 ∷ 0x8000_0001 ∷ 0x7f80_0000 ∷ 0xff80_0000 ∷ []) ≡ (12 ∷ 13 ∷ 15 ∷ 14 ∷ 15 ∷ 14 ∷ [])
unfolding hit_row lt eq of_bits
ends = refl

pub not-a-number : hit_row nan ≡ 16
unfolding hit_row lt eq of_bits
not-a-number = refl
