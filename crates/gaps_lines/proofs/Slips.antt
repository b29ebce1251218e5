-- What slips that look harmless would change, and that the steps are exact: computed. Assumes nothing.
use Prim.Native.Nat.{ℕ, zero, suc}
use mathlib.Core.Path.{◌≡◌, refl}
use mathlib.Core.Bool.{Bool, true, ◌&&◌}
use lib.Dec.{eqb}
use lib.Ieee.{binary32, of_bits, to_bits, of_int}
use lib.Ieee as Ieee
use lib.IntN.{pos}
use Rattle.gaps_lines.specs.Gaps.{fraction_at}

-- steps of a 255th: the last but one of a move to 1 is at 0.99609375
steps-of-a-255th : to_bits binary32 (fraction_at binary32 (of_bits binary32 0x3f80_0000) 255) ≡ 0x3f7f_0000
unfolding fraction_at to_bits Ieee.mul of_bits Ieee.div of_int
steps-of-a-255th = refl

-- the last step is the max fraction itself: of 0.3 to the bit
last-step-short : to_bits binary32 (fraction_at binary32 (of_bits binary32 0x3e99_999a) 256) ≡ 0x3e99_999a
unfolding fraction_at to_bits Ieee.mul of_bits Ieee.div of_int
last-step-short = refl

-- k / 256 is exact for each of them: the steps to 256 are the whole numbers
whole_below : ℕ → Bool
whole_below zero = true
whole_below (suc k) = eqb (to_bits binary32 (fraction_at binary32 (of_bits binary32 0x4380_0000) k)) (to_bits binary32 (of_int binary32 (pos k))) && whole_below k

every-step-exact : whole_below 257 ≡ true
unfolding fraction_at to_bits Ieee.mul of_bits Ieee.div of_int whole_below
every-step-exact = refl
