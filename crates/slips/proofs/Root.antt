-- The root: what each slip would change. By computing.
use mathlib.Core.Path.{◌≡◌, refl}
use mathlib.Core.Bool.{true, false}
use Prim.Native.Nat.{◌+◌, ◌*◌, ◌^◌}
use lib.Dec.{leb}
use lib.ListN.{get_or}
use lib.Ieee.{binary32, binary64, of_bits, to_bits}
use Rattle.model.specs.Root.{root}
use Rattle.model.proofs.Root.Floor.{near_root}
use Rattle.root_list.specs.Guesses.{guesses}

-- a guess by half of the index, corrected once, gives 11744052
pub index-bit-lost : near_root (2 ^ 47) ≡ 11863283
unfolding near_root
index-bit-lost = refl

-- a correction rounded up gives 8388609
pub quotient-rounded-up : near_root (2 ^ 46 + 1) ≡ 8388608
unfolding near_root
quotient-rounded-up = refl

-- entry k is the largest whole number whose square is at most k * 2 ^ 38: no longer where the last is one more, or a middle one is one less
pub last-entry-off-by-one : leb (16769022 * 16769022) (1023 * 2 ^ 38) ≡ false
last-entry-off-by-one = refl

pub middle-entry-off-by-one : leb (13871356 * 13871356) (700 * 2 ^ 38) ≡ true
middle-entry-off-by-one = refl

-- an arm that gives 13871357
pub arm-off-by-one : get_or guesses 700 0 ≡ 13871356
arm-off-by-one = refl

-- of 4: that of -4 is no number
pub root-of-the-opposite : to_bits binary32 (root binary32 (of_bits binary32 0x4080_0000)) ≡ 0x4000_0000
unfolding root of_bits to_bits
root-of-the-opposite = refl

-- in f64: -0 has itself, and the smallest value 2 ^ -537
pub root-of-minus-zero : to_bits binary64 (root binary64 (of_bits binary64 0x8000_0000_0000_0000)) ≡ 0x8000_0000_0000_0000
unfolding root of_bits to_bits
root-of-minus-zero = refl

pub root-of-subnormals : to_bits binary64 (root binary64 (of_bits binary64 1)) ≡ 0x1e60_0000_0000_0000
unfolding root of_bits to_bits
root-of-subnormals = refl
