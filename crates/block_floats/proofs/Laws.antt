-- The floats of a block, one more at a time. Assumes nothing.
use mathlib.Core.Path.{◌≡◌, ap}
use Prim.Native.Nat.{ℕ, zero, suc, ◌+◌, ◌*◌, ◌<◌}
use native.Mathlib.Omega.{arith}
use native.Mathlib.Numerals.{add-one}
use mathlib.Core.List.{List, [], ◌∷◌, ◌++◌}
use lib.Ieee.{Float, binary32, of_bits}
use lib.ListN.{length, take, set}
use lib.Seq.{take-suc-set}
use Rattle.model.specs.Wire.{word}
use Rattle.model.specs.Work.{floats_at}

abbrev float : List ℕ → ℕ → Float
float b k = of_bits binary32 (word b k)

-- one float more, at the end
pub floats-step : (b : List ℕ) (k i : ℕ) → floats_at b k i ++ (float b (k + 4 * i) ∷ []) ≡ floats_at b k (i + 1)
unfolding floats_at
floats-step b k i = rw add-one (go k i)
  where
    go : (k i : ℕ) → floats_at b k i ++ (float b (k + 4 * i) ∷ []) ≡ floats_at b k (suc i)
    go k zero = let e : k + 4 * 0 ≡ k = omega arith in rw e
    go k (suc i) = let e : k + 4 * suc i ≡ k + 4 + 4 * i = omega arith in rw e (ap (λ (l : List Float). float b k ∷ l) (go (k + 4) i))

pub floats-set : (b : List ℕ) (k i : ℕ) (l : List Float) (x : Float) → i < length l → take i l ≡ floats_at b k i → x ≡ float b (k + 4 * i)
    → take (i + 1) (set l i x) ≡ floats_at b k (i + 1)
floats-set b k i l x h so_far e = rw (add-one, take-suc-set l i x h, so_far, e, ← add-one i) (floats-step b k i)
