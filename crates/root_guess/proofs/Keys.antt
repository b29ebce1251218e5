-- What the arms of a `match` on a number tell: in an arm, its key, and in the last one that no key fitted. Assumes nothing.
use mathlib.Core.Path.{◌≡◌, sym, ap}
use mathlib.Core.List.{List}
use Prim.Native.Nat.{ℕ, zero, suc, ◌+◌, ◌≤◌}
use native.Mathlib.Omega.{arith}
use lib.ListN.{get_or}

pub at_key : (xs : List ℕ) (k i : ℕ) → k ≡ i → get_or xs i 0 ≡ get_or xs k 0
at_key xs k i e = ap (λ (m : ℕ). get_or xs m 0) (sym e)

-- k is none of the n keys from b on, as the checker nests it
abbrev pub NoKey : ℕ → ℕ → ℕ → Type 0
NoKey b zero k = Unit
NoKey b (suc n) k = NoKey b n k × (k ≡ b + n → ⊥)

pub past-keys : (b n k : ℕ) → b ≤ k → NoKey b n k → b + n ≤ k
past-keys b zero k h none = omega arith
past-keys b (suc n) k h none = let l = past-keys b n k h none.0 in omega (arith, none.1)
