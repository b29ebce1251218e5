-- A fact of the places below 1, 2 or 3, by each of them. Assumes nothing.
use Prim.Native.Nat.{ℕ, zero, suc, ◌<◌}
use native.Mathlib.Nat.{not-suc-le-zero, le_of_suc-le-suc}

pub below1 : (F : ℕ → Type 0) → F 0 → (i : ℕ) → i < 1 → F i
below1 F a zero h = a
below1 F a (suc i) h = absurd (not-suc-le-zero (le_of_suc-le-suc h))

pub below2 : (F : ℕ → Type 0) → F 0 → F 1 → (i : ℕ) → i < 2 → F i
below2 F a b zero h = a
below2 F a b (suc i) h = below1 (λ j. F (suc j)) b i (le_of_suc-le-suc h)

pub below3 : (F : ℕ → Type 0) → F 0 → F 1 → F 2 → (i : ℕ) → i < 3 → F i
below3 F a b c zero h = a
below3 F a b c (suc i) h = below2 (λ j. F (suc j)) b c i (le_of_suc-le-suc h)
