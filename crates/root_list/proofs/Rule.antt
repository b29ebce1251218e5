-- The rule of the list of first guesses, shown once over all of its entries: one test, which antt computes. And what is
-- read past its end. Assumes nothing.
use mathlib.Core.Path.{◌≡◌, ◌∙◌, refl, subst, sym}
use mathlib.Core.Bool.{Bool, true, false, ◌&&◌}
use mathlib.Core.List.{List, [], ◌∷◌}
use Prim.Native.Nat.{ℕ, zero, suc, ◌+◌, ◌*◌, ◌≤◌, ◌<◌}
use native.Mathlib.Nat.{add-zero, zero-add, add-suc, suc-add, le_of_suc-le-suc, not-suc-le-zero}
use lib.Dec.{T, leb, ltb, leb→le, ltb→lt}
use lib.ListN.{length, get_or}
use lib.Ieee.Fits.{and_l, and_r}
use Rattle.root_list.specs.Guesses.{guesses}

-- g is the largest whole number whose square is at most k * 2 ^ 38
abbrev pub Guess : ℕ → ℕ → Type 0
Guess k g = (g * g ≤ k * 274877906944) × (k * 274877906944 < (g + 1) * (g + 1))

-- the same as a test
right : ℕ → ℕ → Bool
right k g = leb (g * g) (k * 274877906944) && ltb (k * 274877906944) ((g + 1) * (g + 1))

-- the test passes at each entry of the list and its place, counted from i
abbrev every : (ℕ → ℕ → Bool) → ℕ → List ℕ → Bool
every f i [] = true
every f i (x ∷ xs) = f i x && every f (suc i) xs

from : (f : ℕ → ℕ → Bool) (xs : List ℕ) (i : ℕ) → T (every f i xs) → (k : ℕ) → k < length xs → T (f (i + k) (get_or xs k 0))
from f [] i t k h = absurd (not-suc-le-zero h)
from f (x ∷ xs) i t zero h = subst (λ (m : ℕ). T (f m x)) (sym (add-zero i)) (and_l (f i x) (every f (suc i) xs) t)
from f (x ∷ xs) i t (suc k) h =
    subst (λ (m : ℕ). T (f m (get_or xs k 0))) (suc-add i k ∙ sym (add-suc i k))
    (from f xs (suc i) (and_r (f i x) (every f (suc i) xs) t) k (le_of_suc-le-suc h))

-- every entry of the list meets the rule
all_right : T (every right 0 guesses)
unfolding right
all_right = tt

pub rule : (k : ℕ) → k < 1024 → Guess k (get_or guesses k 0)
unfolding right
rule k h =
    let g = get_or guesses k 0 in
    let t : T (right k g) = subst (λ (m : ℕ). T (right m g)) (zero-add k) (from right guesses 0 all_right k h) in
    let below = leb (g * g) (k * 274877906944) in
    let above = ltb (k * 274877906944) ((g + 1) * (g + 1)) in
    (leb→le (g * g) (k * 274877906944) (and_l below above t), ltb→lt (k * 274877906944) ((g + 1) * (g + 1)) (and_r below above t))

pub past_end : (xs : List ℕ) (k : ℕ) → length xs ≤ k → 0 ≡ get_or xs k 0
past_end [] k h = refl
past_end (x ∷ xs) zero h = absurd (not-suc-le-zero h)
past_end (x ∷ xs) (suc k) h = past_end xs k (le_of_suc-le-suc h)
