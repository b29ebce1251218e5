-- A valid cache, by its entries: each before the count names a corner of its outline. Assumes nothing.
use mathlib.Core.Path.{sym, subst}
use mathlib.Core.Logic.{inl, inr}
use mathlib.Core.Bool.{Bool, true, ◌&&◌}
use mathlib.Core.List.{List}
use Prim.Native.Nat.{ℕ, zero, suc, ◌<◌}
use native.Mathlib.Nat.{le_refl, le_step, le_of_suc-le-suc, not-suc-le-zero, eq-or-lt_of_le}
use lib.Dec.{T, ltb, leb, ltb→lt, lt→ltb}
use lib.ListN.{get_or}
use lib.Ieee.Fits.{and_i, and_l, and_r}
use Rattle.model.specs.Distance.{cache, all_below, cache_is_valid}

pub entries_below : (limit : ℕ) (l : List ℕ) (n : ℕ) → T (all_below limit l n) → (i : ℕ) → i < n → get_or l i 0 < limit
unfolding all_below
entries_below limit l zero h i r = absurd (not-suc-le-zero r)
entries_below limit l (suc n) h i r =
    let others = and_l (all_below limit l n) (ltb (get_or l n 0) limit) h in
    let last = ltb→lt (get_or l n 0) limit (and_r (all_below limit l n) (ltb (get_or l n 0) limit) h) in
    elim (eq-or-lt_of_le (le_of_suc-le-suc r)) [ inl e ↦ subst (λ (k : ℕ). get_or l k 0 < limit) (sym e) last | inr q ↦ entries_below limit l n others i q ]

all-below : (limit : ℕ) (l : List ℕ) (n : ℕ) → ((i : ℕ) → i < n → get_or l i 0 < limit) → T (all_below limit l n)
unfolding all_below
all-below limit l zero h = tt
all-below limit l (suc n) h = and_i (all_below limit l n) (ltb (get_or l n 0) limit) (all-below limit l n (λ i r. h i (le_step r)))
    (lt→ltb (get_or l n 0) limit (h n (le_refl (suc n))))

pub valid-by-entries : (n : ℕ) (la lb : List ℕ) (na nb : ℕ) → T (leb n 3) → ((i : ℕ) → i < n → get_or la i 0 < na) → ((i : ℕ) → i < n → get_or lb i 0 < nb)
    → T (cache_is_valid (cache 0 n la lb) na nb)
valid-by-entries n la lb na nb few in_a in_b =
    and_i (leb n 3 && all_below na la n) (all_below nb lb n) (and_i (leb n 3) (all_below na la n) few (all-below na la n in_a)) (all-below nb lb n in_b)
