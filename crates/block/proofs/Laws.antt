-- What the loops over a block meet at the place they have reached. Assumes nothing.
use Rattle.std.proofs.Common.{◌≡◌, ℕ, zero, suc, ◌+◌, ◌-◌, ◌*◌, ◌%◌, ◌^◌, ◌<◌, ◌≤◌, Bool, true, false, cond, not, ◌&&◌, ◌||◌, eqb, ltb, List, refl, ap, ◌∙◌, mul-le-mul, add-one, arith, ltb-false, length, sym, Ok, ne_eqb}
use lib.ListN.{get_or-eq_default}
use lib.Dec.{eqb-suc-zero}
use Rattle.std.proofs.Math.Bool.{and-true}
use native.Mathlib.Nat.{mod-add-mod}
use Prim.Native.Nat.{max}
use Rattle.std.specs.Int.{bit_at}
use Rattle.std.specs.Int.Bits.{bit_or, or_zero_l}
use Rattle.std.proofs.lemmas.Nat.Bits.{bit_at_or, bit_at-zero, same_from_bits}
use Rattle.model.specs.declared.Block.{Block}
use Rattle.model.specs.Wire.{byte, word}
use Rattle.model.specs.Block.{known_form, sum_of_words, weighed_words, all_zero, job_of, bad_count, zeros_hold, bad_fields, block_of, check_holds, checked_block, refused}
use Rattle.model.specs.Block.{most_points}

-- ---- one word more
pub sum_step : (b : List ℕ) (i : ℕ) → sum_of_words b i + word b (4 * i) ≡ sum_of_words b (i + 1)
unfolding sum_of_words
sum_step b i = rw add-one

pub weighed-step : (b : List ℕ) (i : ℕ) → weighed_words b i + word b (4 * i) * (i + 1) ≡ weighed_words b (i + 1)
unfolding weighed_words
weighed-step b i = rw add-one

-- the sum so far may have wrapped
pub wrapped-step : (b : List ℕ) (i : ℕ) → (sum_of_words b i % 2 ^ 32 + word b (4 * i)) % 2 ^ 32 ≡ sum_of_words b (i + 1) % 2 ^ 32
wrapped-step b i = mod-add-mod (sum_of_words b i) (2 ^ 32) (word b (4 * i)) ∙ ap (λ (n : ℕ). n % 2 ^ 32) (sum_step b i)

pub weighed-limit : (w weight : ℕ) → w ≤ 4294967296 → weight ≤ 128 → w * weight ≤ 549755813888
weighed-limit w weight h k = mul-le-mul h k

-- ---- the bytes that are there, one more, and those that are missing
or-zero : (a b : ℕ) → bit_or a b ≡ 0 → a ≡ 0
or-zero a b e = same_from_bits a 0 (λ i.
    let most : max (bit_at a i) (bit_at b i) ≡ 0 = sym (bit_at_or a b i) ∙ ap (λ (n : ℕ). bit_at n i) e ∙ bit_at-zero i in
    let none : bit_at 0 i ≡ 0 = bit_at-zero i in
    omega arith)

pub both-zero : (a b : ℕ) → eqb (bit_or a b) 0 ≡ (eqb a 0 && eqb b 0)
both-zero zero b = rw or_zero_l
both-zero (suc a) b = rw eqb-suc-zero (ne_eqb (bit_or (suc a) b) 0 (λ e. absurd (omega (arith, or-zero (suc a) b e))))

pub zero-step : (b : List ℕ) (k i : ℕ) → (all_zero b k i && eqb (byte b (k + i)) 0) ≡ all_zero b k (i + 1)
unfolding all_zero
zero-step b k i = rw add-one

zero-missing : (b : List ℕ) (k i m : ℕ) → (0 < m → length b ≤ k + i) → all_zero b k i ≡ all_zero b k (i + m)
unfolding all_zero
zero-missing b k i zero l = let e : i + 0 ≡ i = omega arith in rw e
zero-missing b k i (suc m) l =
    let e : i + suc m ≡ suc (i + m) = omega arith in
    let none : length b ≤ k + i = l (omega arith) in
    let gone : length b ≤ k + (i + m) = omega arith in
    rw (e, get_or-eq_default b 0 gone, and-true) (zero-missing b k i m (λ h. none))

-- the first i of n bytes from a place on tell of all n, where none that is there follows them
pub zero-rest : (b : List ℕ) (k i n : ℕ) → i ≤ n → (i < n → length b ≤ k + i) → all_zero b k i ≡ all_zero b k n
zero-rest b k i n h l = let e : i + (n - i) ≡ n = omega arith in zero-missing b k i (n - i) (λ m. l (omega arith)) ∙ ap (all_zero b k) e

-- ---- the four endings of a check
module _ (b : List ℕ) where
  pub unknown-form : known_form (byte b 6) ≡ false → refused 0 13 ≡ checked_block b
  unfolding checked_block
  unknown-form e = rw e

  module _ (known : known_form (byte b 6) ≡ true) where
    pub wrong-check : check_holds b ≡ false → refused 0 10 ≡ checked_block b
    unfolding checked_block
    wrong-check e = rw (known, e)

    pub wrong-fields : check_holds b ≡ true → bad_fields b ≡ true → refused (job_of b) 11 ≡ checked_block b
    unfolding checked_block
    wrong-fields h e = rw (known, h, e)

    pub all_right : check_holds b ≡ true → bad_fields b ≡ false → Ok (block_of b) ≡ checked_block b
    unfolding checked_block
    all_right h e = rw (known, h, e)

-- ---- what a block that passed tells
second : (x y : Bool) → (x || y) ≡ false → y ≡ false
second true y e = cc
second false y e = e

both-fair : (w x y z : Bool) → (w || x || y || z) ≡ false → (x ≡ false) × (y ≡ false)
both-fair false false false z e = (refl, refl)
both-fair true x y z e = (cc, cc)
both-fair false true y z e = (cc, cc)
both-fair false false true z e = (refl, cc)

pub fair-count : (n : ℕ) → bad_count n ≡ false → n ≤ 16
fair-count n h = ltb-false 16 n (second (eqb n 0) (ltb 16 n) h)

passed : (form sum fields : Bool) (g k : Block) (job : ℕ) →
    cond form (cond sum (cond fields (refused job 11) (Ok g)) (refused 0 10)) (refused 0 13) ≡ Ok k → (fields ≡ false) × (g ≡ k)
passed true true false g k job e = (refl, cc)
passed true true true g k job e = (cc, cc)
passed true false fields g k job e = (cc, cc)
passed false sum fields g k job e = (cc, cc)

-- its outlines have at most sixteen points each
pub good-counts : (b : List ℕ) (k : Block) → checked_block b ≡ Ok k → (k.count_a ≤ most_points) × (k.count_b ≤ most_points)
unfolding checked_block
good-counts b k e =
    let told = passed (known_form (byte b 6)) (check_holds b) (bad_fields b) (block_of b) k (job_of b) e in
    let fair = both-fair (eqb (job_of b) 0) (bad_count (byte b 4)) (bad_count (byte b 5)) (not (zeros_hold b)) told.0 in
    rw (← told.1) (fair-count _ fair.0, fair-count _ fair.1)
