-- What 512 bytes that pass have in single places; so bytes that lack it do not pass, and no block starts among the zeros of another. Assumes nothing.
use mathlib.Core.Path.{◌≡◌, refl, sym, ap, ◌∙◌}
use mathlib.Core.Bool.{Bool, true, false, true≢false}
use mathlib.Core.List.{List, ◌++◌}
use Prim.Native.Nat.{ℕ, ◌+◌, ◌-◌, ◌*◌, ◌≤◌, ◌<◌}
use native.Mathlib.Omega.{arith}
use borrow.Author.Tests.{eq-eqb}
use lib.ListN.{length, take, drop, length-drop, get_or-append}
use lib.Seq.{length-take-le, get_or-take, get_or-drop}
use Rattle.model.specs.Wire.{byte, word}
use Rattle.model.specs.Block.{job_of, bad_count, checked_block}
use Rattle.model.specs.Blocks.{is_good, passes}
use Rattle.block.proofs.Passed.{Fields, is-passed, fields-of, zero-byte}
use Rattle.model.proofs.Blocks.{whole-if-passes, good-if-passes}

false-true : false ≡ true → ⊥
false-true e = true≢false (sym e)

-- ---- single places of a block
fields : (x : List ℕ) → passes x ≡ true → Fields x
fields x e = fields-of x (is-passed x (good-if-passes x e)).fields

pub refused : (x : List ℕ) → (passes x ≡ true → ⊥) → passes x ≡ false
refused x never = go (passes x) refl
  where
    go : (t : Bool) → passes x ≡ t → passes x ≡ false
    go true e = absurd (never e)
    go false e = e

-- ---- the 512 bytes from a place on
module _ (b : List ℕ) (at : ℕ) (inside : at + 512 ≤ length b) where
  abbrev there : List ℕ
  there = take 512 (drop at b)

  size-there : length there ≡ 512
  size-there = length-take-le 512 (drop at b) (omega (arith, inside, length-drop at b))

  byte-there : (k : ℕ) → k < 512 → byte there k ≡ byte b (at + k)
  byte-there k h = get_or-take 512 (drop at b) k 0 h ∙ get_or-drop at b k 0

  pub good-there : (size : ℕ) → size ≡ 512 → is_good (checked_block (take size (drop at b))) ≡ passes there
  good-there size e = rw (e, eq-eqb (length there) 512 size-there)

  pub refused-by-7 : (byte b (at + 7) ≡ 0 → ⊥) → passes there ≡ false
  refused-by-7 other = refused there (λ e. other (sym (byte-there 7 (omega arith)) ∙ (fields there e).after-form))

  pub refused-by-a : bad_count (byte b (at + 4)) ≡ true → passes there ≡ false
  refused-by-a bad = refused there (λ e. false-true (sym (fields there e).fair-a ∙ ap bad_count (byte-there 4 (omega arith)) ∙ bad))

  pub refused-by-b : bad_count (byte b (at + 5)) ≡ true → passes there ≡ false
  refused-by-b bad = refused there (λ e. false-true (sym (fields there e).fair-b ∙ ap bad_count (byte-there 5 (omega arith)) ∙ bad))

-- ---- zeros of a block
-- A block that starts from place 360 to 504 of one that passes would have job 0: those bytes and the three behind them are zeros. From 505 on the job's
-- last byte lies in the check.
pub none-among-zeros : (x r : List ℕ) (s : ℕ) → passes x ≡ true → 360 ≤ s → s ≤ 504 → passes (take 512 (drop s (x ++ r))) ≡ false
unfolding word
none-among-zeros x r s e low high =
    refused (take 512 (drop s (x ++ r)))
    (λ o. false-true (sym (fields (take 512 (drop s (x ++ r))) o).job ∙ eq-eqb (job_of (take 512 (drop s (x ++ r)))) 0 job))
  where
    size : length x ≡ 512
    size = whole-if-passes x e

    few : byte x 5 ≤ 16
    few = (fields x e).count-b

    zero-there : (j : ℕ) → 360 ≤ j → j < 508 → byte x j ≡ 0
    zero-there j from to =
        let zeros = 232 + 8 * byte x 5 in
        let place : zeros + (j - zeros) ≡ j = omega (arith, few, from) in
        ap (byte x) (sym place) ∙ zero-byte x zeros (276 - 8 * byte x 5) (j - zeros) (fields x e).zeros-b (omega (arith, few, from, to))

    same : (k : ℕ) → k < 4 → byte (take 512 (drop s (x ++ r))) k ≡ 0
    same k h =
        get_or-take 512 (drop s (x ++ r)) k 0 (omega (arith, h)) ∙ get_or-drop s (x ++ r) k 0
        ∙ get_or-append x r 0 (s + k) (omega (arith, h, high, size))
        ∙ zero-there (s + k) (omega (arith, low)) (omega (arith, high, h))

    job : job_of (take 512 (drop s (x ++ r))) ≡ 0
    job = omega (arith, same 0 (omega arith), same 1 (omega arith), same 2 (omega arith), same 3 (omega arith))
