-- Bytes and words of a list that was changed in some places, and what of a block depends on which bytes. Assumes nothing.
use mathlib.Core.Path.{◌≡◌, refl, ◌∙◌}
use mathlib.Core.Logic.{◌≢◌}
use mathlib.Core.List.{List}
use Prim.Native.Nat.{ℕ, zero, suc, ◌+◌, ◌*◌, ◌≤◌, ◌<◌}
use native.Mathlib.Omega.{arith}
use lib.ListN.{length, set, length-set}
use lib.Seq.{get_or-set_same, get_or-set_other}
use Rattle.model.specs.Wire.{byte, word}
use Rattle.model.specs.Block.{sum_of_words, weighed_words, sum_before, all_zero}
use Rattle.model.specs.Work.{floats_at}
use Rattle.convert_forms.specs.Forms.{with_four}

-- ---- four bytes stored
module _ (b : List ℕ) (k w x y z : ℕ) where
  pub length-four : length (with_four b k w x y z) ≡ length b
  length-four = rw (length-set, length-set, length-set, length-set)

  off : (j : ℕ) → j ≢ k → j ≢ (k + 1) → j ≢ (k + 2) → j ≢ (k + 3) → byte (with_four b k w x y z) j ≡ byte b j
  off j d0 d1 d2 d3 =
      get_or-set_other (set (set (set b k w) (k + 1) x) (k + 2) y) (k + 3) j z 0 d3
      ∙ get_or-set_other (set (set b k w) (k + 1) x) (k + 2) j y 0 d2
      ∙ get_or-set_other (set b k w) (k + 1) j x 0 d1
      ∙ get_or-set_other b k j w 0 d0

  pub byte-below : (j : ℕ) → j < k → byte (with_four b k w x y z) j ≡ byte b j
  byte-below j h = off j (λ e. omega (arith, h, e)) (λ e. omega (arith, h, e)) (λ e. omega (arith, h, e)) (λ e. omega (arith, h, e))

  pub byte_above : (j : ℕ) → k + 4 ≤ j → byte (with_four b k w x y z) j ≡ byte b j
  byte_above j h = off j (λ e. omega (arith, h, e)) (λ e. omega (arith, h, e)) (λ e. omega (arith, h, e)) (λ e. omega (arith, h, e))

  module _ (inside : k + 4 ≤ length b) where
    pub byte-0 : byte (with_four b k w x y z) k ≡ w
    byte-0 =
        get_or-set_other (set (set (set b k w) (k + 1) x) (k + 2) y) (k + 3) k z 0 (λ e. omega (arith, e))
        ∙ get_or-set_other (set (set b k w) (k + 1) x) (k + 2) k y 0 (λ e. omega (arith, e))
        ∙ get_or-set_other (set b k w) (k + 1) k x 0 (λ e. omega (arith, e))
        ∙ get_or-set_same b k w 0 (omega (arith, inside))

    pub byte-1 : byte (with_four b k w x y z) (k + 1) ≡ x
    byte-1 =
        get_or-set_other (set (set (set b k w) (k + 1) x) (k + 2) y) (k + 3) (k + 1) z 0 (λ e. omega (arith, e))
        ∙ get_or-set_other (set (set b k w) (k + 1) x) (k + 2) (k + 1) y 0 (λ e. omega (arith, e))
        ∙ get_or-set_same (set b k w) (k + 1) x 0 (omega (arith, inside, length-set b k w))

    pub byte-2 : byte (with_four b k w x y z) (k + 2) ≡ y
    byte-2 =
        get_or-set_other (set (set (set b k w) (k + 1) x) (k + 2) y) (k + 3) (k + 2) z 0 (λ e. omega (arith, e))
        ∙ get_or-set_same (set (set b k w) (k + 1) x) (k + 2) y 0 (omega (arith, inside, length-set b k w, length-set (set b k w) (k + 1) x))

    pub byte-3 : byte (with_four b k w x y z) (k + 3) ≡ z
    byte-3 =
        get_or-set_same (set (set (set b k w) (k + 1) x) (k + 2) y) (k + 3) z 0
        (omega (
          arith,
          inside,
          length-set b k w,
          length-set (set b k w) (k + 1) x,
          length-set (set (set b k w) (k + 1) x) (k + 2) y,
        ))

    pub word-here : word (with_four b k w x y z) k ≡ w + x * 256 + y * 65536 + z * 16777216
    unfolding word
    word-here = rw (byte-0, byte-1, byte-2, byte-3)

-- ---- lists that agree in some places
module _ (b c : List ℕ) where
  -- from place k up to place l
  abbrev pub Agree : ℕ → ℕ → Type 0
  Agree k l = (j : ℕ) → k ≤ j → j < l → byte c j ≡ byte b j

  pub same_word : (k : ℕ) → Agree k (k + 4) → word c k ≡ word b k
  unfolding word
  same_word k a = rw (
    a k (omega arith) (omega arith),
    a (k + 1) (omega arith) (omega arith),
    a (k + 2) (omega arith) (omega arith),
    a (k + 3) (omega arith) (omega arith),
  )

  pub same_sum : (n : ℕ) → ((i : ℕ) → i < n → word c (4 * i) ≡ word b (4 * i)) → sum_of_words c n ≡ sum_of_words b n
  unfolding sum_of_words
  same_sum zero a = refl
  same_sum (suc n) a = rw (same_sum n (λ i h. a i (omega (arith, h))), a n (omega arith))

  pub same-weighed : (n : ℕ) → ((i : ℕ) → i < n → word c (4 * i) ≡ word b (4 * i)) → weighed_words c n ≡ weighed_words b n
  unfolding weighed_words
  same-weighed zero a = refl
  same-weighed (suc n) a = rw (same-weighed n (λ i h. a i (omega (arith, h))), a n (omega arith))

  pub same-before : (form : ℕ) → Agree 0 508 → sum_before form c ≡ sum_before form b
  same-before form a =
      let words : (i : ℕ) → i < 127 → word c (4 * i) ≡ word b (4 * i) =
      λ i h. same_word (4 * i) (λ j l m. a j (omega arith) (omega (arith, h, m))) in
      rw (same_sum 127 words, same-weighed 127 words)

  pub same-zero : (k n : ℕ) → ((i : ℕ) → i < n → byte c (k + i) ≡ byte b (k + i)) → all_zero c k n ≡ all_zero b k n
  unfolding all_zero
  same-zero k zero a = refl
  same-zero k (suc n) a = rw (same-zero k n (λ i h. a i (omega (arith, h))), a n (omega arith))

  pub same-floats : (k n : ℕ) → Agree k (k + 4 * n) → floats_at c k n ≡ floats_at b k n
  unfolding floats_at
  same-floats k zero a = refl
  same-floats k (suc n) a =
      rw (
        same_word k (λ j l m. a j l (omega (arith, m))),
        same-floats (k + 4) n (λ j l m. a j (omega (arith, l)) (omega (arith, m))),
      )
