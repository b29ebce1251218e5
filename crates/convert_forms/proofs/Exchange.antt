-- In form 2 an exchange of two neighbouring words that differ is refused, where byte 6 stays 2. Assumes nothing.
use Rattle.std.proofs.Common.{Ok}
use mathlib.Core.Path.{◌≡◌, refl, sym, ap, ◌∙◌}
use mathlib.Core.Logic.{◌≢◌}
use mathlib.Core.Bool.{Bool, true, false}
use mathlib.Core.List.{List, [], ◌∷◌, ◌++◌}
use Prim.Native.Nat.{ℕ, zero, suc, ◌+◌, ◌*◌, ◌%◌, ◌≤◌, ◌<◌}
use native.Mathlib.Omega.{arith}
use native.Mathlib.Nat.{mul-suc}
use borrow.Author.Tests.{eqb-true, eqb-false, ne_eqb}
use lib.Dec.{eqb}
use lib.ListN.{length, replicate}
use Rattle.model.specs.Wire.{byte, word}
use Rattle.model.specs.Block.{known_form, sum_of_words, weighed_words, check_holds, all_zero, block_of, checked_block, refused}
use Rattle.model.specs.Table.{word4, words}
use Rattle.block.proofs.Laws.{wrong-check}
use Rattle.convert_forms.specs.Forms.{next_first, exchanged}
use Rattle.convert_forms.proofs.Bytes.{length-four, byte-below, byte_above, word-here, Agree, same_word, same-weighed}
use Rattle.convert_forms.proofs.Twice.{Bytes}

-- the sums differ by the difference of the words, which is not 0 modulo 2^32
no-slip : (s s' x y c : ℕ) → x < 4294967296 → y < 4294967296 → s' + y ≡ s + x → (s + c) % 4294967296 ≡ 4294967295 → (s' + c) % 4294967296 ≡ 4294967295 → x ≡ y
no-slip s s' x y c hx hy e h k = omega (arith, hx, hy, e, h, k)

small_word : (b : List ℕ) (k : ℕ) → Bytes b → word b k < 4294967296
unfolding word
small_word b k bytes = omega (arith, bytes k, bytes (k + 1), bytes (k + 2), bytes (k + 3))

module _ (b : List ℕ) (i : ℕ) (inside : 4 * i + 8 ≤ length b) where
  abbrev k : ℕ
  k = 4 * i

  abbrev half : List ℕ
  half = next_first b k

  below : Agree b (exchanged b i) 0 k
  unfolding exchanged
  below j l m = byte-below half (k + 4) _ _ _ _ j (omega (arith, m)) ∙ byte-below b k _ _ _ _ j m

  above : (j : ℕ) → k + 8 ≤ j → byte (exchanged b i) j ≡ byte b j
  unfolding exchanged
  above j l = byte_above half (k + 4) _ _ _ _ j (omega (arith, l)) ∙ byte_above b k _ _ _ _ j (omega (arith, l))

  room : k + 4 + 4 ≤ length half
  room = omega (arith, inside, length-four b k (byte b (k + 4)) (byte b (k + 5)) (byte b (k + 6)) (byte b (k + 7)))

  pub second_word : word (exchanged b i) (k + 4) ≡ word b k
  unfolding exchanged word
  second_word = word-here half (k + 4) (byte b k) (byte b (k + 1)) (byte b (k + 2)) (byte b (k + 3)) room

  half-word : word half k ≡ word b (k + 4)
  unfolding word
  half-word =
      let e1 : k + 5 ≡ k + 4 + 1 = omega arith in
      let e2 : k + 6 ≡ k + 4 + 2 = omega arith in
      let e3 : k + 7 ≡ k + 4 + 3 = omega arith in
      word-here b k (byte b (k + 4)) (byte b (k + 5)) (byte b (k + 6)) (byte b (k + 7)) (omega (arith, inside)) ∙ rw (e1, e2, e3)

  pub first_word : word (exchanged b i) k ≡ word b (k + 4)
  unfolding exchanged
  first_word = same_word half (exchanged b i) k (λ j l m. byte-below half (k + 4) _ _ _ _ j m) ∙ half-word

  -- ---- the sums
  abbrev x : ℕ
  x = word b k

  abbrev y : ℕ
  y = word b (k + 4)

  up_to : weighed_words (exchanged b i) i ≡ weighed_words b i
  up_to = same-weighed b (exchanged b i) i (λ n h. same_word b (exchanged b i) (4 * n) (λ j l m. below j (omega arith) (omega (arith, h, m))))

  both_words : weighed_words (exchanged b i) (suc (suc i)) + y ≡ weighed_words b (suc (suc i)) + x
  unfolding weighed_words
  both_words =
      let place : 4 * suc i ≡ k + 4 = omega arith in
      rw (up_to, place, first_word, second_word)
      (omega (arith, mul-suc x (suc i), mul-suc y (suc i)))

  word_after : (n : ℕ) → suc i < n → word (exchanged b i) (4 * n) ≡ word b (4 * n)
  word_after n h = same_word b (exchanged b i) (4 * n) (λ j l m. above j (omega (arith, h, l)))

  one_more : (n : ℕ) → (suc i < n → weighed_words (exchanged b i) n + y ≡ weighed_words b n + x) → suc i < suc n
      → weighed_words (exchanged b i) (suc n) + y ≡ weighed_words b (suc n) + x
  unfolding weighed_words
  one_more n so_far h = go (eqb n (suc i)) refl
    where
      go : (t : Bool) → eqb n (suc i) ≡ t → weighed_words (exchanged b i) (suc n) + y ≡ weighed_words b (suc n) + x
      go true e = let here : n ≡ suc i = eqb-true n (suc i) e in rw here both_words
      go false e =
          let not-here : n ≢ suc i = eqb-false n (suc i) e in
          let later : suc i < n = omega (arith, h, not-here) in
          rw (word_after n later) (omega (arith, so_far later))

  from : (n : ℕ) → suc i < n → weighed_words (exchanged b i) n + y ≡ weighed_words b n + x
  from zero h = absurd (omega (arith, h))
  from (suc n) h = one_more n (λ l. from n l) h

weighed-check : (b : List ℕ) → byte b 6 ≡ 2 → check_holds b ≡ eqb ((weighed_words b 127 + word b 508) % 4294967296) 4294967295
weighed-check b e = rw e

-- ---- every block of form 2 whose check is right, every place
module _ (b : List ℕ) (i : ℕ) (size : length b ≡ 512) (bytes : Bytes b) (place : i ≤ 125) where
  room-for-both : 4 * i + 8 ≤ length b
  room-for-both = omega (arith, size, place)

  check-stays : word (exchanged b i) 508 ≡ word b 508
  check-stays = same_word b (exchanged b i) 508 (λ j l m. above b i room-for-both j (omega (arith, l, place)))

  pub exchange-refused : byte b 6 ≡ 2 → check_holds b ≡ true → word b (4 * i) ≢ word b (4 * i + 4) → byte (exchanged b i) 6 ≡ 2
      → checked_block (exchanged b i) ≡ refused 0 10
  exchange-refused form holds differ stays =
      sym (wrong-check (exchanged b i) (ap known_form stays) (weighed-check (exchanged b i) stays ∙ ne_eqb _ _ slips))
    where
      slips : (weighed_words (exchanged b i) 127 + word (exchanged b i) 508) % 4294967296 ≢ 4294967295
      slips e =
          differ (no-slip (weighed_words b 127) (weighed_words (exchanged b i) 127) (word b (4 * i)) (word b (4 * i + 4)) (word b 508)
          (small_word b (4 * i) bytes) (small_word b (4 * i + 4) bytes) (from b i room-for-both 127 (omega (arith, place)))
          (eqb-true _ _ (sym (weighed-check b form) ∙ holds)) (rw check-stays at e))

-- ---- what an exchange can do that takes byte 6 with it
-- words 1 and 2 exchanged set byte 6 to 0, and the plain sum fits by chance: the first block of examples/exchanged.batch, which passes in form 2, and
-- the second, which passes in form 1
abbrev unlucky : List ℕ
unlucky =
    words (0x7 ∷ 0x20101 ∷ 0x101 ∷ 0 ∷ 0x3f800000 ∷ 0x3f000000 ∷ 0 ∷ 0 ∷ 0 ∷ 0 ∷ 0 ∷ 0 ∷ 0x3f800000 ∷ 0 ∷ 0x3f800000 ∷ 0 ∷ [])
    ++ words (0 ∷ 0 ∷ 0x40800000 ∷ 0 ∷ 0 ∷ 0 ∷ 0x3f800000 ∷ 0 ∷ 0x3f800000 ∷ 0 ∷ 0 ∷ 0xbfd838c7 ∷ [])
    ++ replicate 124 0
    ++ words (0xbf900000 ∷ [])
    ++ replicate 268 0
    ++ word4 0xc395c52f

pub form-2-by-chance-form-1 : (checked_block unlucky ≡ Ok (block_of unlucky)) × (byte unlucky 6 ≡ 2)
    × (checked_block (exchanged unlucky 1) ≡ Ok (block_of (exchanged unlucky 1))) × (byte (exchanged unlucky 1) 6 ≡ 0)
unfolding checked_block sum_of_words weighed_words all_zero word exchanged
form-2-by-chance-form-1 = (refl, refl, refl, refl)

-- words 4 and 5 exchanged
pub exchange-seen : checked_block (exchanged unlucky 4) ≡ refused 0 10
unfolding checked_block sum_of_words weighed_words all_zero word exchanged
exchange-seen = refl
