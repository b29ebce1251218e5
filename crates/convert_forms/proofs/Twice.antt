-- A block comes back from two conversions unchanged in all its bytes, and passes in either form. Assumes nothing.
use mathlib.Core.Path.{◌≡◌, refl, sym, ap, ◌∙◌, subst}
use mathlib.Core.Logic.{◌≢◌}
use mathlib.Core.Bool.{Bool, true, false, true≢false}
use mathlib.Core.List.{List}
use Prim.Native.Nat.{ℕ, zero, suc, ◌+◌, ◌-◌, ◌*◌, ◌/◌, ◌%◌, ◌≤◌, ◌<◌}
use native.Mathlib.Omega.{arith}
use native.Mathlib.Nat.{mod-eq_of_lt}
use borrow.Author.Tests.{eqb-true, eqb-false, eq-eqb, ne_eqb, ltb-true, ltb-false}
use lib.Dec.{eqb, ltb}
use lib.ListN.{length, set, length-set}
use lib.Seq.{get_or-set_same, get_or-set_other, ext_get_or}
use Rattle.model.specs.Wire.{byte, word}
use Rattle.model.specs.Block.{known_form, sum_before, check_holds}
use Rattle.convert_forms.specs.Forms.{with_check, other_number, fitting_check, sealed, other_form}
use Rattle.convert_forms.proofs.Bytes.{length-four, byte-below, byte-0, byte-1, byte-2, byte-3, word-here, Agree, same-before}

-- every byte is one
abbrev pub Bytes : List ℕ → Type 0
Bytes b = (k : ℕ) → byte b k < 256

-- ---- the check
module _ (b : List ℕ) (c : ℕ) where
  check-bytes : c < 4294967296 → c % 256 + c / 256 % 256 * 256 + c / 65536 % 256 * 65536 + c / 16777216 % 256 * 16777216 ≡ c
  check-bytes small = let top : c / 16777216 % 256 ≡ c / 16777216 = mod-eq_of_lt (omega (arith, small)) in rw top (omega arith)

  pub check-here : 512 ≤ length b → c < 4294967296 → word (with_check b c) 508 ≡ c
  check-here h small = word-here b 508 _ _ _ _ h ∙ check-bytes small

  pub before-check : Agree b (with_check b c) 0 508
  before-check j l m = byte-below b 508 _ _ _ _ j m

makes-ones : (s : ℕ) → (s + (4294967295 - s % 4294967296)) % 4294967296 ≡ 4294967295
makes-ones s = omega arith

pub sealed-holds : (b : List ℕ) → 512 ≤ length b → check_holds (sealed b) ≡ true
unfolding sealed
sealed-holds b h =
    let c = fitting_check b in
    let t = with_check b c in
    let form : byte t 6 ≡ byte b 6 = before-check b c 6 (omega arith) (omega arith) in
    let sum : sum_before (byte t 6) t ≡ sum_before (byte b 6) b = rw form (same-before b t (byte b 6) (before-check b c)) in
    rw (sum, check-here b c h (omega arith)) (eq-eqb _ 4294967295 (makes-ones (sum_before (byte b 6) b)))

-- a check that holds is the one that fits
only_one : (s w : ℕ) → w < 4294967296 → (s + w) % 4294967296 ≡ 4294967295 → 4294967295 - s % 4294967296 ≡ w
only_one s w h e = omega (arith, h, e)

-- the bytes of a word
abbrev Digits : ℕ → ℕ → ℕ → ℕ → ℕ → Type 0
Digits n w x y z = (n % 256 ≡ w) × (n / 256 % 256 ≡ x) × (n / 65536 % 256 ≡ y) × (n / 16777216 % 256 ≡ z)

word-digits : (w x y z : ℕ) → w < 256 → x < 256 → y < 256 → z < 256 → Digits (w + x * 256 + y * 65536 + z * 16777216) w x y z
word-digits w x y z hw hx hy hz = (omega (arith, hw, hx, hy, hz), omega (arith, hw, hx, hy, hz), omega (arith, hw, hx, hy, hz), omega (arith, hw, hx, hy, hz))

-- ---- sealing what agrees with a block before the check gives the block
module _ (b d : List ℕ) (size : length b ≡ 512) (size' : length d ≡ 512) (bytes : Bytes b) (same : Agree b d 0 508) (holds : check_holds b ≡ true) where
  small : word b 508 < 4294967296
  unfolding word
  small = omega (arith, bytes 508, bytes 509, bytes 510, bytes 511)

  fits : fitting_check d ≡ word b 508
  fits =
      let form : byte d 6 ≡ byte b 6 = same 6 (omega arith) (omega arith) in
      rw (form, same-before b d (byte b 6) same) (only_one (sum_before (byte b 6) b) (word b 508) small (eqb-true _ _ holds))

  inside : 508 + 4 ≤ length d
  inside = omega (arith, size')

  digits : Digits (word b 508) (byte b 508) (byte b 509) (byte b 510) (byte b 511)
  unfolding word
  digits = word-digits (byte b 508) (byte b 509) (byte b 510) (byte b 511) (bytes 508) (bytes 509) (bytes 510) (bytes 511)

  last-four : (i : ℕ) → i < 4 → byte (with_check d (word b 508)) (508 + i) ≡ byte b (508 + i)
  last-four zero h = byte-0 d 508 _ _ _ _ inside ∙ digits.0
  last-four (suc zero) h = byte-1 d 508 _ _ _ _ inside ∙ digits.1
  last-four (suc (suc zero)) h = byte-2 d 508 _ _ _ _ inside ∙ digits.2
  last-four (suc (suc (suc zero))) h = byte-3 d 508 _ _ _ _ inside ∙ digits.3
  last-four (suc (suc (suc (suc i)))) h = absurd (omega (arith, h))

  every_byte : (j : ℕ) → j < 512 → byte (with_check d (word b 508)) j ≡ byte b j
  every_byte j h = go (ltb j 508) refl
    where
      go : (t : Bool) → ltb j 508 ≡ t → byte (with_check d (word b 508)) j ≡ byte b j
      go true e = before-check d (word b 508) j (omega arith) (ltb-true j 508 e) ∙ same j (omega arith) (ltb-true j 508 e)
      go false e =
          let l : 508 ≤ j = ltb-false j 508 e in
          let place : 508 + (j - 508) ≡ j = omega (arith, l) in
          subst (λ (k : ℕ). byte (with_check d (word b 508)) k ≡ byte b k) place (last-four (j - 508) (omega (arith, l, h)))

  pub resealed : sealed d ≡ b
  unfolding sealed
  resealed =
      let w = word b 508 in
      let same = length-four d 508 (w % 256) (w / 256 % 256) (w / 65536 % 256) (w / 16777216 % 256) in
      ap (with_check d) fits ∙ ext_get_or 0 (with_check d w) b (same ∙ size' ∙ sym size) (λ j h. every_byte j (omega (arith, h, same, size')))

-- ---- the other form of a block
module _ (b : List ℕ) (size : length b ≡ 512) where
  abbrev form : ℕ
  form = other_number (byte b 6)

  abbrev turned : List ℕ
  turned = set b 6 form

  pub other-size : length (other_form b) ≡ 512
  unfolding other_form sealed
  other-size = length-four turned 508 _ _ _ _ ∙ length-set b 6 form ∙ size

  -- all before the check stays but byte 6
  pub other-same : (j : ℕ) → j < 508 → j ≢ 6 → byte (other_form b) j ≡ byte b j
  unfolding other_form sealed
  other-same j h d = before-check turned (fitting_check turned) j (omega arith) h ∙ get_or-set_other b 6 j form 0 d

  pub other-form : byte (other_form b) 6 ≡ form
  unfolding other_form sealed
  other-form = before-check turned (fitting_check turned) 6 (omega arith) (omega arith) ∙ get_or-set_same b 6 form 0 (omega (arith, size))

  pub other-holds : check_holds (other_form b) ≡ true
  unfolding other_form
  other-holds = sealed-holds turned (omega (arith, size, length-set b 6 form))

pub known-other : (n : ℕ) → known_form n ≡ true → (known_form (other_number n) ≡ true) × (other_number (other_number n) ≡ n)
known-other zero e = (refl, refl)
known-other (suc zero) e = absurd (true≢false (sym e))
known-other (suc (suc zero)) e = (refl, refl)
known-other (suc (suc (suc n))) e =
    let m = suc (suc (suc n)) in
    let no : known_form m ≡ false = rw (ne_eqb m 0 (λ z. absurd (omega (arith, z))), ne_eqb m 2 (λ z. absurd (omega (arith, z)))) in
    absurd (true≢false (sym e ∙ no))

module _ (b : List ℕ) (size : length b ≡ 512) (known : known_form (byte b 6) ≡ true) where
  abbrev back : List ℕ
  back = set (other_form b) 6 (byte b 6)

  again : other_form (other_form b) ≡ sealed back
  unfolding other_form
  again =
      ap (λ (n : ℕ). sealed (set (other_form b) 6 (other_number n))) (other-form b size)
      ∙ ap (λ (n : ℕ). sealed (set (other_form b) 6 n)) (known-other (byte b 6) known).1

  back-same : Agree b back 0 508
  back-same j l m = go (eqb j 6) refl
    where
      go : (t : Bool) → eqb j 6 ≡ t → byte back j ≡ byte b j
      go true e = let at : j ≡ 6 = eqb-true j 6 e in rw at (get_or-set_same (other_form b) 6 (byte b 6) 0 (omega (arith, other-size b size)))
      go false e = get_or-set_other (other_form b) 6 j (byte b 6) 0 (eqb-false j 6 e) ∙ other-same b size j m (eqb-false j 6 e)

  -- all 512 bytes come back from two conversions
  pub twice-unchanged : Bytes b → check_holds b ≡ true → other_form (other_form b) ≡ b
  twice-unchanged bytes holds =
      again ∙ resealed b back size (length-set (other_form b) 6 (byte b 6) ∙ other-size b size) bytes back-same holds
