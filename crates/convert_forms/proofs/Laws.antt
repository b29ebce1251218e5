-- Blocks one by one: what a block more adds to the file and to what is told. Assumes nothing.
use mathlib.Core.Path.{◌≡◌, refl, sym, ap, ◌∙◌}
use mathlib.Core.Bool.{Bool, true, false, cond, ◌&&◌}
use mathlib.Core.List.{List, [], ◌∷◌, ◌++◌, append_assoc, append-nil}
use Prim.Native.Nat.{ℕ, suc, ◌+◌, ◌-◌, ◌*◌, ◌/◌, ◌%◌, ◌^◌, ◌≤◌, ◌<◌}
use native.Mathlib.Omega.{arith}
use native.Mathlib.Numerals.{add-one}
use borrow.Author.Tests.{leb-true, ltb-true, eq-eqb}
use lib.Dec.{leb, ltb}
use lib.ListN.{length, take, drop, set, length-set, length-drop}
use lib.Seq.{length-take-le, get_or-set_same, drop-drop, sets-eq}
use borrow.Rule.Slice.PartMut.{put_mid}
use Rattle.wire.specs.Bytes.{word_bytes}
use Rattle.model.specs.Wire.{byte}
use Rattle.model.specs.Block.{sum_before, checked_block}
use Rattle.model.specs.Blocks.{whole_blocks, blocks, is_good, passes}
use Rattle.model.specs.Parts.{count_limit}
use Rattle.model.proofs.Blocks.{blocks_more, blocks-counted, rest_of, all_whole, rest-last, rest-refused}
use Rattle.block.proofs.Passed.{both_true}
use Rattle.text.specs.Put.{Put, where_room, number}
use Rattle.text.proofs.Pasted.{put_then}
use Rattle.text.proofs.Lengths.{length-number, ends, roomy}
use Rattle.convert_forms.specs.Forms.{with_check, other_number, fitting_check, sealed, other_form}
use Rattle.convert_forms.specs.Convert.{converted, told_from, file_by, text_by, fits}

-- ---- the other form, as it is made
pub made : (b t : List ℕ) (form s : ℕ) → length b ≡ 512 → t ≡ b → form ≡ other_number (byte t 6) → s ≡ sum_before form (set t 6 form) % 2 ^ 32
    → with_check (set t 6 form) (4294967295 - s) ≡ other_form b
unfolding other_form sealed
made b t form s h e f g =
    let same : byte (set t 6 form) 6 ≡ form = get_or-set_same t 6 form 0 (rw e (omega (arith, h))) in
    ap (with_check (set t 6 form)) (ap (λ (n : ℕ). 4294967295 - n) (g ∙ ap (λ (n : ℕ). sum_before n (set t 6 form) % 2 ^ 32) (sym same)))
    ∙ ap sealed' (ap (λ (n : ℕ). set t 6 n) f ∙ ap (λ (l : List ℕ). set l 6 (other_number (byte l 6))) e)
  where
    sealed' : List ℕ → List ℕ
    sealed' l = with_check l (fitting_check l)

-- the check copied behind the other words
pub check-copied : (b : List ℕ) (c : ℕ) → length b ≡ 512 → put_mid 508 4 b (word_bytes c) ≡ with_check b c
check-copied b c h =
    let bytes = word_bytes c in
    ap (λ (r : List ℕ). take 508 b ++ (bytes ++ r)) (drop-drop 4 508 b) ∙ sym (append_assoc (take 508 b) bytes (drop 512 b))
    ∙ sym (sets-eq bytes b 508 (omega (arith, h)))

length-check : (b : List ℕ) (c : ℕ) → length (with_check b c) ≡ length b
length-check b c = rw (length-set, length-set, length-set, length-set)

pub length-other : (b : List ℕ) → length (other_form b) ≡ length b
unfolding other_form sealed
length-other b =
    length-check (set b 6 (other_number (byte b 6))) (fitting_check (set b 6 (other_number (byte b 6)))) ∙ length-set b 6 (other_number (byte b 6))

-- ---- written where there is room
pub put-turned : {d d' : List ℕ} {k e : ℕ} (b t : List ℕ) → k + 512 ≤ length d → length b ≡ 512 → t ≡ other_form b
    → Put d k (where_room (k + length t) (length d) t) d' e → Put d k (other_form b) d' e
put-turned {d} {d'} {k} {e} b t room h same p =
    let size : length t ≡ 512 = ap length same ∙ length-other b ∙ h in
    rw (← same) (roomy (length t) p (omega (arith, room, size)))

-- ---- one block more, at the end
pub converted-append : (xs ys : List (List ℕ)) → converted (xs ++ ys) ≡ converted xs ++ converted ys
unfolding converted
converted-append [] ys = refl
converted-append (x ∷ xs) ys = rw (converted-append xs ys) (sym (append_assoc (cond (passes x) (other_form x) []) _ _))

pub told-append : (n : ℕ) (xs ys : List (List ℕ)) → told_from n (xs ++ ys) ≡ told_from n xs ++ told_from (n + length xs) ys
unfolding told_from
told-append n [] ys = let e : n + 0 ≡ n = omega arith in rw e
told-append n (x ∷ xs) ys =
    let e : n + 1 + length xs ≡ n + suc (length xs) = omega arith in
    rw (told-append (n + 1) xs ys, e) (sym (append_assoc (cond (passes x) [] (number (n + 1) 10)) _ _))

-- block i
module _ (b : List ℕ) (before i : ℕ) (inside : 512 * i + 512 ≤ length b) where
  abbrev x : List ℕ
  x = take 512 (drop (512 * i) b)

  block-length : length x ≡ 512
  block-length = length-take-le 512 (drop (512 * i) b) (rw (length-drop (512 * i) b) (omega (arith, inside)))

  passes-if-good : passes x ≡ is_good (checked_block x)
  passes-if-good = rw (eq-eqb (length x) 512 block-length)

  more : whole_blocks (i + 1) b ≡ whole_blocks i b ++ (x ∷ [])
  more = rw (add-one i) (blocks_more i b)

  one-converted : converted (whole_blocks (i + 1) b) ≡ converted (whole_blocks i b) ++ file_by x
  unfolding converted
  one-converted = ap converted more ∙ converted-append (whole_blocks i b) (x ∷ []) ∙ rw (passes-if-good, append-nil)

  one_told : told_from before (whole_blocks (i + 1) b) ≡ told_from before (whole_blocks i b) ++ text_by (before + i) x
  unfolding told_from
  one_told = ap (told_from before) more ∙ told-append before (whole_blocks i b) (x ∷ []) ∙ rw (passes-if-good, append-nil, blocks-counted i b)

  pub file-step : {d d₁ d₂ : List ℕ} {e₁ e₂ : ℕ} → Put d 0 (converted (whole_blocks i b)) d₁ e₁
      → Put d₁ e₁ (file_by x) d₂ e₂ → Put d 0 (converted (whole_blocks (i + 1) b)) d₂ e₂
  file-step p q = rw one-converted (put_then (omega arith) p q)

  pub text-step : {d d₁ d₂ : List ℕ} {e₁ e₂ : ℕ} → Put d 0 (told_from before (whole_blocks i b)) d₁ e₁
      → Put d₁ e₁ (text_by (before + i) x) d₂ e₂ → Put d 0 (told_from before (whole_blocks (i + 1) b)) d₂ e₂
  text-step p q = rw one_told (put_then (omega arith) p q)

  pub file-grows : {d d' : List ℕ} {k e : ℕ} → Put d k (file_by x) d' e → e ≤ k + 512
  file-grows p = ends p (go (is_good (checked_block x)))
    where
      go : (g : Bool) → length (cond g (other_form x) []) ≤ 512
      go true = omega (arith, length-other x, block-length)
      go false = omega arith

  pub text-grows : {d d' : List ℕ} {k e : ℕ} (n : ℕ) → Put d k (text_by n x) d' e → e ≤ k + 21
  text-grows n p = ends p (go (is_good (checked_block x)))
    where
      go : (g : Bool) → length (cond g [] (number (n + 1) 10)) ≤ 21
      go true = omega arith
      go false = length-number (n + 1) 10

-- ---- a rest behind the whole blocks
module _ (b : List ℕ) where
  abbrev k : ℕ
  k = length b / 512

  -- where nothing is left
  module _ (none : length b % 512 ≡ 0) where
    pub whole-converted : converted (blocks b) ≡ converted (whole_blocks k b)
    whole-converted = ap converted (all_whole b none)

    pub whole-told : (n : ℕ) → told_from n (blocks b) ≡ told_from n (whole_blocks k b)
    whole-told n = ap (told_from n) (all_whole b none)

  -- where something is
  module _ (some : length b % 512 ≡ 0 → ⊥) where
    pub rest-converted : converted (blocks b) ≡ converted (whole_blocks k b)
    unfolding converted
    rest-converted =
        ap converted (rest-last b some) ∙ converted-append (whole_blocks k b) (rest_of b ∷ []) ∙ rw (rest-refused b) (append-nil (converted (whole_blocks k b)))

    pub rest-told : (n : ℕ) → told_from n (blocks b) ≡ told_from n (whole_blocks k b) ++ number (n + k + 1) 10
    unfolding told_from
    rest-told n =
        ap (told_from n) (rest-last b some) ∙ told-append n (whole_blocks k b) (rest_of b ∷ [])
        ∙ rw (rest-refused b, blocks-counted k b, append-nil (number (n + k + 1) 10))

-- ---- what room for a part says
pub record Room (size room text_room before : ℕ) : Type 0 where
  pub blocks : size ≤ room
  pub numbers : 21 * (size / 512) + 21 ≤ text_room
  pub small : before < count_limit

pub room_of : (part file text : List ℕ) (before : ℕ) → fits (length part) (length file) (length text) before ≡ true
    → Room (length part) (length file) (length text) before
room_of part file text before e =
    let outer = both_true (leb (length part) (length file) && leb (length part / 512 + 1) (length text / 21)) (ltb before count_limit) e in
    let inner = both_true (leb (length part) (length file)) (leb (length part / 512 + 1) (length text / 21)) outer.0 in
    let lines : length part / 512 + 1 ≤ length text / 21 = leb-true _ _ inner.1 in
    record { blocks = leb-true _ _ inner.0; numbers = omega (arith, lines); small = ltb-true _ _ outer.1 }
