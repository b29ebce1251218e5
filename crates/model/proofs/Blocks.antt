-- The blocks of a file one by one, in two parts, and with one more at either end. Assumes nothing.
use mathlib.Core.Path.{◌≡◌, refl, sym, ap, ◌∙◌}
use mathlib.Core.Bool.{Bool, true, false, cond, ◌&&◌, true≢false}
use mathlib.Core.List.{List, [], ◌∷◌, ◌++◌, append_assoc, append-nil, map}
use Prim.Native.Nat.{ℕ, zero, suc, ◌+◌, ◌-◌, ◌*◌, ◌/◌, ◌%◌, ◌≤◌}
use native.Mathlib.Omega.{arith}
use borrow.Author.Tests.{eqb-true, eq-eqb, ne_eqb}
use lib.Dec.{eqb}
use lib.ListN.{length, take, drop, length-append, length-drop, take-append-drop}
use lib.Seq.{take_at, drop_at, drop-drop, length-take-le}
use Rattle.model.specs.Block.{checked_block}
use Rattle.model.specs.Blocks.{whole_blocks, short_rest, blocks, block_at, is_good, passes}

pub map-append : {A B : Type 0} (g : A → B) (l r : List A) → map g (l ++ r) ≡ map g l ++ map g r
map-append g [] r = refl
map-append g (x ∷ l) r = ap (λ (t : List _). g x ∷ t) (map-append g l r)

-- ---- one block more, at the end
pub blocks_more : (k : ℕ) (b : List ℕ) → whole_blocks (suc k) b ≡ whole_blocks k b ++ (block_at b k ∷ [])
unfolding whole_blocks
blocks_more zero b = refl
blocks_more (suc k) b =
    let e : 512 + 512 * k ≡ 512 * suc k = omega arith in
    ap (λ (l : List (List ℕ)). take 512 b ∷ l) (blocks_more k (drop 512 b) ∙ rw (drop-drop (512 * k) 512 b, e))

pub blocks-counted : (k : ℕ) (b : List ℕ) → length (whole_blocks k b) ≡ k
unfolding whole_blocks
blocks-counted zero b = refl
blocks-counted (suc k) b = ap suc (blocks-counted k (drop 512 b))

-- ---- a whole block in front
abbrev cut_by : ℕ → ℕ → List ℕ → List (List ℕ)
cut_by k rest b = whole_blocks k b ++ cond (eqb rest 0) [] (drop (512 * k) b ∷ [])

pub block-first : (y r : List ℕ) → length y ≡ 512 → blocks (y ++ r) ≡ y ∷ blocks r
unfolding blocks whole_blocks
block-first y r h =
    let k = length r / 512 in
    let count : length (y ++ r) / 512 ≡ suc k = rw length-append (omega (arith, h)) in
    let rest : length (y ++ r) % 512 ≡ length r % 512 = rw length-append (omega (arith, h)) in
    let place : 512 * suc k ≡ 512 + 512 * k = omega arith in
    let behind : drop (512 * suc k) (y ++ r) ≡ drop (512 * k) r =
    ap (λ (n : ℕ). drop n (y ++ r)) place ∙ sym (drop-drop (512 * k) 512 (y ++ r)) ∙ ap (drop (512 * k)) (drop_at y r 512 h) in
    ap (λ (n : ℕ). cut_by n (length (y ++ r) % 512) (y ++ r)) count ∙ ap (λ (n : ℕ). cut_by (suc k) n (y ++ r)) rest
    ∙ rw (behind, take_at y r 512 h, drop_at y r 512 h)

-- ---- a file in two parts, the first of whole blocks
split : (j : ℕ) (p s : List ℕ) → length p ≡ 512 * j → blocks (p ++ s) ≡ blocks p ++ blocks s
unfolding blocks whole_blocks
split zero [] s h = refl
split zero (x ∷ p) s h = absurd (omega (arith, h))
split (suc j) p s h =
    let q = take 512 p in
    let r = drop 512 p in
    let size : length q ≡ 512 = length-take-le 512 p (omega (arith, h)) in
    let rest : length r ≡ 512 * j = length-drop 512 p ∙ omega (arith, h) in
    let whole : q ++ r ≡ p = take-append-drop 512 p in
    ap (λ (l : List ℕ). blocks (l ++ s)) (sym whole) ∙ ap blocks (append_assoc q r s) ∙ block-first q (r ++ s) size
    ∙ ap (λ (l : List (List ℕ)). q ∷ l) (split j r s rest) ∙ ap (λ (l : List (List ℕ)). l ++ blocks s) (sym (block-first q r size) ∙ ap blocks whole)

pub blocks-in-two-parts : (p s : List ℕ) → length p % 512 ≡ 0 → blocks (p ++ s) ≡ blocks p ++ blocks s
blocks-in-two-parts p s h = split (length p / 512) p s (omega (arith, h))

-- ---- a rest behind the whole blocks
module _ (b : List ℕ) where
  abbrev k : ℕ
  k = length b / 512

  abbrev pub rest_of : List ℕ
  rest_of = drop (512 * k) b

  -- no whole block is left, so nothing of it can pass
  pub rest-short : eqb (length rest_of) 512 ≡ false
  rest-short =
      let size : length rest_of ≡ length b - 512 * k = length-drop (512 * k) b in
      ne_eqb (length rest_of) 512 (λ e. absurd (omega (arith, size, e)))

  pub all_whole : length b % 512 ≡ 0 → blocks b ≡ whole_blocks k b
  unfolding blocks
  all_whole none = rw (eq-eqb (length b % 512) 0 none) (append-nil (whole_blocks k b))

  pub whole-counted : length b % 512 ≡ 0 → length (blocks b) ≡ k
  whole-counted none = ap length (all_whole none) ∙ blocks-counted k b

  pub rest-last : (length b % 512 ≡ 0 → ⊥) → blocks b ≡ whole_blocks k b ++ (rest_of ∷ [])
  unfolding blocks
  rest-last some = rw (ne_eqb (length b % 512) 0 some)

  pub rest-counted : (length b % 512 ≡ 0 → ⊥) → length (blocks b) ≡ k + 1
  rest-counted some = ap length (rest-last some) ∙ length-append (whole_blocks k b) (rest_of ∷ []) ∙ rw (blocks-counted k b)

-- ---- which pass
both : (s g : Bool) → (s && g) ≡ true → (s ≡ true) × (g ≡ true)
both true true e = (refl, refl)
both true false e = absurd (true≢false (sym e))
both false g e = absurd (true≢false (sym e))

pub whole-if-passes : (x : List ℕ) → passes x ≡ true → length x ≡ 512
whole-if-passes x e = eqb-true (length x) 512 (both (eqb (length x) 512) (is_good (checked_block x)) e).0

pub good-if-passes : (x : List ℕ) → passes x ≡ true → is_good (checked_block x) ≡ true
good-if-passes x e = (both (eqb (length x) 512) (is_good (checked_block x)) e).1

pub rest-refused : (b : List ℕ) → passes (rest_of b) ≡ false
rest-refused b = rw (rest-short b)
