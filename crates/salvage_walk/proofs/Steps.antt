-- Steps one by one: each goes over its bytes in order, there are always enough of them, and a file in two parts is walked as the whole. Assumes nothing.
use mathlib.Core.Path.{◌≡◌, refl, sym, ap, ◌∙◌}
use mathlib.Core.Bool.{Bool, true, false, cond}
use mathlib.Core.List.{List, [], ◌∷◌, ◌++◌, append_assoc}
use Prim.Native.Nat.{ℕ, zero, suc, ◌≤◌, ◌<◌}
use native.Mathlib.Omega.{arith}
use borrow.Author.Tests.{ltb-true, ltb-false, lt-ltb, le-ltb}
use lib.Dec.{ltb}
use lib.ListN.{length, take, drop, length-append, length-drop, take-append-drop}
use lib.Seq.{take_all, drop-drop, length-take-le, take-append-le, drop-append-le}
use Rattle.model.specs.Blocks.{passes}
use Rattle.model.proofs.Blocks.{whole-if-passes}
use Rattle.salvage_walk.specs.declared.Walk.{Walk}
use Rattle.salvage_walk.specs.Walk.{Step, bytes_of, step_at, steps_by, steps, kept_by, kept_bytes, next, after, told_by, run_lines}
use Rattle.salvage_walk.specs.Walk.Step.{kept, skipped}
use Rattle.salvage_walk.specs.Part.{steps_in, all_bytes, rest_of}

-- ---- a step is one of two
pub data Kind (b : List ℕ) : Step → Type 0 where
  keeps : passes (take 512 b) ≡ true → Kind b (kept (take 512 b))
  skips : passes (take 512 b) ≡ false → Kind b (skipped (take 1 b))

pub kind : (b : List ℕ) → Kind b (step_at b)
unfolding step_at
kind b = go (passes (take 512 b)) refl
  where
    go : (t : Bool) → passes (take 512 b) ≡ t → Kind b (cond t (kept (take 512 b)) (skipped (take 1 b)))
    go true e = keeps e
    go false e = skips e

pub whole-inside : (b : List ℕ) → passes (take 512 b) ≡ true → 512 ≤ length b
whole-inside b e = go (ltb (length b) 512) refl
  where
    size : length (take 512 b) ≡ 512
    size = whole-if-passes (take 512 b) e

    go : (t : Bool) → ltb (length b) 512 ≡ t → 512 ≤ length b
    go true h =
        let short = ltb-true (length b) 512 h in
        omega (arith, sym size ∙ ap length (take_all 512 b (omega (arith, short))))
    go false h = ltb-false (length b) 512 h

-- ---- how far a step goes
pub record Goes (b : List ℕ) (s : Step) : Type 0 where
  pub some : 1 ≤ length (bytes_of s)
  pub inside : length (bytes_of s) ≤ length b
  pub in_order : bytes_of s ++ drop (length (bytes_of s)) b ≡ b

module _ (b : List ℕ) (more : 1 ≤ length b) where
  going : (s : Step) → Kind b s → Goes b s
  going s (keeps e) =
      let size = whole-if-passes (take 512 b) e in
      record { some = omega (arith, size); inside = omega (arith, size, whole-inside b e); in_order = rw size (take-append-drop 512 b) }
  going s (skips e) =
      let size = length-take-le 1 b more in
      record { some = omega (arith, size); inside = omega (arith, size, more); in_order = rw size (take-append-drop 1 b) }

  pub goes : Goes b (step_at b)
  goes = going (step_at b) (kind b)

abbrev pub behind : List ℕ → List ℕ
behind b = drop (length (bytes_of (step_at b))) b

behind-shorter : (b : List ℕ) (n : ℕ) → 1 ≤ length b → length b ≤ suc n → length (behind b) ≤ n
behind-shorter b n more h = omega (arith, h, (goes b more).some, length-drop (length (bytes_of (step_at b))) b)

-- ---- any number of steps that suffices gives the same
module _ (least : ℕ) (positive : 1 ≤ least) where
  pub none_left : (n : ℕ) (b : List ℕ) → length b < least → steps_by least n b ≡ []
  unfolding steps_by
  none_left zero b h = refl
  none_left (suc n) b h = rw (lt-ltb (length b) least h)

  one-step : (n : ℕ) (b : List ℕ) → least ≤ length b → steps_by least (suc n) b ≡ step_at b ∷ steps_by least n (behind b)
  unfolding steps_by
  one-step n b h = rw (le-ltb (length b) least h)

  enough : (n m : ℕ) (b : List ℕ) → length b ≤ n → length b ≤ m → steps_by least n b ≡ steps_by least m b
  enough zero m b h k = none_left zero b (omega (arith, h, positive)) ∙ sym (none_left m b (omega (arith, h, positive)))
  enough (suc n) zero b h k = none_left (suc n) b (omega (arith, k, positive)) ∙ sym (none_left zero b (omega (arith, k, positive)))
  enough (suc n) (suc m) b h k = go (λ some. enough n m (behind b) (behind-shorter b n some h) (behind-shorter b m some k)) (ltb (length b) least) refl
    where
      go : (1 ≤ length b → steps_by least n (behind b) ≡ steps_by least m (behind b)) → (t : Bool) → ltb (length b) least ≡ t
          → steps_by least (suc n) b ≡ steps_by least (suc m) b
      go later true e = none_left (suc n) b (ltb-true (length b) least e) ∙ sym (none_left (suc m) b (ltb-true (length b) least e))
      go later false e =
          let whole = ltb-false (length b) least e in
          one-step n b whole ∙ ap (λ (l : List Step). step_at b ∷ l) (later (omega (arith, whole, positive))) ∙ sym (one-step m b whole)

  pub first_step : (b : List ℕ) → least ≤ length b → steps_by least (length b) b ≡ step_at b ∷ steps_by least (length (behind b)) (behind b)
  first_step b h =
      let some : 1 ≤ length b = omega (arith, h, positive) in
      enough (length b) (suc (length b)) b (omega arith) (omega arith) ∙ one-step (length b) b h
      ∙ ap (λ (l : List Step). step_at b ∷ l)
      (enough (length b) (length (behind b)) (behind b) (omega (arith, length-drop (length (bytes_of (step_at b))) b)) (omega arith))

  -- ---- what is left behind them
  abbrev pub rest : List ℕ → List ℕ
  rest b = drop (length (all_bytes (steps_by least (length b) b))) b

  rest-behind : (b : List ℕ) → least ≤ length b → rest b ≡ rest (behind b)
  unfolding all_bytes
  rest-behind b h =
      let s = step_at b in
      let r = all_bytes (steps_by least (length (behind b)) (behind b)) in
      ap (λ (l : List Step). drop (length (all_bytes l)) b) (first_step b h)
      ∙ ap (λ (n : ℕ). drop n b) (length-append (bytes_of s) r) ∙ sym (drop-drop (length r) (length (bytes_of s)) b)

  rest-short : (b : List ℕ) → length b < least → rest b ≡ b
  unfolding all_bytes
  rest-short b h = ap (λ (l : List Step). drop (length (all_bytes l)) b) (none_left (length b) b h)

  pub record Over (b : List ℕ) : Type 0 where
    pub few : length (rest b) < least
    pub in_order : all_bytes (steps_by least (length b) b) ++ rest b ≡ b

  over-short : (b : List ℕ) → length b < least → Over b
  unfolding all_bytes
  over-short b k = record {
    few = rw (rest-short b k) k;
    in_order = ap (λ (l : List Step). all_bytes l ++ drop (length (all_bytes l)) b) (none_left (length b) b k);
  }

  order-behind : (b : List ℕ) → least ≤ length b → all_bytes (steps_by least (length (behind b)) (behind b)) ++ rest (behind b) ≡ behind b
      → all_bytes (steps_by least (length b) b) ++ rest b ≡ b
  unfolding all_bytes
  order-behind b k later =
      let some : 1 ≤ length b = omega (arith, k, positive) in
      let r = all_bytes (steps_by least (length (behind b)) (behind b)) in
      ap (λ (l : List ℕ). all_bytes (steps_by least (length b) b) ++ l) (rest-behind b k)
      ∙ ap (λ (l : List Step). all_bytes l ++ rest (behind b)) (first_step b k)
      ∙ append_assoc (bytes_of (step_at b)) r (rest (behind b))
      ∙ ap (λ (l : List ℕ). bytes_of (step_at b) ++ l) later
      ∙ (goes b some).in_order

  over-behind : (b : List ℕ) → least ≤ length b → Over (behind b) → Over b
  over-behind b k later = record { few = rw (rest-behind b k) later.few; in_order = order-behind b k later.in_order }

  over_by : (n : ℕ) (b : List ℕ) → length b ≤ n → Over b
  over_by zero b h = over-short b (omega (arith, h, positive))
  over_by (suc n) b h = go (λ some. over_by n (behind b) (behind-shorter b n some h)) (ltb (length b) least) refl
    where
      go : (1 ≤ length b → Over (behind b)) → (t : Bool) → ltb (length b) least ≡ t → Over b
      go later true e = over-short b (ltb-true (length b) least e)
      go later false e =
          let whole = ltb-false (length b) least e in
          over-behind b whole (later (omega (arith, whole, positive)))

  pub over : (b : List ℕ) → Over b
  over b = over_by (length b) b (omega arith)

-- ---- one part in front of the others
step_same : (w r : List ℕ) → 512 ≤ length w → step_at (w ++ r) ≡ step_at w
unfolding step_at
step_same w r h = rw (take-append-le 512 w r h, take-append-le 1 w r (omega (arith, h)))

module _ (r : List ℕ) where
  abbrev InParts : List ℕ → Type 0
  InParts w = steps (w ++ r) ≡ steps_in w ++ steps (rest_of w ++ r)

  short-part : (w : List ℕ) → length w < 512 → InParts w
  short-part w k =
      ap (λ (l : List ℕ). steps (l ++ r)) (sym (rest-short 512 (omega arith) w k))
      ∙ ap (λ (l : List Step). l ++ steps (rest_of w ++ r)) (sym (none_left 512 (omega arith) (length w) w k))

  long-part : (w : List ℕ) → 512 ≤ length w → InParts (behind w) → InParts w
  long-part w k later =
      let some : 1 ≤ length w = omega (arith, k) in
      let all : 1 ≤ length (w ++ r) = omega (arith, k, length-append w r) in
      let on : behind (w ++ r) ≡ behind w ++ r =
      ap (λ (s : Step). drop (length (bytes_of s)) (w ++ r)) (step_same w r k) ∙ drop-append-le (length (bytes_of (step_at w))) w r (goes w some).inside in
      first_step 1 (omega arith) (w ++ r) all
      ∙ ap (λ (s : Step). s ∷ steps (behind (w ++ r))) (step_same w r k)
      ∙ ap (λ (l : List ℕ). step_at w ∷ steps l) on
      ∙ ap (λ (l : List Step). step_at w ∷ l) later
      ∙ ap (λ (l : List ℕ). (step_at w ∷ steps_in (behind w)) ++ steps (l ++ r)) (sym (rest-behind 512 (omega arith) w k))
      ∙ ap (λ (l : List Step). l ++ steps (rest_of w ++ r)) (sym (first_step 512 (omega arith) w k))

  by_parts : (n : ℕ) (w : List ℕ) → length w ≤ n → InParts w
  by_parts zero w h = short-part w (omega (arith, h))
  by_parts (suc n) w h = go (λ some. by_parts n (behind w) (behind-shorter w n some h)) (ltb (length w) 512) refl
    where
      go : (1 ≤ length w → InParts (behind w)) → (t : Bool) → ltb (length w) 512 ≡ t → InParts w
      go later true e = short-part w (ltb-true (length w) 512 e)
      go later false e =
          let whole = ltb-false (length w) 512 e in
          long-part w whole (later (omega (arith, whole)))

pub walked-by-parts : (w r : List ℕ) → steps (w ++ r) ≡ steps_in w ++ steps (rest_of w ++ r)
walked-by-parts w r = by_parts r (length w) w (omega arith)

-- ---- what steps one behind another come to
pub bytes-append : (xs ys : List Step) → all_bytes (xs ++ ys) ≡ all_bytes xs ++ all_bytes ys
unfolding all_bytes
bytes-append [] ys = refl
bytes-append (x ∷ xs) ys = rw (bytes-append xs ys) (sym (append_assoc (bytes_of x) _ _))

pub kept_append : (xs ys : List Step) → kept_bytes (xs ++ ys) ≡ kept_bytes xs ++ kept_bytes ys
unfolding kept_bytes
kept_append [] ys = refl
kept_append (x ∷ xs) ys = rw (kept_append xs ys) (sym (append_assoc (kept_by x) _ _))

pub after-append : (w : Walk) (xs ys : List Step) → after w (xs ++ ys) ≡ after (after w xs) ys
unfolding after
after-append w [] ys = refl
after-append w (x ∷ xs) ys = after-append (next w x) xs ys

pub lines-append : (w : Walk) (xs ys : List Step) → run_lines w (xs ++ ys) ≡ run_lines w xs ++ run_lines (after w xs) ys
unfolding run_lines after
lines-append w [] ys = refl
lines-append w (x ∷ xs) ys = rw (lines-append (next w x) xs ys) (sym (append_assoc (told_by w x) _ _))
