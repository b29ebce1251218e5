-- A search over a file cut into whole parts and a shorter last one tells of all its blocks. Assumes nothing.
use mathlib.Core.Path.{◌≡◌, refl, sym, ap, ◌∙◌}
use mathlib.Core.Bool.{Bool, true, false, cond, ◌||◌}
use mathlib.Core.List.{List, [], ◌∷◌, ◌++◌, append-nil}
use Prim.Native.Nat.{ℕ, zero, suc, ◌+◌, ◌%◌, ◌≤◌, ◌<◌}
use native.Mathlib.Omega.{arith}
use borrow.Author.Tests.{lt-ltb, le-ltb, ne_eqb}
use lib.Dec.{ltb, eqb}
use lib.ListN.{length, length-append}
use Rattle.model.specs.Blocks.{blocks, whole_blocks}
use Rattle.model.specs.Parts.{together, count_limit, part_size, is_last}
use Rattle.model.proofs.Blocks.{blocks-in-two-parts, whole-counted}
use Rattle.runs.specs.Run.{Cut, Steps}
use Rattle.runs.proofs.Whole.{run-makes-whole}
use Rattle.all_clear_search.specs.First.{AllClear, Found}
use Rattle.all_clear_search.specs.First as First
use Rattle.all_clear_search.specs.Search.{blocks_after, is_over, said, first_at, found_in, run, EachPart, Answered, no_block, all-clear, first}
use Rattle.all_clear_search.proofs.First.{found-later, found-sooner, all-if-none}

module _ (clears : ℕ → Bool) where
  -- the first among j and k more
  pub first-append : (n j k : ℕ) → first_at clears n (j + k) ≡ cond (ltb 0 (first_at clears n j)) (first_at clears n j) (first_at clears (n + j) k)
  unfolding first_at
  first-append n zero k =
      let e : 0 + k ≡ k = omega arith in
      let f : n + 0 ≡ n = omega arith in
      rw (e, f)
  first-append n (suc j) k = let e : suc j + k ≡ suc (j + k) = omega arith in rw e (go (clears n) (first-append (n + 1) j k))
    where
      go : (c : Bool)
          → first_at clears (n + 1) (j + k) ≡ cond (ltb 0 (first_at clears (n + 1) j)) (first_at clears (n + 1) j) (first_at clears (n + 1 + j) k)
          → cond c (first_at clears (n + 1) (j + k)) (n + 1)
          ≡ cond (ltb 0 (cond c (first_at clears (n + 1) j) (n + 1))) (cond c (first_at clears (n + 1) j) (n + 1)) (first_at clears (n + suc j) k)
      go true ih = let f : n + suc j ≡ n + 1 + j = omega arith in rw f ih
      go false ih = let some : 0 < n + 1 = omega arith in rw (lt-ltb _ _ some)

  -- ---- the whole, with n blocks before it
  abbrev count : List ℕ → ℕ
  count b = length (blocks b)

  abbrev whole : ℕ → List ℕ → List ℕ
  whole n b = said (first_at clears n (count b)) (n + count b)

  abbrev Can : ℕ → List ℕ → Type 0
  Can n b = n + length b < count_limit

  abbrev over : ℕ → List ℕ → Bool
  over n p = is_over n p (found_in clears n p)

  abbrev tells : ℕ → List ℕ → List ℕ
  tells n p = said (found_in clears n p) (blocks_after n p)

  -- a shorter part ends the search, whatever stands behind it
  last : (n : ℕ) (p later : List ℕ) → n < count_limit → length p < part_size → cond (over n p) (tells n p) later ≡ whole n p
  last n p later small short = rw (lt-ltb _ _ small, lt-ltb _ _ short) (go (ltb 0 (first_at clears n (count p))))
    where
      go : (c : Bool) → cond (c || true) (whole n p) later ≡ whole n p
      go true = refl
      go false = refl

  -- a whole part ends it with a block that is not clear
  same_number : (f n m : ℕ) → ltb 0 f ≡ true → said f n ≡ said f m
  same_number f n m e = rw e

  found-or-on : (f n m g : ℕ) → cond (ltb 0 f || false) (said f n) (said g m) ≡ said (cond (ltb 0 f) f g) m
  found-or-on f n m g = go (ltb 0 f) refl
    where
      go : (c : Bool) → ltb 0 f ≡ c → cond (c || false) (said f n) (said g m) ≡ said (cond c f g) m
      go true e = same_number f n m e
      go false e = refl

  more : (n : ℕ) (p rest : List ℕ) → n < count_limit → length p ≡ part_size
      → cond (over n p) (tells n p) (whole (blocks_after n p) rest) ≡ whole n (p ++ rest)
  more n p rest small full =
      let least : part_size ≤ length p = omega arith in
      let multiple : length p % 512 ≡ 0 = rw full in
      let sum : n + (count p + count rest) ≡ n + count p + count rest = omega arith in
      rw (
        lt-ltb _ _ small,
        le-ltb _ _ least,
        blocks-in-two-parts p rest multiple,
        length-append (blocks p) (blocks rest),
        first-append n (count p) (count rest),
        sum,
      )
      (found-or-on (first_at clears n (count p)) (n + count p) (n + count p + count rest) (first_at clears (n + count p) (count rest)))

  steps : Steps blocks_after over tells (λ n p later. later) [] (λ n. part_size) whole Can
  steps = record {
    last = λ n p can short. last n p [] (omega (arith, can)) short;
    more = λ n p rest can full. more n p rest (omega (arith, can)) full;
    on = λ n p rest can full.
        let small : n < count_limit = omega (arith, can) in
        let multiple : length p % 512 ≡ 0 = rw full in
        rw (lt-ltb _ _ small) (omega (arith, can, full, length-append p rest, whole-counted p multiple));
  }

  pub run-tells-first : (ps : List (List ℕ)) → Cut (λ n. part_size) blocks_after 0 ps → length (together ps) < count_limit
      → run clears 0 ps ≡ whole 0 (together ps)
  run-tells-first ps cut small = run-makes-whole steps 0 ps cut (omega (arith, small))

  -- ---- what each part promises holds of the whole
  in_two : (n : ℕ) (bs cs : List (List ℕ)) (f g : ℕ) → Found n bs f → (f ≡ 0 → Found (n + length bs) cs g) → Found n (bs ++ cs) (cond (ltb 0 f) f g)
  in_two n bs cs zero g h later = found-later n bs cs g (all-if-none n bs 0 refl h) (later refl)
  in_two n bs cs (suc f) g h later =
      let some : 0 < suc f = omega arith in
      rw (lt-ltb _ _ some) (found-sooner n bs cs (suc f) some h)

  all_found : (n : ℕ) (ps : List (List ℕ)) → Cut (λ n. part_size) blocks_after n ps → Can n (together ps) → EachPart clears n ps
      → Found n (blocks (together ps)) (first_at clears n (count (together ps)))
  unfolding Cut EachPart together
  all_found n [] cut can each = absurd cut
  all_found n (p ∷ []) cut can each =
      let small : n < count_limit = omega (arith, can) in
      rw (append-nil p) (rw (lt-ltb _ _ small) at each.0)
  all_found n (p ∷ q ∷ r) cut can each =
      let rest = together (q ∷ r) in
      let small : n < count_limit = omega (arith, can) in
      let multiple : length p % 512 ≡ 0 = rw cut.0 in
      let here : Found n (blocks p) (first_at clears n (count p)) = rw (lt-ltb _ _ small) at each.0 in
      let behind : first_at clears n (count p) ≡ 0 → Found (n + count p) (blocks rest) (first_at clears (n + count p) (count rest)) =
      λ none.
      rw (lt-ltb _ _ small) at
      (all_found (blocks_after n p) (q ∷ r) cut.1 (steps.on n p rest can cut.0) (each.1 (rw (lt-ltb _ _ small) none))) in
      rw (blocks-in-two-parts p rest multiple, length-append (blocks p) (blocks rest), first-append n (count p) (count rest))
      (in_two n (blocks p) (blocks rest) _ _ here behind)

  -- the run of a program whose steps keep what `search_part` promises
  answered-by : (b text : List ℕ) (found : ℕ) → Found 0 (blocks b) found → text ≡ said found (count b) → Answered b text
  answered-by b text found (First.none e all) is = go (blocks b) refl all
    where
      go : (bs : List (List ℕ)) → blocks b ≡ bs → AllClear (blocks b) → Answered b text
      go [] none all = no_block (is ∙ rw (e, none)) none
      go (x ∷ bs) some all =
          let many : 0 < length (blocks b) = rw some (omega arith) in
          all-clear (is ∙ rw (e, ne_eqb (length (blocks b)) 0 (λ z. absurd (omega (arith, many, z))))) many all
  answered-by b text found (First.first j e inside all not) is =
      let some : 0 < found = omega (arith, e) in
      let number : found ≡ j + 1 = omega (arith, e) in
      first j (is ∙ rw (lt-ltb _ _ some, number)) inside all not

  pub run-answers : (ps : List (List ℕ)) → Cut (λ n. part_size) blocks_after 0 ps → length (together ps) < count_limit → EachPart clears 0 ps
      → Answered (together ps) (run clears 0 ps)
  run-answers ps cut small each =
      let n = count (together ps) in
      let e : 0 + n ≡ n = omega arith in
      answered-by (together ps) (run clears 0 ps) _ (all_found 0 ps cut (omega (arith, small)) each)
      (run-tells-first ps cut small ∙ ap (said (first_at clears 0 n)) e)
