-- A search over a file cut into whole parts and a shorter last one finds the first contact of the file. Assumes nothing.
use mathlib.Core.Path.{◌≡◌, refl, sym, ap, ◌∙◌}
use mathlib.Core.Bool.{Bool, true, false, cond}
use mathlib.Core.List.{List, [], ◌∷◌, ◌++◌}
use Prim.Native.Nat.{ℕ, ◌+◌, ◌/◌, ◌%◌, ◌≤◌, ◌<◌}
use native.Mathlib.Omega.{arith}
use borrow.Author.Tests.{lt-ltb, le-ltb}
use lib.Dec.{eqb}
use lib.Ieee.{binary32}
use lib.ListN.{length, length-append}
use Rattle.model.specs.Parts.{together, count_limit, part_size}
use Rattle.model.specs.Sheet.{answers}
use Rattle.model.proofs.Sheet.{answers-of-whole, answers-in-two-parts}
use Rattle.runs.specs.Run.{Cut, Steps, run}
use Rattle.runs.proofs.Whole.{run-makes-whole}
use Rattle.any_contact_search.specs.First.{first_from, first_contact}
use Rattle.any_contact_search.specs.Search.{searched, search}
use Rattle.any_contact_search.proofs.First.{first-append}

abbrev found : ℕ → List ℕ → ℕ
found n p = first_from n (answers binary32 p)

-- a shorter part ends the search, whatever stands behind it
pub short-part-ends : (n : ℕ) (p : List ℕ) (later : ℕ) → n < count_limit → length p < part_size →
    cond (searched n p).over (searched n p).found later ≡ found n p
short-part-ends n p later small short = rw (lt-ltb _ _ small, lt-ltb _ _ short) (go (eqb (found n p) 0))
  where
    go : (c : Bool) → cond (cond c true true) (found n p) later ≡ found n p
    go true = refl
    go false = refl

-- a whole part ends it with a contact
whole_part : (n : ℕ) (p : List ℕ) (later : ℕ) → n < count_limit → length p ≡ part_size →
    cond (searched n p).over (searched n p).found later ≡ cond (eqb (found n p) 0) later (found n p)
whole_part n p later small whole =
    let least : part_size ≤ length p = omega arith in
    rw (lt-ltb _ _ small, le-ltb _ _ least) (go (eqb (found n p) 0))
  where
    go : (c : Bool) → cond (cond c false true) (found n p) later ≡ cond c later (found n p)
    go true = refl
    go false = refl

counted-on : (n : ℕ) (p : List ℕ) → n < count_limit → (searched n p).blocks ≡ n + length p / 512
counted-on n p small = rw (lt-ltb _ _ small)

abbrev Can : ℕ → List ℕ → Type 0
Can n b = n + length b < count_limit

steps : Steps (λ n p. (searched n p).blocks) (λ n p. (searched n p).over) (λ n p. (searched n p).found) (λ n p later. later) 0 (λ n. part_size) found Can
steps = record {
  last = λ n p can short. short-part-ends n p 0 (omega (arith, can)) short;
  more = λ n p rest can full.
      let small : n < count_limit = omega (arith, can) in
      let multiple : length p % 512 ≡ 0 = rw full in
      whole_part n p (found (searched n p).blocks rest) small full
      ∙ rw (
        counted-on n p small,
        answers-in-two-parts binary32 p rest multiple,
        first-append n (answers binary32 p) (answers binary32 rest),
        answers-of-whole binary32 p multiple,
      );
  on = λ n p rest can full.
      let small : n < count_limit = omega (arith, can) in
      rw (counted-on n p small) (omega (arith, can, full, length-append p rest));
}

-- for every file that a machine can hold
pub search-finds-first : (ps : List (List ℕ)) → Cut (λ n. part_size) (λ n p. (searched n p).blocks) 0 ps → length (together ps) < count_limit
    → search 0 ps ≡ first_contact binary32 (together ps)
search-finds-first ps cut small = run-makes-whole steps 0 ps cut (omega (arith, small))
