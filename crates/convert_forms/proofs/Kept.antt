-- A converted file has the other forms of the blocks that are not refused, in order and no others; converted again, it has those blocks. Assumes
-- nothing.
use mathlib.Core.Path.{◌≡◌, refl, ap, ◌∙◌}
use mathlib.Core.Bool.{Bool, true, false, cond}
use mathlib.Core.List.{List, [], ◌∷◌, ◌++◌, map}
use Prim.Native.Nat.{ℕ, ◌+◌, ◌*◌}
use native.Mathlib.Omega.{arith}
use borrow.Author.Tests.{eq-eqb}
use lib.ListN.{length, length-append}
use Rattle.model.specs.Blocks.{whole_blocks, blocks, is_good, passes}
use Rattle.model.specs.Parts.{together}
use Rattle.model.proofs.Blocks.{block-first, whole-if-passes, good-if-passes}
use Rattle.convert_forms.specs.Forms.{other_form}
use Rattle.convert_forms.specs.Convert.{converted, told_from}
use Rattle.convert_forms.proofs.Twice.{Bytes, other-size}
use Rattle.convert_forms.proofs.SameLine.{other-checked, twice}

-- the blocks that are not refused
unfoldable pub kept : List (List ℕ) → List (List ℕ)
kept [] = []
kept (x ∷ xs) = cond (passes x) (x ∷ kept xs) (kept xs)

-- cut into blocks, what was written is the other forms of those kept
pub converted-in-order : (xs : List (List ℕ)) → blocks (converted xs) ≡ map other_form (kept xs)
unfolding converted kept blocks whole_blocks
converted-in-order [] = refl
converted-in-order (x ∷ xs) = one (converted-in-order xs) (passes x) refl
  where
    one : blocks (converted xs) ≡ map other_form (kept xs) → (t : Bool) → passes x ≡ t
        → blocks (cond t (other_form x) [] ++ converted xs) ≡ map other_form (cond t (x ∷ kept xs) (kept xs))
    one so_far true e = block-first (other_form x) (converted xs) (other-size x (whole-if-passes x e)) ∙ ap (λ (l : List (List ℕ)). other_form x ∷ l) so_far
    one so_far false e = so_far

-- as many blocks as were not refused
pub as-many-blocks : (xs : List (List ℕ)) → length (converted xs) ≡ 512 * length (kept xs)
unfolding converted kept
as-many-blocks [] = refl
as-many-blocks (x ∷ xs) = one (as-many-blocks xs) (passes x) refl
  where
    one : length (converted xs) ≡ 512 * length (kept xs) → (t : Bool) → passes x ≡ t
        → length (cond t (other_form x) [] ++ converted xs) ≡ 512 * length (cond t (x ∷ kept xs) (kept xs))
    one so_far true e = length-append (other_form x) (converted xs) ∙ omega (arith, so_far, other-size x (whole-if-passes x e))
    one so_far false e = so_far

-- ---- two runs
other-passes : (x : List ℕ) → passes x ≡ true → passes (other_form x) ≡ true
other-passes x e =
    let size = whole-if-passes x e in
    let good = good-if-passes x e in
    rw (eq-eqb (length (other_form x)) 512 (other-size x size)) (ap is_good (other-checked x size good) ∙ good)

-- every byte of every block is one
unfoldable pub AllBytes : List (List ℕ) → Type 0
AllBytes [] = Unit {0}
AllBytes (x ∷ xs) = Bytes x × AllBytes xs

module _ (x : List ℕ) (rest : List (List ℕ)) where
  turned-back : Bytes x → converted (map other_form rest) ≡ together rest → passes x ≡ true
      → converted (other_form x ∷ map other_form rest) ≡ together (x ∷ rest)
  unfolding converted together
  turned-back bytes so_far e = rw (other-passes x e, so_far, twice x (whole-if-passes x e) (good-if-passes x e) bytes)

  nothing-told : (n : ℕ) → told_from (n + 1) (map other_form rest) ≡ [] → passes x ≡ true → told_from n (other_form x ∷ map other_form rest) ≡ []
  unfolding told_from
  nothing-told n so_far e = rw (other-passes x e, so_far)

back : (xs : List (List ℕ)) → AllBytes xs → converted (map other_form (kept xs)) ≡ together (kept xs)
unfolding converted together kept AllBytes
back [] bytes = refl
back (x ∷ xs) bytes = one (back xs bytes.1) (passes x) refl
  where
    one : converted (map other_form (kept xs)) ≡ together (kept xs) → (t : Bool) → passes x ≡ t
        → converted (map other_form (cond t (x ∷ kept xs) (kept xs))) ≡ together (cond t (x ∷ kept xs) (kept xs))
    one so_far true e = turned-back x (kept xs) bytes.0 so_far e
    one so_far false e = so_far

silent : (n : ℕ) (xs : List (List ℕ)) → told_from n (map other_form (kept xs)) ≡ []
unfolding told_from kept
silent n [] = refl
silent n (x ∷ xs) = one (silent (n + 1) xs) (silent n xs) (passes x) refl
  where
    one : told_from (n + 1) (map other_form (kept xs)) ≡ [] → told_from n (map other_form (kept xs)) ≡ [] → (t : Bool) → passes x ≡ t
        → told_from n (map other_form (cond t (x ∷ kept xs) (kept xs))) ≡ []
    one later so_far true e = nothing-told x (kept xs) n later e
    one later so_far false e = so_far

-- a converted file converted again has the blocks that were not refused, as they were, and nothing is told
pub two_runs : (xs : List (List ℕ)) → AllBytes xs → converted (blocks (converted xs)) ≡ together (kept xs)
two_runs xs bytes = ap converted (converted-in-order xs) ∙ back xs bytes

pub second-run-silent : (n : ℕ) (xs : List (List ℕ)) → told_from n (blocks (converted xs)) ≡ []
second-run-silent n xs = ap (told_from n) (converted-in-order xs) ∙ silent n xs
