-- The blocks of a part searched one by one: what is left from block i on tells what the whole does. Assumes nothing.
use mathlib.Core.Path.{◌≡◌, refl, sym, ap, ◌∙◌}
use mathlib.Core.Bool.{true, false, cond}
use mathlib.Core.List.{List, [], ◌∷◌}
use Prim.Native.Nat.{ℕ, suc, ◌+◌, ◌*◌, ◌-◌, ◌/◌, ◌≤◌, ◌<◌}
use native.Mathlib.Omega.{arith}
use borrow.Author.Tests.{lt-ltb, ne_eqb}
use lib.Ieee.{binary32}
use lib.ListN.{length, take, drop}
use lib.Seq.{drop-drop}
use Rattle.model.specs.Work.{block_answer, BlockAnswer}
use Rattle.model.specs.Blocks.{whole_blocks}
use Rattle.model.specs.Sheet.{whole_answers}
use Rattle.model.specs.Block.{block_size}
use Rattle.model.specs.Parts.{count_limit, is_last}
use Rattle.any_contact_search.specs.First.{is_contact, first_from}
use Rattle.any_contact_search.specs.Search.{state, searched_to, searched}
use Rattle.any_contact_search.proofs.First.{rest-passed-over}

-- the first contact among the blocks of b from block i up to k, with n before them
abbrev pub left_from : List ℕ → ℕ → ℕ → ℕ → ℕ
left_from b k n i = first_from n (whole_answers binary32 (k - i) (drop (512 * i) b))

pub from_start : (b : List ℕ) (k n : ℕ) → left_from b k n 0 ≡ first_from n (whole_answers binary32 k b)
from_start b k n = let e : k - 0 ≡ k = omega arith in rw e

pub none_left : (b : List ℕ) (k n i : ℕ) → k ≤ i → left_from b k n i ≡ 0
unfolding first_from whole_blocks
none_left b k n i done = let e : k - i ≡ 0 = omega arith in rw e

-- block i, answered by x
module _ (b : List ℕ) (k n i : ℕ) (more : i < k) (x : BlockAnswer) (answer : x ≡ block_answer binary32 (take 512 (drop (512 * i) b))) where
  one_block : left_from b k n i ≡ cond (is_contact x) (n + 1) (left_from b k (n + 1) (i + 1))
  unfolding first_from whole_blocks
  one_block =
      let count : k - i ≡ suc (k - (i + 1)) = omega arith in
      let place : 512 * i + 512 ≡ 512 * (i + 1) = omega arith in
      rw (count, answer, drop-drop 512 (512 * i) b, place)

  pub found_here : is_contact x ≡ true → left_from b k n i ≡ n + 1
  found_here e = one_block ∙ rw e

  pub passed_over : is_contact x ≡ false → left_from b k (n + 1) (i + 1) ≡ left_from b k n i
  passed_over e = sym (one_block ∙ rw e)

-- ---- what a part comes to
-- of what was found among its whole blocks
pub part-searched : (before : ℕ) (part : List ℕ) (found : ℕ) → before < count_limit →
    found ≡ first_from before (whole_answers binary32 (length part / block_size) part) → searched_to before part found ≡ searched before part
part-searched before part found small e =
    rw (lt-ltb _ _ small) (ap (searched_to before part) (e ∙ sym (rest-passed-over binary32 before part)))

pub nothing-found : (before : ℕ) (part : List ℕ) (found : ℕ) → found ≡ 0 →
    searched_to before part found ≡ state found (before + length part / block_size) (is_last part)
nothing-found before part found e = rw e

pub something-found : (before : ℕ) (part : List ℕ) (found : ℕ) → (found ≡ 0 → ⊥) →
    searched_to before part found ≡ state found (before + length part / block_size) true
something-found before part found h = rw (ne_eqb found 0 h)
