-- A run of `write_part` over a file cut into whole parts and a shorter last one prints the lines and the totals of the answers that came, one for each
-- block of the file. Assumes nothing.
use mathlib.Core.Path.{◌≡◌, refl, sym, ap, ◌∙◌}
use mathlib.Core.Bool.{true, false}
use mathlib.Core.List.{List, ◌∷◌, ◌++◌, append-nil, append_assoc}
use Prim.Native.Nat.{ℕ, zero, suc, ◌+◌, ◌/◌, ◌%◌, ◌≤◌, ◌<◌}
use native.Mathlib.Omega.{arith}
use borrow.Author.Tests.{lt-ltb, le-ltb, le-leb}
use lib.ListN.{length, length-append}
use Rattle.model.specs.declared.Totals.{Totals}
use Rattle.model.specs.Blocks.{blocks}
use Rattle.model.specs.Parts.{together, count_limit, part_size}
use Rattle.model.specs.Sheet.{none, total_line}
use Rattle.model.proofs.Sheet.{Sums}
use Rattle.model.proofs.Blocks.{blocks-in-two-parts, whole-counted}
use Rattle.runs.specs.Run.{Cut}
use Rattle.runs.proofs.Whole.{run-makes-whole, text-steps}
use Rattle.clearance_block.specs.declared.BlockCleared.{BlockCleared}
use Rattle.clearance_lines.specs.Lines.{longest_line, lines_from, totals_from, text_of}
use Rattle.clearance_lines.specs.Part.{countable, fits, text_for, totals_for, last_for, answers_from, came_for, run}
use Rattle.clearance_lines.proofs.Folds.{lines-append, totals-append, blocks-counted, totals-add-up}

-- the totals add up, and so many bytes can still be counted
pub record Counting (t : Totals) (b : List ℕ) : Type 0 where
  pub sums : Sums t
  pub left : t.blocks + length b < count_limit

counting-on : (t : Totals) (b : List ℕ) → Counting t b → countable t ≡ true
counting-on t b h =
    let sums : t.blocks ≡ t.clear + t.contact + t.undecided + t.refused = h.sums in
    let left : t.blocks + length b < count_limit = h.left in
    let blocks : t.blocks < count_limit = omega arith in
    let clear : t.clear < count_limit = omega arith in
    let contact : t.contact < count_limit = omega arith in
    let undecided : t.undecided < count_limit = omega arith in
    let refused : t.refused < count_limit = omega arith in
    rw (lt-ltb _ _ blocks, lt-ltb _ _ clear, lt-ltb _ _ contact, lt-ltb _ _ undecided, lt-ltb _ _ refused)

pub fitting : (size : ℕ) (t : Totals) (b : List ℕ) → size ≤ part_size → Counting t b → fits size part_size t ≡ true
fitting size t b small h =
    let room : size / 512 + 2 ≤ part_size / longest_line = omega arith in
    rw (le-leb _ _ room, counting-on t b h)

-- ---- answers by their place
module _ (came : ℕ → BlockCleared) where
  count-from : (n k : ℕ) → length (answers_from came n k) ≡ k
  unfolding answers_from
  count-from n zero = refl
  count-from n (suc k) = ap suc (count-from (n + 1) k)

  -- j of them, and those behind
  pub from-append : (n j k : ℕ) → answers_from came n (j + k) ≡ answers_from came n j ++ answers_from came (n + j) k
  unfolding answers_from
  from-append n zero k =
      let e : 0 + k ≡ k = omega arith in
      let f : n + 0 ≡ n = omega arith in
      rw (e, f)
  from-append n (suc j) k =
      let e : suc j + k ≡ suc (j + k) = omega arith in
      let f : n + 1 + j ≡ n + suc j = omega arith in
      rw e (ap (λ (l : List BlockCleared). came n ∷ l) (from-append (n + 1) j k ∙ rw f))

  -- ---- the whole, from given totals on
  abbrev whole : Totals → List ℕ → List ℕ
  whole t b = lines_from t.blocks (came_for came t b) ++ total_line (totals_from t (came_for came t b))

  abbrev next : Totals → List ℕ → Totals
  next t p = totals_for t p part_size (came_for came t p)

  -- the answers of a file in two parts, the first of whole blocks
  pub came-in-two-parts : (t : Totals) (p rest : List ℕ) → length p % 512 ≡ 0
      → came_for came t (p ++ rest) ≡ came_for came t p ++ came_for came (totals_from t (came_for came t p)) rest
  came-in-two-parts t p rest h =
      let j = length (blocks p) in
      let after : (totals_from t (came_for came t p)).blocks ≡ t.blocks + j =
      blocks-counted t (came_for came t p) ∙ ap (λ (x : ℕ). t.blocks + x) (count-from t.blocks j) in
      rw (blocks-in-two-parts p rest h, length-append (blocks p) (blocks rest), after) (from-append t.blocks j (length (blocks rest)))

  -- ---- a step of the run
  last : (t : Totals) (p : List ℕ) → Counting t p → length p < part_size
      → (last_for t p part_size ≡ true) × (text_for t p part_size (came_for came t p) ≡ whole t p)
  last t p can short = rw (fitting (length p) t p (omega arith) can, lt-ltb _ _ short) (refl, refl)

  whole-first : (t : Totals) (p rest : List ℕ) → length p % 512 ≡ 0
      → lines_from t.blocks (came_for came t p) ++ whole (totals_from t (came_for came t p)) rest ≡ whole t (p ++ rest)
  whole-first t p rest h =
      let xs = came_for came t p in
      let ys = came_for came (totals_from t xs) rest in
      rw (came-in-two-parts t p rest h, lines-append t.blocks xs ys, totals-append t xs ys, ← blocks-counted t xs)
      (sym (append_assoc (lines_from t.blocks xs) _ _))

  more : (t : Totals) (p rest : List ℕ) → Counting t (p ++ rest) → length p ≡ part_size
      → (last_for t p part_size ≡ false) × (text_for t p part_size (came_for came t p) ++ whole (next t p) rest ≡ whole t (p ++ rest)) × Counting (next t p) rest
  more t p rest can full =
      let least : part_size ≤ length p = omega arith in
      let multiple : length p % 512 ≡ 0 = rw full in
      let xs = came_for came t p in
      let sizes = length-append p rest in
      rw (fitting (length p) t (p ++ rest) (omega arith) can, le-ltb _ _ least, append-nil (lines_from t.blocks xs)) (
        refl,
        whole-first t p rest multiple,
        record {
          sums = totals-add-up t xs can.sums;
          left = omega (
            arith,
            can.left,
            blocks-counted t xs,
            count-from t.blocks (length (blocks p)),
            whole-counted p multiple,
            sizes,
            full,
          );
        },
      )

  pub run-from : (t : Totals) (ps : List (List ℕ)) → Cut (λ t. part_size) next t ps → Counting t (together ps)
      → run came part_size t ps ≡ whole t (together ps)
  run-from t ps cut can = run-makes-whole (text-steps last more) t ps cut can

  -- for every file that a machine can hold: its whole text, of one answer for each of its blocks
  pub run-gives-lines : (ps : List (List ℕ)) → Cut (λ t. part_size) next none ps → length (together ps) < count_limit
      → run came part_size none ps ≡ text_of (answers_from came 0 (length (blocks (together ps))))
  run-gives-lines ps cut small = run-from none ps cut (record { sums = refl; left = omega (arith, small) })
