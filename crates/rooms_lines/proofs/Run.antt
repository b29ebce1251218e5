-- A run of `write_part` over a file cut into whole parts and a shorter last one prints the lines and the totals of the answers that came, one for each
-- block of the file; and where each part's are answers of its blocks, they all are. Assumes nothing.
use mathlib.Core.Path.{◌≡◌, refl, sym, ap, ◌∙◌}
use mathlib.Core.Bool.{true, false}
use mathlib.Core.List.{List, [], ◌∷◌, ◌++◌, append-nil, append_assoc}
use Prim.Native.Nat.{ℕ, zero, suc, ◌+◌, ◌/◌, ◌%◌, ◌≤◌, ◌<◌}
use native.Mathlib.Omega.{arith}
use borrow.Author.Tests.{lt-ltb, le-ltb, le-leb}
use lib.ListN.{length, length-append}
use Rattle.rooms_lines.specs.declared.part.Tally.{Tally}
use Rattle.model.specs.Blocks.{whole_blocks, blocks}
use Rattle.model.specs.Parts.{together, count_limit, part_size}
use Rattle.model.proofs.Sheet.{WholeParts}
use Rattle.model.proofs.Blocks.{blocks-in-two-parts, whole-counted}
use Rattle.runs.specs.Run.{Cut}
use Rattle.runs.proofs.Whole.{run-makes-whole, text-steps}
use Rattle.rooms_block.specs.Answer.{BlockRooms, AnswersOf}
use Rattle.rooms_lines.specs.Lines.{longest_line, lines_from, none, totals_from, total_line, text_of}
use Rattle.rooms_lines.specs.Part.{countable, fits, text_for, totals_for, last_for, answers_from, came_for, run, EachPart, Printed}
use Rattle.rooms_lines.proofs.Folds.{lines-append, totals-append, answers-append, blocks-counted, no-more-refused}

-- no more are refused than there are, and so many bytes can still be counted
pub record Counting (t : Tally) (b : List ℕ) : Type 0 where
  pub sums : t.refused ≤ t.blocks
  pub left : t.blocks + length b < count_limit

counting-on : (t : Tally) (b : List ℕ) → Counting t b → countable t ≡ true
counting-on t b h =
    let blocks : t.blocks < count_limit = omega (arith, h.left) in
    let refused : t.refused < count_limit = omega (arith, h.left, h.sums) in
    rw (lt-ltb _ _ blocks, lt-ltb _ _ refused)

fitting : (size : ℕ) (t : Tally) (b : List ℕ) → size ≤ part_size → Counting t b → fits size part_size t ≡ true
fitting size t b small h =
    let room : size / 512 + 2 ≤ part_size / longest_line = omega arith in
    rw (le-leb _ _ room, counting-on t b h)

-- ---- answers by their place
module _ (came : ℕ → BlockRooms) where
  count-from : (n k : ℕ) → length (answers_from came n k) ≡ k
  unfolding answers_from
  count-from n zero = refl
  count-from n (suc k) = ap suc (count-from (n + 1) k)

  -- j of them, and those behind
  pub from-append : (n j k : ℕ) → answers_from came n (j + k) ≡ answers_from came n j ++ answers_from came (n + j) k
  unfolding answers_from
  from-append n zero k =
      let e : 0 + k ≡ k = omega arith in
      let f : n + 0 ≡ n = omega arith in
      rw (e, f)
  from-append n (suc j) k =
      let e : suc j + k ≡ suc (j + k) = omega arith in
      let f : n + 1 + j ≡ n + suc j = omega arith in
      rw e (ap (λ (l : List BlockRooms). came n ∷ l) (from-append (n + 1) j k ∙ rw f))

  -- ---- the whole, from given totals on
  abbrev whole : Tally → List ℕ → List ℕ
  whole t b = lines_from t.blocks (came_for came t b) ++ total_line (totals_from t (came_for came t b))

  abbrev next : Tally → List ℕ → Tally
  next t p = totals_for t p part_size (came_for came t p)

  -- the answers of a file in two parts, the first of whole blocks
  pub came-in-two-parts : (t : Tally) (p rest : List ℕ) → length p % 512 ≡ 0
      → came_for came t (p ++ rest) ≡ came_for came t p ++ came_for came (totals_from t (came_for came t p)) rest
  came-in-two-parts t p rest h =
      let j = length (blocks p) in
      let after : (totals_from t (came_for came t p)).blocks ≡ t.blocks + j =
      blocks-counted t (came_for came t p) ∙ ap (λ (x : ℕ). t.blocks + x) (count-from t.blocks j) in
      rw (blocks-in-two-parts p rest h, length-append (blocks p) (blocks rest), after) (from-append t.blocks j (length (blocks rest)))

  -- ---- a step of the run
  last : (t : Tally) (p : List ℕ) → Counting t p → length p < part_size
      → (last_for t p part_size ≡ true) × (text_for t p part_size (came_for came t p) ≡ whole t p)
  last t p can short = rw (fitting (length p) t p (omega arith) can, lt-ltb _ _ short) (refl, refl)

  whole-first : (t : Tally) (p rest : List ℕ) → length p % 512 ≡ 0
      → lines_from t.blocks (came_for came t p) ++ whole (totals_from t (came_for came t p)) rest ≡ whole t (p ++ rest)
  whole-first t p rest h =
      let xs = came_for came t p in
      let ys = came_for came (totals_from t xs) rest in
      rw (came-in-two-parts t p rest h, lines-append t.blocks xs ys, totals-append t xs ys, ← blocks-counted t xs)
      (sym (append_assoc (lines_from t.blocks xs) _ _))

  more : (t : Tally) (p rest : List ℕ) → Counting t (p ++ rest) → length p ≡ part_size
      → (last_for t p part_size ≡ false) × (text_for t p part_size (came_for came t p) ++ whole (next t p) rest ≡ whole t (p ++ rest)) × Counting (next t p) rest
  more t p rest can full =
      let least : part_size ≤ length p = omega arith in
      let multiple : length p % 512 ≡ 0 = rw full in
      let xs = came_for came t p in
      let sizes = length-append p rest in
      rw (fitting (length p) t (p ++ rest) (omega arith) can, le-ltb _ _ least, append-nil (lines_from t.blocks xs)) (
        refl,
        whole-first t p rest multiple,
        record {
          sums = no-more-refused t xs can.sums;
          left = omega (
            arith,
            can.left,
            blocks-counted t xs,
            count-from t.blocks (length (blocks p)),
            whole-counted p multiple,
            sizes,
            full,
          );
        },
      )

  pub run-from : (t : Tally) (ps : List (List ℕ)) → Cut (λ t. part_size) next t ps → Counting t (together ps)
      → run came part_size t ps ≡ whole t (together ps)
  run-from t ps cut can = run-makes-whole (text-steps last more) t ps cut can

  -- for every file that a machine can hold: its whole text, of one answer for each of its blocks
  pub run-gives-lines : (ps : List (List ℕ)) → Cut (λ t. part_size) next none ps → length (together ps) < count_limit
      → run came part_size none ps ≡ text_of (answers_from came 0 (length (blocks (together ps))))
  run-gives-lines ps cut small = run-from none ps cut (record { sums = omega arith; left = omega (arith, small) })

  -- ---- all are answers, where each part's are
  whole_parts : (t : Tally) (ps : List (List ℕ)) → Cut (λ t. part_size) next t ps → WholeParts ps
  unfolding Cut WholeParts
  whole_parts t [] cut = tt
  whole_parts t (p ∷ []) cut = tt
  whole_parts t (p ∷ q ∷ r) cut = (rw cut.0, whole_parts (next t p) (q ∷ r) cut.1)

  all-answered : (t : Tally) (ps : List (List ℕ)) → WholeParts ps → EachPart came t ps
      → AnswersOf (blocks (together ps)) (came_for came t (together ps))
  unfolding WholeParts EachPart together answers_from AnswersOf blocks whole_blocks
  all-answered t [] whole each = tt
  all-answered t (p ∷ []) whole each = rw (append-nil p) each.0
  all-answered t (p ∷ q ∷ r) whole each =
      let rest = together (q ∷ r) in
      let xs = came_for came t p in
      rw (came-in-two-parts t p rest whole.0, blocks-in-two-parts p rest whole.0)
      (answers-append (blocks p) (blocks rest) xs (came_for came (totals_from t xs) rest) each.0 (all-answered (totals_from t xs) (q ∷ r) whole.1 each.1))

  -- the run of a program whose steps keep what `write_part` promises
  pub run-prints : (ps : List (List ℕ)) → Cut (λ t. part_size) next none ps → length (together ps) < count_limit → EachPart came none ps
      → Printed (together ps) (run came part_size none ps)
  run-prints ps cut small each = record {
    came = came_for came none (together ps);
    sound = all-answered none ps (whole_parts none ps cut) each;
    lines = run-gives-lines ps cut small;
  }
