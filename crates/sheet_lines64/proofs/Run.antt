-- Written by tests/written/wide.py from sheet_lines, in f64.
-- A run of `write_part` over a file cut into whole parts and a shorter last one gives the sheet of the file. Assumes nothing.
use mathlib.Core.Path.{◌≡◌, refl, sym}
use mathlib.Core.Bool.{true, false}
use mathlib.Core.List.{List, ◌++◌}
use Prim.Native.Nat.{ℕ, ◌+◌, ◌/◌, ◌%◌, ◌≤◌, ◌<◌}
use native.Mathlib.Omega.{arith}
use borrow.Author.Tests.{lt-ltb, le-ltb, le-leb}
use lib.Ieee.{binary64}
use lib.ListN.{length, length-append}
use Rattle.model.specs.declared.Totals.{Totals}
use Rattle.model.specs.Parts.{together, count_limit, part_size}
use Rattle.model.specs.Sheet.{none}
use Rattle.model.specs.Sheet.{answers, part_text, sheet}
use Rattle.model.proofs.Sheet.{Sums, totals-add-up, blocks-counted, answers-of-whole, part-first}
use Rattle.runs.specs.Run.{Cut}
use Rattle.runs.proofs.Whole.{run-makes-whole, text-steps}
use Rattle.sheet_lines64.specs.Part.{longest_line, countable, fits, text_for, totals_for, last_for, run}

-- the totals add up, and so many bytes can still be counted
pub record Counting (t : Totals) (b : List ℕ) : Type 0 where
  pub sums : Sums t
  pub left : t.blocks + length b < count_limit

counting-on : (t : Totals) (b : List ℕ) → Counting t b → countable t ≡ true
counting-on t b h =
    let sums : t.blocks ≡ t.clear + t.contact + t.undecided + t.refused = h.sums in
    let left : t.blocks + length b < count_limit = h.left in
    let blocks : t.blocks < count_limit = omega arith in
    let clear : t.clear < count_limit = omega arith in
    let contact : t.contact < count_limit = omega arith in
    let undecided : t.undecided < count_limit = omega arith in
    let refused : t.refused < count_limit = omega arith in
    rw (lt-ltb _ _ blocks, lt-ltb _ _ clear, lt-ltb _ _ contact, lt-ltb _ _ undecided, lt-ltb _ _ refused)

fitting : (size : ℕ) (t : Totals) (b : List ℕ) → size ≤ part_size → Counting t b → fits size part_size t ≡ true
fitting size t b small h =
    let room : size / 512 + 2 ≤ part_size / longest_line = omega arith in
    rw (le-leb _ _ room, counting-on t b h)

-- ---- a step of the run
last : (t : Totals) (p : List ℕ) → Counting t p → length p < part_size →
    (last_for t p part_size ≡ true) × (text_for t p part_size ≡ part_text binary64 t p true)
last t p can short =
    rw (fitting (length p) t p (omega arith) can, lt-ltb _ _ short) (refl, refl)

more : (t : Totals) (p rest : List ℕ) → Counting t (p ++ rest) → length p ≡ part_size →
    (last_for t p part_size ≡ false)
    × (text_for t p part_size ++ part_text binary64 (totals_for t p part_size) rest true ≡ part_text binary64 t (p ++ rest) true)
    × Counting (totals_for t p part_size) rest
more t p rest can full =
    let least : part_size ≤ length p = omega arith in
    let multiple : length p % 512 ≡ 0 = rw full in
    let sizes = length-append p rest in
    rw (fitting (length p) t (p ++ rest) (omega arith) can, le-ltb _ _ least) (
      refl,
      sym (part-first binary64 t p rest multiple),
      record {
        sums = totals-add-up t (answers binary64 p) can.sums;
        left = omega (arith, can.left, blocks-counted t (answers binary64 p), answers-of-whole binary64 p multiple, sizes, full);
      },
    )

pub run-from : (t : Totals) (ps : List (List ℕ)) → Cut (λ t. part_size) (λ t p. totals_for t p part_size) t ps → Counting t (together ps) →
    run part_size t ps ≡ part_text binary64 t (together ps) true
run-from t ps cut can = run-makes-whole (text-steps last more) t ps cut can

-- for every file that a machine can hold
pub run-gives-sheet : (ps : List (List ℕ)) → Cut (λ t. part_size) (λ t p. totals_for t p part_size) none ps → length (together ps) < count_limit →
    run part_size none ps ≡ sheet binary64 (together ps)
unfolding sheet
run-gives-sheet ps cut small = run-from none ps cut (record { sums = refl; left = omega (arith, small) })
