-- A run of `write_part` over a file cut into whole parts and a shorter last one gives the gaps of the file. Assumes nothing.
use mathlib.Core.Path.{◌≡◌, refl, sym}
use mathlib.Core.Bool.{true, false}
use mathlib.Core.List.{List, ◌++◌, append-nil, append_assoc}
use Prim.Native.Nat.{ℕ, ◌+◌, ◌/◌, ◌%◌, ◌≤◌, ◌<◌}
use native.Mathlib.Omega.{arith}
use borrow.Author.Tests.{lt-ltb, le-ltb, le-leb}
use lib.Ieee.{binary32}
use lib.ListN.{length, length-append}
use Rattle.model.specs.Blocks.{blocks}
use Rattle.model.specs.Parts.{together, count_limit}
use Rattle.model.proofs.Blocks.{blocks-in-two-parts, whole-counted}
use Rattle.runs.specs.Run.{Cut}
use Rattle.runs.proofs.Whole.{run-makes-whole, text-steps}
use Rattle.gaps_lines.specs.declared.part.Tally.{Tally}
use Rattle.gaps_lines.specs.Gaps.{longest_line, lines_from, tally_from, text_from, none, gaps_of}
use Rattle.gaps_lines.specs.Part.{part_size, fits, text_for, tally_for, last_for, run}
use Rattle.gaps_lines.proofs.Parts.{lines-append, tally-append, blocks-counted, refused-among}

-- the program's buffer
abbrev room : ℕ
room = 65536

-- no more were refused than there were, and so many bytes can still be counted
pub record Counting (t : Tally) (b : List ℕ) : Type 0 where
  pub among : t.refused ≤ t.blocks
  pub left : t.blocks + length b < count_limit

fitting : (size : ℕ) (t : Tally) (b : List ℕ) → size ≤ part_size → Counting t b → fits size room t ≡ true
fitting size t b small h =
    let lines : size / 512 + 2 ≤ room / longest_line = omega arith in
    let blocks : t.blocks < count_limit = omega (arith, h.left) in
    let refused : t.refused < count_limit = omega (arith, h.left, h.among) in
    rw (le-leb _ _ lines, lt-ltb _ _ blocks, lt-ltb _ _ refused)

-- ---- a step of the run
last : (t : Tally) (p : List ℕ) → Counting t p → length p < part_size → (last_for t p room ≡ true) × (text_for t p room ≡ text_from binary32 t p)
last t p can short = rw (fitting (length p) t p (omega arith) can, lt-ltb _ _ short) (refl, refl)

text-first : (t : Tally) (p rest : List ℕ) → length p % 512 ≡ 0
    → lines_from binary32 t.blocks (blocks p) ++ text_from binary32 (tally_from binary32 t (blocks p)) rest ≡ text_from binary32 t (p ++ rest)
text-first t p rest h =
    let xs = blocks p in
    rw (blocks-in-two-parts p rest h, lines-append t.blocks xs (blocks rest), tally-append t xs (blocks rest), ← blocks-counted t xs)
    (sym (append_assoc (lines_from binary32 t.blocks xs) _ _))

more : (t : Tally) (p rest : List ℕ) → Counting t (p ++ rest) → length p ≡ part_size
    → (last_for t p room ≡ false) × (text_for t p room ++ text_from binary32 (tally_for t p room) rest ≡ text_from binary32 t (p ++ rest))
    × Counting (tally_for t p room) rest
more t p rest can full =
    let least : part_size ≤ length p = omega arith in
    let multiple : length p % 512 ≡ 0 = rw full in
    let sizes = length-append p rest in
    rw (fitting (length p) t (p ++ rest) (omega arith) can, le-ltb _ _ least, append-nil (lines_from binary32 t.blocks (blocks p))) (
      refl,
      text-first t p rest multiple,
      record {
        among = refused-among t (blocks p) can.among;
        left = omega (arith, can.left, blocks-counted t (blocks p), whole-counted p multiple, sizes, full);
      },
    )

pub run-from : (t : Tally) (ps : List (List ℕ)) → Cut (λ t. part_size) (λ t p. tally_for t p room) t ps → Counting t (together ps)
    → run room t ps ≡ text_from binary32 t (together ps)
run-from t ps cut can = run-makes-whole (text-steps last more) t ps cut can

-- for every file that a machine can hold
pub run-gives-gaps : (ps : List (List ℕ)) → Cut (λ t. part_size) (λ t p. tally_for t p room) none ps → length (together ps) < count_limit
    → run room none ps ≡ gaps_of binary32 (together ps)
unfolding gaps_of
run-gives-gaps ps cut small = run-from none ps cut (record { among = omega arith; left = omega (arith, small) })
