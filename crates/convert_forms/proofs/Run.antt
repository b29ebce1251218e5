-- A batch converted part by part comes to what the whole does: what goes to the file and what is told are two runs. Assumes nothing.
use mathlib.Core.Path.{◌≡◌, refl, ◌∙◌}
use mathlib.Core.Bool.{true, false}
use mathlib.Core.List.{List, ◌++◌}
use Prim.Native.Nat.{ℕ, ◌+◌, ◌/◌, ◌≤◌, ◌<◌}
use native.Mathlib.Omega.{arith}
use borrow.Author.Tests.{le-leb, lt-ltb, le-ltb}
use lib.ListN.{length, length-append}
use Rattle.model.specs.Blocks.{blocks}
use Rattle.model.specs.Parts.{part_size, count_limit, together}
use Rattle.model.proofs.Blocks.{blocks-in-two-parts, whole-counted}
use Rattle.runs.specs.Run.{Cut, TextSteps}
use Rattle.runs.proofs.Whole.{run-makes-whole, text-steps}
use Rattle.convert_forms.specs.Convert.{converted, told_from, fits, file_for, text_for, next_count, is_over, file_of, text_of}
use Rattle.convert_forms.proofs.Laws.{converted-append, told-append}

-- every part fills the same room
abbrev pub part_room : ℕ → ℕ
part_room before = part_size

-- blocks of what is still to come can be counted on
abbrev Can : ℕ → List ℕ → Type 0
Can before rest = before + length rest < count_limit

count : (p : List ℕ) → length p ≡ part_size → length (blocks p) ≡ 128
count p full = whole-counted p (rw full) ∙ rw full

-- with room for a whole part and for a number of each of its blocks and a rest
module _ (room text_room : ℕ) (big : part_size ≤ room) (long : 2709 ≤ text_room) where
  fitting : (size before : ℕ) → size ≤ part_size → before < count_limit → fits size room text_room before ≡ true
  fitting size before h small =
      let numbers : size / 512 + 1 ≤ text_room / 21 = omega (arith, h, long) in
      rw (le-leb size room (omega (arith, h, big)), le-leb (size / 512 + 1) (text_room / 21) numbers, lt-ltb before count_limit small)

  abbrev file_by : ℕ → List ℕ → List ℕ
  file_by before part = file_for before part room text_room

  abbrev tell_by : ℕ → List ℕ → List ℕ
  tell_by before part = text_for before part room text_room

  module _ (n : ℕ) (p : List ℕ) where
    module _ (can : Can n p) (short : length p < part_size) where
      fits-short : fits (length p) room text_room n ≡ true
      fits-short = fitting (length p) n (omega (arith, short)) (omega (arith, can))

      last-file : (is_over room text_room n p ≡ true) × (file_by n p ≡ converted (blocks p))
      last-file = rw (fits-short, lt-ltb (length p) part_size short) (refl, refl)

      last-text : (is_over room text_room n p ≡ true) × (tell_by n p ≡ told_from n (blocks p))
      last-text = rw (fits-short, lt-ltb (length p) part_size short) (refl, refl)

    module _ (rest : List ℕ) (can : Can n (p ++ rest)) (full : length p ≡ part_size) where
      fits-full : fits (length p) room text_room n ≡ true
      fits-full = fitting (length p) n (omega (arith, full)) (omega (arith, can))

      goes_on : is_over room text_room n p ≡ false
      goes_on = rw (fits-full, le-ltb (length p) part_size (omega (arith, full)))

      can-on : Can (next_count room text_room n p) rest
      can-on = rw (fits-full, count p full) (omega (arith, can, full, length-append p rest))

      next-file : file_by n p ++ converted (blocks rest) ≡ converted (blocks (p ++ rest))
      next-file = rw (fits-full, blocks-in-two-parts p rest (rw full), converted-append (blocks p) (blocks rest))

      next-text : tell_by n p ++ told_from (next_count room text_room n p) (blocks rest) ≡ told_from n (blocks (p ++ rest))
      next-text = rw (fits-full, blocks-in-two-parts p rest (rw full), told-append n (blocks p) (blocks rest))

  file-steps : TextSteps (next_count room text_room) (is_over room text_room) file_by part_room (λ n b. converted (blocks b)) Can
  file-steps = text-steps last-file (λ n p rest can full. (goes_on n p rest can full, next-file n p rest can full, can-on n p rest can full))

  told-steps : TextSteps (next_count room text_room) (is_over room text_room) tell_by part_room (λ n b. told_from n (blocks b)) Can
  told-steps = text-steps last-text (λ n p rest can full. (goes_on n p rest can full, next-text n p rest can full, can-on n p rest can full))

  -- for every file that a machine can hold
  pub run-converts-whole : (ps : List (List ℕ)) → Cut part_room (next_count room text_room) 0 ps → length (together ps) < count_limit
      → (file_of room text_room 0 ps ≡ converted (blocks (together ps))) × (text_of room text_room 0 ps ≡ told_from 0 (blocks (together ps)))
  run-converts-whole ps cut small =
      (run-makes-whole file-steps 0 ps cut (omega (arith, small)), run-makes-whole told-steps 0 ps cut (omega (arith, small)))
