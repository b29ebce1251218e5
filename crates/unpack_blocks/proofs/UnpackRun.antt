-- Blocks unpacked part by part come to what the whole file does: lines and refusals are two runs. Assumes nothing.
use mathlib.Core.Path.{◌≡◌, refl, sym, ap, ◌∙◌}
use mathlib.Core.Bool.{Bool, true, false, cond}
use mathlib.Core.List.{List, [], ◌∷◌, ◌++◌, append-nil}
use Prim.Native.Nat.{ℕ, ◌+◌, ◌/◌, ◌%◌, ◌≤◌, ◌<◌}
use native.Mathlib.Omega.{arith}
use Rattle.std.proofs.Math.Nat.{min-eq_left}
use borrow.Author.Tests.{eqb-true, eqb-false, lt-ltb, le-ltb}
use lib.Dec.{eqb}
use lib.ListN.{length, length-append}
use Rattle.model.specs.Blocks.{whole_blocks, blocks}
use Rattle.model.specs.Parts.{count_limit, together}
use Rattle.model.proofs.Blocks.{blocks-in-two-parts, blocks-counted, rest_of, rest-short, all_whole, rest-last}
use Rattle.runs.specs.Run.{Cut, TextSteps}
use Rattle.runs.proofs.Whole.{run-makes-whole, text-steps}
use Rattle.job_text.specs.Room.{refusal, refusal_room}
use Rattle.job_text.specs.Job.{longest_line}
use Rattle.unpack_blocks.specs.Unpack.{lines_of, refusals_of, used_blocks, unpack_out, unpack_told, next_count, is_last, write_by, tell_by, out_by, told_by}
use Rattle.unpack_blocks.proofs.Blocks.{lines-append, refusals-append}

-- ---- the blocks of a file are its whole ones and a rest, which has no line and is refused by 9
module _ (b : List ℕ) where
  abbrev k : ℕ
  k = length b / 512

  rest-line : lines_of (rest_of b ∷ []) ≡ []
  unfolding lines_of
  rest-line = rw (rest-short b)

  rest-refusal : (m : ℕ) → refusals_of m (rest_of b ∷ []) ≡ refusal (m + 1) 9
  unfolding refusals_of
  rest-refusal m = rw (rest-short b) (append-nil (refusal (m + 1) 9))

  lines-whole : lines_of (whole_blocks k b) ≡ lines_of (blocks b)
  lines-whole = go (eqb (length b % 512) 0) refl
    where
      go : (t : Bool) → eqb (length b % 512) 0 ≡ t → lines_of (whole_blocks k b) ≡ lines_of (blocks b)
      go true e = ap lines_of (sym (all_whole b (eqb-true (length b % 512) 0 e)))
      go false e =
          sym (ap lines_of (rest-last b (eqb-false (length b % 512) 0 e)) ∙ lines-append (whole_blocks k b) (rest_of b ∷ [])
          ∙ rw rest-line (append-nil (lines_of (whole_blocks k b))))

  refusals-whole : (n : ℕ) → refusals_of n (whole_blocks k b) ++ cond (eqb (length b % 512) 0) [] (refusal (n + k + 1) 9) ≡ refusals_of n (blocks b)
  refusals-whole n = go (eqb (length b % 512) 0) refl
    where
      go : (t : Bool) → eqb (length b % 512) 0 ≡ t → refusals_of n (whole_blocks k b) ++ cond t [] (refusal (n + k + 1) 9) ≡ refusals_of n (blocks b)
      go true e = append-nil (refusals_of n (whole_blocks k b)) ∙ ap (refusals_of n) (sym (all_whole b (eqb-true (length b % 512) 0 e)))
      go false e =
          sym (ap (refusals_of n) (rest-last b (eqb-false (length b % 512) 0 e)) ∙ refusals-append n (whole_blocks k b) (rest_of b ∷ [])
          ∙ rw (blocks-counted k b, rest-refusal (n + k)))

-- blocks of what is still to come can be counted on
abbrev Can : ℕ → List ℕ → Type 0
Can before rest = before + length rest < count_limit

-- ---- parts of whole blocks, with room for all that they come to
module _ (size room err_room : ℕ) (whole : size % 512 ≡ 0) (lines : size / 512 ≤ room / longest_line) (refusals : size / 512 ≤ err_room / refusal_room)
    (one : refusal_room ≤ err_room) where
  abbrev pub part_room : ℕ → ℕ
  part_room before = size

  all-used : (n : ℕ) (p : List ℕ) → length p ≤ size → n < count_limit → used_blocks n p room err_room ≡ length p / 512
  all-used n p inside small =
      let most : length p / 512 ≤ room / longest_line = omega (arith, inside, lines) in
      let told : length p / 512 ≤ err_room / refusal_room = omega (arith, inside, refusals) in
      rw (lt-ltb n count_limit small, min-eq_left most, min-eq_left told)

  module _ (n : ℕ) (p : List ℕ) (can : Can n p) (short : length p < size) where
    used-last : used_blocks n p room err_room ≡ length p / 512
    used-last = all-used n p (omega (arith, short)) (omega (arith, can))

    last_out : (is_last size room err_room n p ≡ true) × (write_by size room err_room n p ≡ lines_of (blocks p))
    last_out = rw (used-last, lt-ltb (length p) size short) (refl, lines-whole p)

    last-told : (is_last size room err_room n p ≡ true) × (tell_by size room err_room n p ≡ refusals_of n (blocks p))
    last-told =
        let counted : n + length p / 512 < count_limit = omega (arith, can) in
        rw (used-last, lt-ltb (length p) size short, lt-ltb (n + length p / 512) count_limit counted, le-ltb err_room refusal_room one) (refl, refusals-whole p n)

  module _ (n : ℕ) (p rest : List ℕ) (can : Can n (p ++ rest)) (full : length p ≡ size) where
    used-full : used_blocks n p room err_room ≡ length p / 512
    used-full = all-used n p (omega (arith, full)) (omega (arith, can))

    all_blocks : length p % 512 ≡ 0
    all_blocks = rw full whole

    in_two : blocks (p ++ rest) ≡ whole_blocks (length p / 512) p ++ blocks rest
    in_two = blocks-in-two-parts p rest all_blocks ∙ ap (λ (l : List (List ℕ)). l ++ blocks rest) (all_whole p all_blocks)

    goes_on : is_last size room err_room n p ≡ false
    goes_on = le-ltb (length p) size (omega (arith, full))

    can-on : Can (next_count size room err_room n p) rest
    can-on = rw used-full (omega (arith, can, length-append p rest))

    next-out : write_by size room err_room n p ++ lines_of (blocks rest) ≡ lines_of (blocks (p ++ rest))
    next-out = rw (used-full, in_two, lines-append (whole_blocks (length p / 512) p) (blocks rest))

    next-told : tell_by size room err_room n p ++ refusals_of (next_count size room err_room n p) (blocks rest) ≡ refusals_of n (blocks (p ++ rest))
    next-told =
        let w = whole_blocks (length p / 512) p in
        rw (goes_on, used-full, in_two, refusals-append n w (blocks rest), blocks-counted (length p / 512) p, append-nil (refusals_of n w))

  out-steps : TextSteps (next_count size room err_room) (is_last size room err_room) (write_by size room err_room) part_room (λ n b. lines_of (blocks b)) Can
  out-steps = text-steps last_out (λ n p rest can full. (goes_on n p rest can full, next-out n p rest can full, can-on n p rest can full))

  told-steps : TextSteps (next_count size room err_room) (is_last size room err_room) (tell_by size room err_room) part_room (λ n b. refusals_of n (blocks b)) Can
  told-steps = text-steps last-told (λ n p rest can full. (goes_on n p rest can full, next-told n p rest can full, can-on n p rest can full))

  -- for every file that a machine can hold
  pub run-unpacks-whole : (ps : List (List ℕ)) → Cut part_room (next_count size room err_room) 0 ps → length (together ps) < count_limit
      → (out_by size room err_room 0 ps ≡ unpack_out (together ps)) × (told_by size room err_room 0 ps ≡ unpack_told (together ps))
  run-unpacks-whole ps cut small = (run-makes-whole out-steps 0 ps cut (omega (arith, small)), run-makes-whole told-steps 0 ps cut (omega (arith, small)))

-- as `unpack` has it: parts of 76 blocks, and a large buffer for either text
pub unpack-run : (ps : List (List ℕ)) → Cut (λ (n : ℕ). 38912) (next_count 38912 65536 65536) 0 ps → length (together ps) < count_limit
    → (out_by 38912 65536 65536 0 ps ≡ unpack_out (together ps)) × (told_by 38912 65536 65536 0 ps ≡ unpack_told (together ps))
unpack-run = run-unpacks-whole 38912 65536 65536 refl (omega arith) (omega arith) (omega arith)
