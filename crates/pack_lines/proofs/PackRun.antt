-- Lines packed part by part come to what the whole text does: blocks and complaints are two runs. Assumes nothing.
use mathlib.Core.Path.{◌≡◌, refl, sym, ap, ◌∙◌}
use mathlib.Core.Bool.{Bool, true, false, cond}
use mathlib.Core.List.{List, [], ◌∷◌, ◌++◌, append-nil, append_assoc}
use Prim.Native.Nat.{ℕ, ◌+◌, ◌/◌, ◌≤◌, ◌<◌}
use native.Mathlib.Omega.{arith}
use Rattle.std.proofs.Math.Nat.{min-eq_left}
use borrow.Author.Tests.{lt-ltb, le-ltb}
use lib.Dec.{eqb}
use lib.ListN.{length, take, drop, replicate, length-append}
use lib.Seq.{take_at, take-length}
use Rattle.model.specs.Parts.{count_limit, together}
use Rattle.runs.specs.Run.{Cut, TextSteps}
use Rattle.runs.proofs.Whole.{run-makes-whole, text-steps}
use Rattle.text.specs.Put.{pasted}
use Rattle.pack_lines.specs.declared.Held.{Held}
use Rattle.job_text.specs.Room.{refusal_room}
use Rattle.job_text.specs.Job.{longest_line}
use Rattle.pack_lines.specs.Pack.{
  packed,
  complaint,
  Run,
  longer,
  line_ended,
  line_on,
  byte_more,
  run_over,
  held_of,
  held_after,
  fresh,
  used_bytes,
  run_in,
  unfinished,
  pack_out,
  pack_told,
  next_held,
  is_last,
  write_by,
  tell_by,
  out_by,
  told_by,
}
use Rattle.pack_lines.proofs.Runs.{starting, run-append}

-- a run behind what another has written
abbrev behind : Run → Run → Run
behind r s = record { out = r.out ++ s.out; told = r.told ++ s.told; line = s.line; lines = s.lines }

behind-byte : (r s : Run) (x : ℕ) → byte_more (behind r s) x ≡ behind r (byte_more s x)
behind-byte r s x = go (eqb x 10)
  where
    l : List ℕ
    l = longer s.line x

    go : (t : Bool) → cond t (line_ended (behind r s) (longer s.line x)) (line_on (behind r s) (longer s.line x))
        ≡ behind r (cond t (line_ended s (longer s.line x)) (line_on s (longer s.line x)))
    go true =
        rw (
          append_assoc r.out s.out (packed (longer s.line x)),
          append_assoc r.told s.told (complaint (s.lines + 1) (longer s.line x)),
        )
    go false = refl

behind-run : (r s : Run) (xs : List ℕ) → run_over (behind r s) xs ≡ behind r (run_over s xs)
unfolding run_over
behind-run r s [] = refl
behind-run r s (x ∷ xs) = ap (λ (q : Run). run_over q xs) (behind-byte r s x) ∙ behind-run r (byte_more s x) xs

part-behind : (r : Run) (xs : List ℕ) → run_over r xs ≡ behind r (run_over (starting r.line r.lines) xs)
part-behind r xs =
    let same : r ≡ behind r (starting r.line r.lines) = rw (append-nil r.out, append-nil r.told) in
    ap (λ (q : Run). run_over q xs) same ∙ behind-run r (starting r.line r.lines) xs

handed-on : (l : List ℕ) → take (length l) (pasted (replicate longest_line 0) 0 l) ≡ l
unfolding pasted
handed-on l = take_at l (drop (0 + length l) (replicate longest_line 0)) (length l) refl

fresh-is : (r : Run) → fresh (held_after r) ≡ starting r.line r.lines
fresh-is r = rw (handed-on r.line)

-- ---- what a text comes to from the line that is held
abbrev out_from : Held → List ℕ → List ℕ
out_from h b = (run_over (fresh h) b).out

abbrev told_from : Held → List ℕ → List ℕ
told_from h b = (run_over (fresh h) b).told ++ unfinished (run_over (fresh h) b)

module _ (r : Run) (rest : List ℕ) where
  later : run_over r rest ≡ behind r (run_over (fresh (held_after r)) rest)
  later = part-behind r rest ∙ ap (λ (q : Run). behind r (run_over q rest)) (sym (fresh-is r))

  out-on : r.out ++ out_from (held_after r) rest ≡ (run_over r rest).out
  out-on = ap (λ (q : Run). q.out) (sym later)

  told-on : r.told ++ told_from (held_after r) rest ≡ (run_over r rest).told ++ unfinished (run_over r rest)
  told-on =
      let s = run_over (fresh (held_after r)) rest in
      sym (append_assoc r.told s.told (unfinished s)) ∙ ap (λ (q : Run). q.told ++ unfinished q) (sym later)

-- ---- a byte ends at most one line
one_more : (r : Run) (x : ℕ) → (byte_more r x).lines ≤ r.lines + 1
one_more r x = go (eqb x 10)
  where
    go : (t : Bool) → (cond t (line_ended r (longer r.line x)) (line_on r (longer r.line x))).lines ≤ r.lines + 1
    go true = omega arith
    go false = omega arith

lines-most : (r : Run) (xs : List ℕ) → (run_over r xs).lines ≤ r.lines + length xs
unfolding run_over
lines-most r [] = omega arith
lines-most r (x ∷ xs) = omega (arith, lines-most (byte_more r x) xs, one_more r x)

-- lines of what is still to come can be counted on
abbrev Can : Held → List ℕ → Type 0
Can h rest = h.lines + length rest < count_limit

-- ---- parts of such a length, with room for all that they come to were each byte to end a line
module _ (size room err_room : ℕ) (blocks : size ≤ room / 512) (refusals : size ≤ err_room / refusal_room) (one : refusal_room ≤ err_room) where
  abbrev pub part_room : Held → ℕ
  part_room h = size

  module _ (h : Held) (p : List ℕ) (inside : length p ≤ size) (small : h.lines < count_limit) where
    all-used : used_bytes h p room err_room ≡ length p
    all-used =
        let most : length p ≤ room / 512 = omega (arith, inside, blocks) in
        let told : length p ≤ err_room / refusal_room = omega (arith, inside, refusals) in
        rw (lt-ltb h.lines count_limit small, min-eq_left most, min-eq_left told)

    run_is : run_in h p room err_room ≡ run_over (fresh h) p
    run_is = ap (λ (n : ℕ). run_over (fresh h) (take n p)) all-used ∙ ap (run_over (fresh h)) (take-length p)

  module _ (h : Held) (p : List ℕ) (can : Can h p) (short : length p < size) where
    last_out : (is_last size room err_room h p ≡ true) × (write_by size room err_room h p ≡ out_from h p)
    last_out = (lt-ltb (length p) size short, ap (λ (q : Run). q.out) (run_is h p (omega (arith, short)) (omega (arith, can))))

    last-told : (is_last size room err_room h p ≡ true) × (tell_by size room err_room h p ≡ told_from h p)
    last-told =
        let ended : (run_over (fresh h) p).lines < count_limit = omega (arith, can, lines-most (fresh h) p) in
        rw (
          run_is h p (omega (arith, short)) (omega (arith, can)),
          lt-ltb (length p) size short,
          lt-ltb (run_over (fresh h) p).lines count_limit ended,
          le-ltb err_room refusal_room one,
        ) (refl, refl)

  module _ (h : Held) (p rest : List ℕ) (can : Can h (p ++ rest)) (full : length p ≡ size) where
    whole_run : run_in h p room err_room ≡ run_over (fresh h) p
    whole_run = run_is h p (omega (arith, full)) (omega (arith, can))

    goes_on : is_last size room err_room h p ≡ false
    goes_on = le-ltb (length p) size (omega (arith, full))

    can-on : Can (next_held size room err_room h p) rest
    can-on = rw whole_run (omega (arith, can, lines-most (fresh h) p, length-append p rest))

    next-out : write_by size room err_room h p ++ out_from (next_held size room err_room h p) rest ≡ out_from h (p ++ rest)
    next-out =
        ap (λ (q : Run). q.out ++ out_from (held_after q) rest) whole_run
        ∙ out-on (run_over (fresh h) p) rest
        ∙ ap (λ (q : Run). q.out) (sym (run-append (fresh h) p rest))

    next-told : tell_by size room err_room h p ++ told_from (next_held size room err_room h p) rest ≡ told_from h (p ++ rest)
    next-told =
        rw (goes_on, whole_run, run-append (fresh h) p rest, append-nil (run_over (fresh h) p).told) (told-on (run_over (fresh h) p) rest)

  out-steps : TextSteps (next_held size room err_room) (is_last size room err_room) (write_by size room err_room) part_room out_from Can
  out-steps = text-steps last_out (λ h p rest can full. (goes_on h p rest can full, next-out h p rest can full, can-on h p rest can full))

  told-steps : TextSteps (next_held size room err_room) (is_last size room err_room) (tell_by size room err_room) part_room told_from Can
  told-steps = text-steps last-told (λ h p rest can full. (goes_on h p rest can full, next-told h p rest can full, can-on h p rest can full))

  abbrev start : Held
  start = held_of [] 0

  -- for every text that a machine can hold
  pub run-packs-whole : (ps : List (List ℕ)) → Cut part_room (next_held size room err_room) start ps → length (together ps) < count_limit
      → (out_by size room err_room start ps ≡ pack_out (together ps)) × (told_by size room err_room start ps ≡ pack_told (together ps))
  run-packs-whole ps cut small = (run-makes-whole out-steps start ps cut (omega (arith, small)), run-makes-whole told-steps start ps cut (omega (arith, small)))

-- as `pack` has it: parts of 128 bytes, and a large buffer for either text
pub pack-run : (ps : List (List ℕ)) → Cut (λ (h : Held). 128) (next_held 128 65536 65536) (held_of [] 0) ps → length (together ps) < count_limit
    → (out_by 128 65536 65536 (held_of [] 0) ps ≡ pack_out (together ps)) × (told_by 128 65536 65536 (held_of [] 0) ps ≡ pack_told (together ps))
pack-run = run-packs-whole 128 65536 65536 (omega arith) (omega arith) (omega arith)
