-- A text read byte by byte; read in parts it is read as the whole. Assumes nothing.
use mathlib.Core.Path.{◌≡◌, refl, sym, ap, ◌∙◌}
use mathlib.Core.Bool.{true, false}
use mathlib.Core.List.{List, [], ◌∷◌, ◌++◌}
use Prim.Native.Nat.{ℕ, ◌+◌, ◌≤◌, ◌<◌}
use native.Mathlib.Omega.{arith}
use native.Mathlib.Nat.{le_antisymm}
use native.Mathlib.Numerals.{add-one}
use borrow.Author.Tests.{lt-ltb, le-ltb}
use lib.Ieee.{Float}
use lib.ListN.{length, drop, get_or}
use lib.Seq.{drop-cons, drop-length}
use Rattle.model.specs.Parts.{together}
use Rattle.runs.specs.Run.{Cut, TextSteps}
use Rattle.runs.proofs.Whole.{run-makes-whole, text-steps}
use Rattle.route_read.specs.declared.Reader.{Reader}
use Rattle.route_read.specs.Read.{Run, run, byte_more, run_over, reader_after, floats_after, lengths_of, IsRun, is_last, tell_by, text_by}

pub read-in-two-parts : (s : Run) (xs ys : List ℕ) → run_over s (xs ++ ys) ≡ run_over (run_over s xs) ys
unfolding run_over
read-in-two-parts s [] ys = refl
read-in-two-parts s (x ∷ xs) ys = read-in-two-parts (byte_more s x) xs ys

-- one byte more
next-byte : (s : Run) (x : ℕ) (xs : List ℕ) → run_over s (x ∷ xs) ≡ run_over (byte_more s x) xs
unfolding run_over
next-byte s x xs = refl

pub read-on : (part : List ℕ) (i : ℕ) (r r' : Reader) (floats floats' : List Float) (lengths lengths' : List ℕ) → i < length part →
    r' ≡ reader_after (get_or part i 0) r floats lengths → floats' ≡ floats_after (get_or part i 0) r floats → lengths' ≡ lengths_of (get_or part i 0) r lengths →
    run_over (run r' floats' lengths') (drop (i + 1) part) ≡ run_over (run r floats lengths) (drop i part)
read-on part i r r' floats floats' lengths lengths' more a b c =
    rw (a, b, c, drop-cons part i 0 more, add-one i) (sym (next-byte (run r floats lengths) (get_or part i 0) _))

-- no byte is left
nothing_left : (s : Run) → run_over s [] ≡ s
unfolding run_over
nothing_left s = refl

pub read_whole : (part : List ℕ) (i : ℕ) (s : Run) (r : Reader) (floats : List Float) (lengths : List ℕ) → i ≤ length part → length part ≤ i →
    run_over (run r floats lengths) (drop i part) ≡ s → IsRun s r floats lengths
read_whole part i s r floats lengths most over e =
    let all : i ≡ length part = le_antisymm most over in
    let none : drop i part ≡ [] = rw all (drop-length part) in
    let same : run r floats lengths ≡ s = sym (nothing_left (run r floats lengths)) ∙ rw none at e in
    record { stands = ap (λ (t : Run). t.reader) same; numbers = ap (λ (t : Run). t.floats) same; outlines = ap (λ (t : Run). t.lengths) same }

-- ---- part by part
module _ (size : ℕ) (answer : Run → List ℕ) where
  abbrev pub part_room : Run → ℕ
  part_room s = size

  abbrev Can : Run → List ℕ → Type 0
  Can s rest = Unit {0}

  last : (s : Run) (p : List ℕ) → Can s p → length p < size → (is_last size answer s p ≡ true) × (tell_by size answer s p ≡ answer (run_over s p))
  last s p can short = rw (lt-ltb (length p) size short) (refl, refl)

  more : (s : Run) (p rest : List ℕ) → Can s (p ++ rest) → length p ≡ size
      → (is_last size answer s p ≡ false) × (tell_by size answer s p ++ answer (run_over (run_over s p) rest) ≡ answer (run_over s (p ++ rest)))
      × Can (run_over s p) rest
  more s p rest can full = rw (le-ltb (length p) size (omega (arith, full)), read-in-two-parts s p rest) (refl, refl, tt)

  steps : TextSteps run_over (is_last size answer) (tell_by size answer) part_room (λ s b. answer (run_over s b)) Can
  steps = text-steps last more

  -- a text read in such parts is told as one
  pub run-reads-whole : (s : Run) (ps : List (List ℕ)) → Cut part_room run_over s ps → text_by size answer s ps ≡ answer (run_over s (together ps))
  run-reads-whole s ps cut = run-makes-whole steps s ps cut tt
