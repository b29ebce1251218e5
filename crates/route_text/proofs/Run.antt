-- The answer of a text that is read part by part is that of the whole text. Assumes nothing.
use mathlib.Core.Path.{◌≡◌, ◌∙◌}
use mathlib.Core.List.{List}
use Prim.Native.Nat.{ℕ, ◌≤◌}
use borrow.Author.Tests.{le-ltb}
use lib.Ieee.{Float}
use Rattle.model.specs.Parts.{together}
use Rattle.runs.specs.Run.{Cut}
use Rattle.route_read.specs.Read.{Run, run, no_text, run_over}
use Rattle.route_read.proofs.Runs.{run-reads-whole}
use Rattle.route_text.specs.Answer.{longest_line, text_for, answer_of, answer_text, answer_by}

-- with room for the longest line
told : (s : Run) (room : ℕ) → longest_line ≤ room → text_for s.reader s.floats s.lengths room ≡ answer_of s.reader s.floats s.lengths
told s room long = rw (le-ltb room longest_line long)

pub run-answers-whole : (size room : ℕ) → longest_line ≤ room → (floats : List Float) (lengths : List ℕ) (ps : List (List ℕ))
    → Cut (λ (s : Run). size) run_over (run no_text floats lengths) ps → answer_by size room floats lengths ps ≡ answer_text floats lengths (together ps)
run-answers-whole size room long floats lengths ps cut =
    let start = run no_text floats lengths in
    run-reads-whole size (λ s. text_for s.reader s.floats s.lengths room) start ps cut ∙ told (run_over start (together ps)) room long
