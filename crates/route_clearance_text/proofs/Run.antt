-- What is told of a text that is read part by part is an answer of the whole text, whichever of the answers that may come are told. Assumes nothing.
use mathlib.Core.Path.{sym, subst}
use mathlib.Core.List.{List}
use Prim.Native.Nat.{ℕ}
use lib.Ieee.{Float}
use Rattle.model.specs.Parts.{together}
use Rattle.runs.specs.Run.{Cut}
use Rattle.route_read.specs.Read.{Run, run, no_text, run_over, text_by}
use Rattle.route_read.proofs.Runs.{run-reads-whole}
use Rattle.route_clearance_text.specs.Answer.{AnswerTo}

pub run-answers-whole : (size : ℕ) (tell : Run → List ℕ) → ((s : Run) → AnswerTo s (tell s)) → (floats : List Float) (lengths : List ℕ) (ps : List (List ℕ))
    → Cut (λ (s : Run). size) run_over (run no_text floats lengths) ps
    → AnswerTo (run_over (run no_text floats lengths) (together ps)) (text_by size tell (run no_text floats lengths) ps)
run-answers-whole size tell holds floats lengths ps cut =
    let start = run no_text floats lengths in
    let whole = run_over start (together ps) in
    subst (λ (t : List ℕ). AnswerTo whole t) (sym (run-reads-whole size tell start ps cut)) (holds whole)
