-- A run over the parts of a file, cut as a program cuts it, comes to what the whole file does. Assumes nothing.
use mathlib.Core.Path.{◌≡◌, refl, sym, ap, ◌∙◌}
use mathlib.Core.Bool.{Bool, true, false, cond}
use mathlib.Core.List.{List, [], ◌∷◌, ◌++◌, append-nil}
use Prim.Native.Nat.{ℕ, ◌<◌}
use lib.ListN.{length}
use Rattle.model.specs.Parts.{together}
use Rattle.runs.specs.Run.{Cut, run, Steps, TextSteps, text_run}

module _ {S O : Type 0} {next : S → List ℕ → S} {over : S → List ℕ → Bool} {ends : S → List ℕ → O} {adds : S → List ℕ → O → O} {nothing : O}
    {room : S → ℕ} {whole : S → List ℕ → O} {Can : S → List ℕ → Type 0} (steps : Steps next over ends adds nothing room whole Can) where
  pub run-makes-whole : (s : S) (ps : List (List ℕ)) → Cut room next s ps → Can s (together ps)
      → run next over ends adds nothing s ps ≡ whole s (together ps)
  unfolding Cut run together
  run-makes-whole s [] cut can = absurd cut
  run-makes-whole s (p ∷ []) cut can = steps.last s p (rw (append-nil p) at can) cut ∙ ap (whole s) (sym (append-nil p))
  run-makes-whole s (p ∷ q ∷ r) cut can =
      let rest = together (q ∷ r) in
      let later = run-makes-whole (next s p) (q ∷ r) cut.1 (steps.on s p rest can cut.0) in
      ap (λ (o : O). cond (over s p) (ends s p) (adds s p o)) later ∙ steps.more s p rest can cut.0

-- ---- a text: steps by what each gives, where only a part that is too short for its room ends the run
module _ {S : Type 0} {next : S → List ℕ → S} {over : S → List ℕ → Bool} {text : S → List ℕ → List ℕ} {room : S → ℕ} {whole : S → List ℕ → List ℕ}
    {Can : S → List ℕ → Type 0} (last : (s : S) (p : List ℕ) → Can s p → length p < room s → (over s p ≡ true) × (text s p ≡ whole s p))
    (more : (s : S) (p rest : List ℕ) → Can s (p ++ rest) → length p ≡ room s
    → (over s p ≡ false) × (text s p ++ whole (next s p) rest ≡ whole s (p ++ rest)) × Can (next s p) rest) where
  pub text-steps : TextSteps next over text room whole Can
  text-steps = record {
    last = λ s p can short. rw (last s p can short).0 (last s p can short).1;
    more = λ s p rest can full. rw (more s p rest can full).0 (more s p rest can full).1;
    on = λ s p rest can full. (more s p rest can full).2;
  }
