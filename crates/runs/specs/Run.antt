-- A run over the parts of a file. It goes from state to state, one part a step; a step can end it, and what a run comes to is put together from what
-- its steps come to. A program is an instance: its state, the room for the next part, what a step does.
use Rattle.std.specs.Prelude.{◌≡◌, ℕ, ◌<◌, Bool, cond, List, [], ◌∷◌, ◌++◌, length}

-- ---- how a program cuts its input: each part fills the room that there is for it, but for the last, which is shorter
module _ {S : Type 0} (room : S → ℕ) (next : S → List ℕ → S) where
  unfoldable pub Cut : S → List (List ℕ) → Type 0
  Cut s [] = ⊥
  Cut s (p ∷ []) = length p < room s
  Cut s (p ∷ q ∷ r) = (length p ≡ room s) × Cut (next s p) (q ∷ r)

-- ---- a run: after a part it is over, and comes to what that step comes to, or it goes on, and the step puts its own in front
module _ {S O : Type 0} (next : S → List ℕ → S) (over : S → List ℕ → Bool) (ends : S → List ℕ → O) (adds : S → List ℕ → O → O) (nothing : O) where
  unfoldable pub run : S → List (List ℕ) → O
  run s [] = nothing
  run s (p ∷ ps) = cond (over s p) (ends s p) (adds s p (run (next s p) ps))

  -- what a step has to be for a run to come to a whole: Can says of a state that a file can still be worked from there
  pub record Steps (room : S → ℕ) (whole : S → List ℕ → O) (Can : S → List ℕ → Type 0) : Type 0 where
    pub last : (s : S) (p : List ℕ) → Can s p → length p < room s → cond (over s p) (ends s p) (adds s p nothing) ≡ whole s p
    pub more : (s : S) (p rest : List ℕ) → Can s (p ++ rest) → length p ≡ room s
        → cond (over s p) (ends s p) (adds s p (whole (next s p) rest)) ≡ whole s (p ++ rest)
    pub on : (s : S) (p rest : List ℕ) → Can s (p ++ rest) → length p ≡ room s → Can (next s p) rest

-- ---- the usual run: each step gives a text
module _ {S : Type 0} (next : S → List ℕ → S) (over : S → List ℕ → Bool) (text : S → List ℕ → List ℕ) where
  abbrev pub text_run : S → List (List ℕ) → List ℕ
  text_run = run next over text (λ s p t. text s p ++ t) []

  abbrev pub TextSteps : (S → ℕ) → (S → List ℕ → List ℕ) → (S → List ℕ → Type 0) → Type 0
  TextSteps = Steps next over text (λ s p t. text s p ++ t) []
