-- Written by tests/written/wide.py from model, in f64.
-- The second index of `support`: the highest one whose value equals the winning value. Beside the first, which stays what it is.
use Rattle.std.specs.Prelude.{◌≡◌, ℕ, zero, suc, ◌+◌, ◌%◌, ◌^◌, ◌≤◌, ◌<◌, true, false, cond, List, [], ◌∷◌, eqb, drop, Float, Result, Ok, Err}
use Rattle.std.specs.Float.{Format}
use Rattle.std.specs.Float.Ieee.{lt, eq}
use Rattle.model64.specs.declared.Vector.{Vector}
use Rattle.model.specs.declared.SupportPair.{SupportPair}
use Rattle.model.specs.declared.Refusal.{Refusal}
use Rattle.model64.specs.Ground.{vector, minus, dot}
use Rattle.model64.specs.Ground as Ground
use Rattle.model.specs.Domain.{numbered}
use Rattle.model64.specs.Domain.{outline_refusal}
use Rattle.model64.specs.Support.{point, support}
pub use Rattle.model.specs.Second.{support_by}

-- Along the points as `support_from` goes: a value above the best so far, or equal to it as floats are, makes its point the second. -0 equals 0, and a
-- NaN nothing.
unfoldable pub second_from : Format → Vector → Vector → List Float → ℕ → ℕ → Float → ℕ
second_from f d o [] i second value = second
second_from f d o (x ∷ []) i second value = second
second_from f d o (x ∷ y ∷ s) i second value =
    let v = dot f d (minus f (vector x y) o) in
    second_from f d o s (i + 1) (cond (lt value v) i (cond (eq v value) i second)) (cond (lt value v) v value)

-- point 0 starts as the second too, with the value 0
abbrev pub second : Format → List Float → Vector → ℕ
second f s d = second_from f d (point s 0) (drop 2 s) 1 0 (Ground.zero f) % 2 ^ 32

abbrev pub pair : ℕ → ℕ → SupportPair
pair i j = record { first = i; second = j }

abbrev pub support_pair : Format → List Float → Vector → SupportPair
support_pair f s d = pair (support f s d) (second f s d)

-- the public answer, for every list and any direction
unfoldable pub support_answer : Format → List Float → Vector → Result SupportPair Refusal
support_answer f s d = support_by (outline_refusal f s) (support_pair f s d)

-- ---- the values: point 0's counts as 0
abbrev pub value_of : Format → List Float → Vector → ℕ → Float
value_of f s d i = cond (eqb i 0) (Ground.zero f) (dot f d (minus f (point s i) (point s 0)))

-- among the first n points: `last` is the highest index whose value equals that of `first`
pub record IsSecond (f : Format) (s : List Float) (d : Vector) (n first last : ℕ) : Type 0 where
  pub equal : eq (value_of f s d last) (value_of f s d first) ≡ true
  pub none-higher : (j : ℕ) → last < j → j < n → eq (value_of f s d j) (value_of f s d first) ≡ false
  pub at_least : first ≤ last
  pub inside : last < n
