-- Written by tests/written/wide.py from list_calls, in f64.
-- A list whose every place is stored to, one after the other, is the list of what was stored. Assumes nothing.
use mathlib.Core.Path.{◌≡◌, sym, ◌∙◌}
use mathlib.Core.List.{List, [], ◌∷◌, ◌++◌, append-nil, append_assoc}
use Prim.Native.Nat.{ℕ, suc, ◌+◌}
use native.Mathlib.Omega.{arith}
use lib.ListN.{length, take, set, length-set}
use lib.Seq.{take-length, take-suc-set}

module _ {A : Type 0} where
  pub take_all : (k : ℕ) (s : List A) → length s ≡ k → take k s ≡ s
  take_all k s e = rw (← e) (take-length s)

  -- the elements of a list, from place i on
  unfoldable pub stored : List A → ℕ → List A → List A
  stored s i [] = s
  stored s i (x ∷ xs) = stored (set s i x) (suc i) xs

  stored-from : (s : List A) (i : ℕ) (new : List A) → length s ≡ i + length new → stored s i new ≡ take i s ++ new
  unfolding stored
  stored-from s i [] h = sym (append-nil _ ∙ take_all i s (omega arith))
  stored-from s i (x ∷ xs) h =
      stored-from (set s i x) (suc i) xs (omega (arith, length-set s i x)) ∙ rw (take-suc-set s i x (omega arith)) (append_assoc (take i s) (x ∷ []) xs)

  pub filled : (s new : List A) → length s ≡ length new → stored s 0 new ≡ new
  filled s new h = stored-from s 0 new (omega arith)
