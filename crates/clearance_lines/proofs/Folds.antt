-- Answers in two parts: their lines, their totals, and what they answer. Every block is clear, touching, open or refused. Assumes nothing.
use mathlib.Core.Path.{◌≡◌, refl, sym, ap}
use mathlib.Core.List.{List, [], ◌∷◌, ◌++◌, append_assoc}
use Prim.Native.Nat.{ℕ, suc, ◌+◌}
use native.Mathlib.Omega.{arith}
use lib.ListN.{length}
use Rattle.model.specs.declared.Totals.{Totals}
use Rattle.model.proofs.Sheet.{Sums}
use Rattle.clearance_call.specs.declared.Cleared.{Cleared}
use Rattle.clearance_call.specs.declared.Cleared.TheVariants.{Refused, Clear, Touch, Open}
use Rattle.clearance_block.specs.declared.BlockCleared.{BlockCleared}
use Rattle.clearance_block.specs.Answer.{AnswersOf}
use Rattle.clearance_lines.specs.Lines.{line_of, lines_from, counted, totals_from}

pub lines-append : (n : ℕ) (xs ys : List BlockCleared) → lines_from n (xs ++ ys) ≡ lines_from n xs ++ lines_from (n + length xs) ys
unfolding lines_from
lines-append n [] ys = let e : n + 0 ≡ n = omega arith in rw e
lines-append n (x ∷ xs) ys =
    let e : n + 1 + length xs ≡ n + suc (length xs) = omega arith in
    rw (lines-append (n + 1) xs ys, e) (sym (append_assoc (line_of (n + 1) x) _ _))

pub totals-append : (t : Totals) (xs ys : List BlockCleared) → totals_from t (xs ++ ys) ≡ totals_from (totals_from t xs) ys
unfolding totals_from
totals-append t [] ys = refl
totals-append t (x ∷ xs) ys = totals-append (counted t x.answer) xs ys

pub answers-append : (bs cs : List (List ℕ)) (xs ys : List BlockCleared) → AnswersOf bs xs → AnswersOf cs ys → AnswersOf (bs ++ cs) (xs ++ ys)
unfolding AnswersOf
answers-append [] cs [] ys p q = q
answers-append [] cs (x ∷ xs) ys p q = absurd p
answers-append (b ∷ bs) cs [] ys p q = absurd p
answers-append (b ∷ bs) cs (x ∷ xs) ys p q = (p.0, answers-append bs cs xs ys p.1 q)

-- one for each block
pub as_many : (bs : List (List ℕ)) (xs : List BlockCleared) → AnswersOf bs xs → length xs ≡ length bs
unfolding AnswersOf
as_many [] [] p = refl
as_many [] (x ∷ xs) p = absurd p
as_many (b ∷ bs) [] p = absurd p
as_many (b ∷ bs) (x ∷ xs) p = ap suc (as_many bs xs p.1)

-- ---- every block is counted once
one-counted : (t : Totals) (x : Cleared) → (counted t x).blocks ≡ t.blocks + 1
one-counted t (Refused number) = refl
one-counted t (Clear pieces) = refl
one-counted t (Touch u v pieces) = refl
one-counted t (Open u pieces) = refl

pub blocks-counted : (t : Totals) (xs : List BlockCleared) → (totals_from t xs).blocks ≡ t.blocks + length xs
unfolding totals_from
blocks-counted t [] = omega arith
blocks-counted t (x ∷ xs) = omega (arith, blocks-counted (counted t x.answer) xs, one-counted t x.answer)

one-sums : (t : Totals) (x : Cleared) → Sums t → Sums (counted t x)
one-sums t (Refused number) h = omega arith
one-sums t (Clear pieces) h = omega arith
one-sums t (Touch u v pieces) h = omega arith
one-sums t (Open u pieces) h = omega arith

-- blocks = clear + touch + open + refused, after any answers
pub totals-add-up : (t : Totals) (xs : List BlockCleared) → Sums t → Sums (totals_from t xs)
unfolding totals_from
totals-add-up t [] h = h
totals-add-up t (x ∷ xs) h = totals-add-up (counted t x.answer) xs (one-sums t x.answer h)
