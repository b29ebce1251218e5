-- Answers in two parts: their lines, their totals, and what they answer. No more are refused than there are blocks. Assumes nothing.
use mathlib.Core.Path.{◌≡◌, refl, sym, ap}
use mathlib.Core.List.{List, [], ◌∷◌, ◌++◌, append_assoc}
use Prim.Native.Nat.{ℕ, suc, ◌+◌, ◌≤◌}
use native.Mathlib.Omega.{arith}
use mathlib.Core.Bool.{Bool, true, false, cond}
use Rattle.std.proofs.Common.{is_err}
use lib.ListN.{length}
use Rattle.rooms_lines.specs.declared.part.Tally.{Tally}
use Rattle.rooms_block.specs.Answer.{BlockRooms, AnswersOf}
use Rattle.rooms_lines.specs.Lines.{line_of, lines_from, counted, totals_from}

pub lines-append : (n : ℕ) (xs ys : List BlockRooms) → lines_from n (xs ++ ys) ≡ lines_from n xs ++ lines_from (n + length xs) ys
unfolding lines_from
lines-append n [] ys = let e : n + 0 ≡ n = omega arith in rw e
lines-append n (x ∷ xs) ys =
    let e : n + 1 + length xs ≡ n + suc (length xs) = omega arith in
    rw (lines-append (n + 1) xs ys, e) (sym (append_assoc (line_of (n + 1) x) _ _))

pub totals-append : (t : Tally) (xs ys : List BlockRooms) → totals_from t (xs ++ ys) ≡ totals_from (totals_from t xs) ys
unfolding totals_from
totals-append t [] ys = refl
totals-append t (x ∷ xs) ys = totals-append (counted t x) xs ys

pub answers-append : (bs cs : List (List ℕ)) (xs ys : List BlockRooms) → AnswersOf bs xs → AnswersOf cs ys → AnswersOf (bs ++ cs) (xs ++ ys)
unfolding AnswersOf
answers-append [] cs [] ys p q = q
answers-append [] cs (x ∷ xs) ys p q = absurd p
answers-append (b ∷ bs) cs [] ys p q = absurd p
answers-append (b ∷ bs) cs (x ∷ xs) ys p q = (p.0, answers-append bs cs xs ys p.1 q)

-- one for each block
pub as_many : (bs : List (List ℕ)) (xs : List BlockRooms) → AnswersOf bs xs → length xs ≡ length bs
unfolding AnswersOf
as_many [] [] p = refl
as_many [] (x ∷ xs) p = absurd p
as_many (b ∷ bs) [] p = absurd p
as_many (b ∷ bs) (x ∷ xs) p = ap suc (as_many bs xs p.1)

-- ---- every block is counted once
pub blocks-counted : (t : Tally) (xs : List BlockRooms) → (totals_from t xs).blocks ≡ t.blocks + length xs
unfolding totals_from
blocks-counted t [] = omega arith
blocks-counted t (x ∷ xs) = omega (arith, blocks-counted (counted t x) xs)

one_more : (c : Bool) (r b : ℕ) → r ≤ b → cond c (r + 1) r ≤ b + 1
one_more true r b h = omega arith
one_more false r b h = omega arith

-- no more are refused than there are, after any answers
pub no-more-refused : (t : Tally) (xs : List BlockRooms) → t.refused ≤ t.blocks → (totals_from t xs).refused ≤ (totals_from t xs).blocks
unfolding totals_from
no-more-refused t [] h = h
no-more-refused t (x ∷ xs) h = no-more-refused (counted t x) xs (one_more (is_err x) t.refused t.blocks h)
