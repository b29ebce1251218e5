-- `near` meets its contract: the corrected guess is the root, cut to a whole number, or one less, and the last test settles which whole number
-- is nearest. Assumes nothing.
use mathlib.Core.Path.{sym, subst}
use Prim.Native.Nat.{ℕ, ◌+◌, ◌/◌}
use native.Mathlib.Omega.{arith}
use Rattle.root_list.proofs.Rule.{Guess, rule}
use Rattle.root.proofs.Halley.{Guessed, Corrected, guessed, rounds-down, rounds-up}
use Rattle.root.proofs.near.Reads as reads
use Rattle.root.proofs.near.Lts as lts
use Rattle.root.proofs.quotient.Reads as quotient-reads
use Rattle.root_guess.proofs.guess.Reads as guess-reads
use Rattle.root.proofs.near.Goals as goal

-- what holds of the number and its stored guess
known : (c : lts.After-guess (guess-reads.Asked, guess-reads.Learnt, quotient-reads.Asked, quotient-reads.Learnt) reads.Pre reads.Post)
    → Guessed c.before.args.n c.guess-g.result
known c =
    let n = c.before.args.n in
    let h = c.before.requires in
    guessed n c.guess-g.result h.0 h.1 (subst (Guess (n / 274877906944)) (sym c.guess-g.ensures) (rule (n / 274877906944) (omega arith)))

-- and of the corrected guess
settled : (c : lts.After-quotient (guess-reads.Asked, guess-reads.Learnt, quotient-reads.Asked, quotient-reads.Learnt) reads.Pre reads.Post)
    → Corrected c.before.before.args.n (c.before.guess-g.result + c.quotient.result)
settled c = subst (λ (q : ℕ). Corrected c.before.before.args.n (c.before.guess-g.result + q)) (sym c.quotient.ensures) (known c.before).corrects

pub overflow_cast-g : goal.overflow_cast-g
overflow_cast-g c = let k = known c in omega arith

pub overflow_mul-square : goal.overflow_mul-square
overflow_mul-square c = let k = known c in record { fits = omega arith }

pub overflow_mul-g : goal.overflow_mul-g
overflow_mul-g c = let k = known c in omega arith

pub overflow_sub-n : goal.overflow_sub-n
overflow_sub-n c = let k = known c in omega arith

pub overflow_mul-g-2 : goal.overflow_mul-g-2
overflow_mul-g-2 c = let k = known c in record { fits = omega arith }

pub overflow_mul-square-2 : goal.overflow_mul-square-2
overflow_mul-square-2 c = let k = known c in omega arith

pub overflow_add-square : goal.overflow_add-square
overflow_add-square c = let k = known c in omega arith

pub quotient-requires : goal.quotient-requires
quotient-requires c = let k = known c in (omega arith, omega arith, omega arith)

pub overflow_add-s : goal.overflow_add-s
overflow_add-s c = let k = settled c in omega arith

pub overflow_mul-s : goal.overflow_mul-s
overflow_mul-s c = let k = settled c in record { fits = omega arith }

pub overflow_sub-n-2 : goal.overflow_sub-n-2
overflow_sub-n-2 c = let k = settled c in omega arith

pub overflow_add-result : goal.overflow_add-result
overflow_add-result c = let k = settled c.before in omega arith

pub returns-then-s-n : goal.returns-then-s-n
returns-then-s-n c = let k = settled c.before in sym (rounds-up _ _ k.s-under k.s-near (omega arith))

pub returns-else-s-n : goal.returns-else-s-n
returns-else-s-n c = let k = settled c.before in sym (rounds-down _ _ k.s-under (omega arith))
