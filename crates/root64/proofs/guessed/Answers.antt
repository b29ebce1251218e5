-- `guessed` meets its contract. Assumes nothing.
use Rattle.std.proofs.Common.{◌≡◌, ℕ, ◌+◌, ◌*◌, ◌<◌, ◌≤◌, sym, subst, arith}
use lib.Ieee.{binary64, of_bits}
use Rattle.model.specs.Root.{root}
use Rattle.model.proofs.Bits.{not-nan}
use Rattle.model.proofs.Root.Floor.{near_root}
use Rattle.root64.proofs.Single.{half, wide, wide-small, rooted-by-halves}
use Rattle.root64.proofs.guessed.Goals as goal

-- the root's pattern, where the whole number behind it was found
told : (b r : ℕ) → 4503599627370496 ≤ b → b < 9218868437227405312 → (0 < r → r ≡ near_root (wide b * 4503599627370496)) → 0 < r → (half b + r < 9218868437227405312) × (of_bits binary64 (half b + r) ≡ root binary64 (of_bits binary64 b))
told b r lo hi e z = subst (λ (n : ℕ). (half b + n < 9218868437227405312) × (of_bits binary64 (half b + n) ≡ root binary64 (of_bits binary64 b))) (sym (e z)) (rooted-by-halves b lo hi)

pub returns-then-y : goal.returns-then-y
returns-then-y c = λ z. absurd (omega arith)

pub float_to_bits-bits : goal.float_to_bits-bits
float_to_bits-bits c = not-nan _ c.if-y.false

pub behind-r-requires : goal.behind-r-requires
behind-r-requires c = (wide-small c.args.b, omega arith)

pub returns-then-r-eq0 : goal.returns-then-r-eq0
returns-then-r-eq0 c = λ z. absurd (omega arith)

pub overflow_add-result : goal.overflow_add-result
overflow_add-result c =
    let t = (told c.args.b c.behind-r.result c.requires.0 c.requires.1 c.behind-r.ensures (omega arith)).0 in
    record { fits = omega arith }

pub returns : goal.returns
returns c =
    λ z. told c.args.b c.behind-r.result c.requires.0 c.requires.1 c.behind-r.ensures (omega arith)
