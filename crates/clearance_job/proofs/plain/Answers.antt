-- A zero with a sign is worth what one without is. Assumes nothing.
use mathlib.Core.Path.{refl, sym, ◌∙◌}
use native.Mathlib.Omega.{arith}
use lib.Ieee.{binary32, to_bits}
use Rattle.clearance_job.proofs.Patterns.{fraction-pattern}
use Rattle.clearance_job.proofs.Laws.{plain-zero}
use borrow.Author.Rules.{rules}
use Rattle.clearance_job.proofs.plain.Goals as goal

pub returns-then-to_bits-eq2147483648 : goal.returns-then-to_bits-eq2147483648
returns-then-to_bits-eq2147483648 c = let z = plain-zero c.args.x (sym c.to_bits.ensures ∙ c.if-to_bits-eq2147483648.true) in
    (z.0, λ h k. omega (arith, z.1))

pub returns : goal.returns
returns c = let b = c.to_bits in
    (refl, λ h k. fraction-pattern (to_bits binary32 c.args.x) (omega (arith, b.ensures)) (λ e. c.if-to_bits-eq2147483648.false (b.ensures ∙ e)) h k)
