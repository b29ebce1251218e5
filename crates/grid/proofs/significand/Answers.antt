-- `significand` meets its contract. Assumes nothing.
use native.Mathlib.Omega.{arith}
use Prim.Native.Nat.{◌%◌}
use borrow.Author.Rules.{rules}
use Rattle.grid.specs.Units.{field}
use Rattle.grid.proofs.Shifts.{no_lead, lead}
use Rattle.grid.proofs.significand.Goals as goal

pub returns-then-x-eq0 : goal.returns-then-x-eq0
returns-then-x-eq0 c = let b = c.args.bits in (omega (arith, no_lead (field b) (b % 8388608) (omega arith)), omega arith)

pub returns-else-x-eq0 : goal.returns-else-x-eq0
returns-else-x-eq0 c = let b = c.args.bits in (omega (arith, lead (field b) (b % 8388608) (omega arith)), omega arith)
