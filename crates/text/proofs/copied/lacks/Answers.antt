-- `text::copied::lacks` meets its contract: a place past the end has no room at all. Assumes nothing.
use mathlib.Core.Path.{◌≡◌, refl, sym}
use mathlib.Core.Bool.{Bool, true, false}
use Prim.Native.Nat.{ℕ, ◌+◌, ◌-◌, ◌≤◌}
use native.Mathlib.Omega.{arith}
use borrow.Author.Tests.{lt-ltb, le-ltb, ltb-true, ltb-false}
use lib.Dec.{ltb}
use borrow.Author.Rules.{rules}
use Rattle.text.proofs.copied.lacks.Goals as goal

room : (size at n : ℕ) → at ≤ size → ltb (size - at) n ≡ ltb size (at + n)
room size at n inside = go (ltb (size - at) n) refl
  where
    go : (b : Bool) → ltb (size - at) n ≡ b → b ≡ ltb size (at + n)
    go true e = sym (lt-ltb size (at + n) (omega (arith, ltb-true (size - at) n e)))
    go false e = sym (le-ltb size (at + n) (omega (arith, ltb-false (size - at) n e)))

pub returns-then-size-at : goal.returns-then-size-at
returns-then-size-at c = sym (lt-ltb c.args.size (c.args.at + c.args.n) (search rules))

pub returns : goal.returns
returns c = room _ _ _ c.if-size-at.false
