-- `route_read::keep_length` meets its contract, by its tests. Assumes nothing.
use borrow.Author.Rules.{rules}
use borrow.Author.Tests.{lt-ltb, le-ltb}
use mathlib.Core.Path.{refl, sym}
use lib.Seq.{set_out}
use Rattle.route_read.proofs.keep_length.Goals as goal

pub returns-then-outlines-lengths : goal.returns-then-outlines-lengths
returns-then-outlines-lengths c = rw (le-ltb _ _ c.if-outlines-lengths.true) (refl, sym (set_out _ _ _ c.if-outlines-lengths.true))

pub returns : goal.returns
returns c = rw (lt-ltb _ _ c.if-outlines-lengths.false) (refl, refl)
