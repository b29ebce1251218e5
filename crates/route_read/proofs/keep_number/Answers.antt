-- `route_read::keep_number` meets its contract, by its tests. Assumes nothing.
use borrow.Author.Rules.{rules}
use borrow.Author.Tests.{lt-ltb, le-ltb}
use mathlib.Core.Path.{refl, sym}
use lib.Seq.{set_out}
use Rattle.route_read.proofs.keep_number.Goals as goal

pub returns-then-before-ge-MOST_WORDS : goal.returns-then-before-ge-MOST_WORDS
returns-then-before-ge-MOST_WORDS c = rw (le-ltb _ _ c.if-before-ge-MOST_WORDS.true) (refl, refl)

pub returns-then-used-floats : goal.returns-then-used-floats
returns-then-used-floats c = rw (lt-ltb _ _ c.if-before-ge-MOST_WORDS.false, le-ltb _ _ c.if-used-floats.true) (refl, sym (set_out _ _ _ c.if-used-floats.true))

pub returns : goal.returns
returns c = rw (lt-ltb _ _ c.if-before-ge-MOST_WORDS.false, lt-ltb _ _ c.if-used-floats.false) (refl, refl)
