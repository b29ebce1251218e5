-- `text::read::store` meets its contract: a place past the end stores nothing, in the list as in the code. Assumes nothing.
use mathlib.Core.Path.{sym}
use borrow.Author.Tests.{lt-ltb, le-ltb}
use lib.Seq.{set_out}
use Rattle.text.proofs.read.store.Goals as goal

pub returns-then-x-ge48 : goal.returns-then-x-ge48
returns-then-x-ge48 c = rw (le-ltb _ _ c.if-x-ge48.true)

pub returns-then-k-words : goal.returns-then-k-words
returns-then-k-words c = rw (lt-ltb _ _ c.if-x-ge48.false) (sym (set_out _ _ _ c.if-k-words.true))

pub returns : goal.returns
returns c = rw (lt-ltb _ _ c.if-x-ge48.false)
