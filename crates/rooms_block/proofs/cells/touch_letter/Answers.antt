-- `rooms_block::cells::touch_letter` meets its contract, by its two tests. Assumes nothing.
use mathlib.Core.Path.{ap, ◌∙◌}
use lib.Ieee.{binary32, of_bits}
use borrow.Author.Tests.{lt-ltb, le-ltb}
use borrow.Author.Rules.{rules}
use Rattle.rooms_block.proofs.cells.touch_letter.Goals as goal

pub returns-then-place-gt16777216 : goal.returns-then-place-gt16777216
returns-then-place-gt16777216 c = rw (lt-ltb _ _ c.if-place-gt16777216.true)

pub returns-then-from-next : goal.returns-then-from-next
returns-then-from-next c = let next = c.from_bits-next.ensures ∙ ap (of_bits binary32) c.place_bits.ensures in
    rw (le-ltb _ _ c.if-place-gt16777216.false, ← next, c.if-from-next.true)

pub returns-else-from-next : goal.returns-else-from-next
returns-else-from-next c = let next = c.from_bits-next.ensures ∙ ap (of_bits binary32) c.place_bits.ensures in
    rw (le-ltb _ _ c.if-place-gt16777216.false, ← next, c.if-from-next.false)
