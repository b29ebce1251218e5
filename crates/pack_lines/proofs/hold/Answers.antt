-- `pack_lines::hold` meets its contract: a store behind the line is one byte more. Assumes nothing.
use Rattle.pack_lines.proofs.Holding.{hold-more, hold-full}
use borrow.Author.Rules.{rules}
use Rattle.pack_lines.proofs.hold.Goals as goal

pub returns-then-size-lt855 : goal.returns-then-size-lt855
returns-then-size-lt855 c = (hold-more _ _ _ c.requires.0 c.if-size-lt855.true, search rules)

pub returns : goal.returns
returns c = (hold-full _ _ _ c.requires.0 c.if-size-lt855.false c.requires.1, c.requires.1)
