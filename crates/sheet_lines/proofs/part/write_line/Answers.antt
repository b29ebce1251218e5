-- `sheet_lines::part::write_line` meets its contract: nothing where there is no room, else the line. Assumes nothing.
use borrow.Author.Rules.{rules}
use borrow.Author.Tests.{lt-ltb, le-ltb}
use Rattle.text.proofs.Pasted.{put-nothing}
use Rattle.text.proofs.Written.{left}
use Rattle.sheet_lines.proofs.part.write_line.Goals as goal

pub returns-then-out-lt-LONGEST_LINE : goal.returns-then-out-lt-LONGEST_LINE
returns-then-out-lt-LONGEST_LINE c = simp (lt-ltb _ _ c.if-out-lt-LONGEST_LINE.true) (put-nothing _ _)

pub returns : goal.returns
returns c = simp (le-ltb _ _ c.if-out-lt-LONGEST_LINE.false) (left c.put_answer.ensures (search rules))
