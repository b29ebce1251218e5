-- `route_line::line_after` meets its contract, by its tests. Assumes nothing.
use borrow.Author.Rules.{rules}
use borrow.Author.Tests.{lt-ltb, le-ltb, eq-eqb, ne_eqb}
use Rattle.route_line.specs.Line.{line_after}
use Rattle.route_line.proofs.line_after.Goals as goal

pub returns-then-line-lt-AFTER_WORD : goal.returns-then-line-lt-AFTER_WORD
unfolding line_after
returns-then-line-lt-AFTER_WORD c = rw (lt-ltb _ _ c.if-line-lt-AFTER_WORD.true) c.in_name.ensures

pub returns-then-line-eq-AFTER_WORD : goal.returns-then-line-eq-AFTER_WORD
unfolding line_after
returns-then-line-eq-AFTER_WORD c = rw (le-ltb _ _ c.if-line-lt-AFTER_WORD.false, eq-eqb _ _ c.if-line-eq-AFTER_WORD.true) c.after_word.ensures

pub returns : goal.returns
unfolding line_after
returns c = rw (le-ltb _ _ c.if-line-lt-AFTER_WORD.false, ne_eqb _ _ c.if-line-eq-AFTER_WORD.false) c.in_word.ensures
