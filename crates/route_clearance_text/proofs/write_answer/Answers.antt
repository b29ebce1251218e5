-- `route_clearance_text::write_answer` meets its contract, by its tests and what its callees ensure. Assumes nothing.
use mathlib.Core.Bool.{not}
use mathlib.Core.Path.{ap}
use Rattle.text.proofs.Pasted.{put-nothing}
use Rattle.text.proofs.Written.{left}
use Rattle.route_clearance_text.proofs.Lines.{too_short, told-no-route, told-route}
use borrow.Author.Rules.{rules}
use Rattle.route_clearance_text.proofs.write_answer.Goals as goal

pub returns-then-out-lt-LONGEST_LINE : goal.returns-then-out-lt-LONGEST_LINE
returns-then-out-lt-LONGEST_LINE c = too_short _ _ _ c.if-out-lt-LONGEST_LINE.true (put-nothing _ _)

pub returns-then-not-is_route : goal.returns-then-not-is_route
returns-then-not-is_route c = let a = c.args in
    told-no-route a.reader a.floats.now a.lengths.now c.if-out-lt-LONGEST_LINE.false _ _ c.is_route.ensures (ap not c.if-not-is_route.true)
    c.next_line.ensures (left c.put_pair.ensures (search rules))

pub returns : goal.returns
returns c = let a = c.args in
    told-route a.reader a.floats.now a.lengths.now c.if-out-lt-LONGEST_LINE.false _ _ c.is_route.ensures (ap not c.if-not-is_route.false)
    c.route_of.ensures (left c.put_answer.ensures (search rules))
