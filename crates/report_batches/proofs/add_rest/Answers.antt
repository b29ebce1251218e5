-- `report_batches::add_rest` meets its contract, case by case. Assumes nothing.
use mathlib.Core.Path.{◌∙◌}
use Rattle.report_batches.proofs.Laws.{no-rest, a-rest}
use borrow.Author.Rules.{rules}
use Rattle.report_batches.proofs.add_rest.Goals as goal

pub returns-then-rest-eq0 : goal.returns-then-rest-eq0
returns-then-rest-eq0 c = no-rest c.args.r c.args.rest c.if-rest-eq0.true

pub returns : goal.returns
returns c = c.counted.ensures ∙ a-rest c.args.r c.args.rest c.if-rest-eq0.false
