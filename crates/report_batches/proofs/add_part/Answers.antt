-- `report_batches::add_part` meets its contract: its parts are those of the definition. Assumes nothing.
use borrow.Author.Rules.{rules}
use Rattle.report_batches.proofs.add_part.Goals as goal

pub returns : goal.returns
returns c = simp c.add_answers-report.ensures
