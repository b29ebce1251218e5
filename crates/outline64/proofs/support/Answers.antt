-- Written by tests/written/wide.py from outline, in f64.
-- `support` meets its contract, by what its check's answer says. Assumes nothing.
use lib.Ieee.{binary64}
use Rattle.outline64.proofs.Laws.{outline-refused, outline-passed}
use Rattle.outline64.proofs.support.Goals as goal

pub returns-in_default : goal.returns-in_default
returns-in_default c = outline-refused binary64 _ _ _ c.check_outline-outline.ensures _ c.in_default.is _ c.refusal-number.ensures

pub returns : goal.returns
returns c = outline-passed binary64 _ _ _ c.check_outline-outline.ensures c.in-Ok.is _ c.support_pair.ensures
