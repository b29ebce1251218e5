-- Written by tests/written/wide.py from list_calls, in f64.
-- `list_calls::tell::put_contact` meets its contract: a list of five takes the floats, any other stays. Assumes nothing.
use borrow.Author.Tests.{eq-eqb, ne_eqb}
use Rattle.list_calls64.proofs.tell.put_contact.Goals as goal

pub returns-then-out-eq5 : goal.returns-then-out-eq5
returns-then-out-eq5 c = rw (eq-eqb _ _ c.if-out-eq5.true) c.store_contact.ensures

pub returns-else-out-eq5 : goal.returns-else-out-eq5
returns-else-out-eq5 c = rw (ne_eqb _ _ c.if-out-eq5.false)
