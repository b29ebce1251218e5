-- Written by tests/written/wide.py from list_calls, in f64.
-- `list_calls::tell::store_contact` meets its contract: every place is stored to. Assumes nothing.
use native.Mathlib.Omega.{arith}
use lib.ListN.{length-set}
use Rattle.list_calls64.specs.Entry.{contact_floats}
use Rattle.list_calls64.proofs.Filled.{stored, filled}
use Rattle.list_calls64.proofs.tell.store_contact.Goals as goal

pub bounds-out-4 : goal.bounds-out-4
bounds-out-4 c = simp length-set (omega arith)

pub returns : goal.returns
unfolding stored
returns c = filled c.args.out.now (contact_floats c.args.c) c.requires
