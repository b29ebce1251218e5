-- `wire::byte` meets its contract: past the end the list has 0. Assumes nothing.
use mathlib.Core.Path.{sym}
use lib.ListN.{get_or-eq_default}
use Rattle.wire.proofs.byte.Goals as goal

pub returns-else-k-bytes : goal.returns-else-k-bytes
returns-else-k-bytes c = sym (get_or-eq_default c.args.bytes.now 0 c.if-k-bytes.false)
