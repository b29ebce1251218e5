-- `route_text::put_refused` meets its contract: four numbers, two by two. Assumes nothing.
use native.Mathlib.Omega.{arith}
use Rattle.text.proofs.Written.{wrote-then, wrote-most}
use Rattle.route_text.proofs.Lines.{refused-is}
use Rattle.route_text.proofs.put_refused.Goals as goal

pub returns : goal.returns
returns c = rw refused-is (wrote-most (omega arith) (wrote-then (omega arith) c.put_pair.ensures c.put_pair-2.ensures))
