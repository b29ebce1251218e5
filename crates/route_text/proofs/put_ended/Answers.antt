-- `route_text::put_ended` meets its contract: its pieces, one after the other. Assumes nothing.
use native.Mathlib.Omega.{arith}
use Rattle.text.proofs.Written.{there, wrote-then, wrote-most}
use Rattle.fields.specs.Floats.{contact_room}
use Rattle.route_text.proofs.Lines.{ended_is}
use Rattle.route_text.proofs.put_ended.Goals as goal

pub returns : goal.returns
returns c =
    let numbers = wrote-then (omega arith) (there 2 c.put.ensures (omega arith)) c.put_pair.ensures in
    let status = wrote-then (omega arith) numbers (there 2 c.put-2.ensures (omega arith)) in
    let values = wrote-then (omega arith) status (there contact_room c.put_contact.ensures (omega arith)) in
    rw (ended_is, ← c.letter_of.ensures) (wrote-most (omega arith) (wrote-then (omega arith) values (there 21 c.put_number.ensures (omega arith))))
