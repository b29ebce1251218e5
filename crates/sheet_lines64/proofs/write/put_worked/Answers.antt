-- Written by tests/written/wide.py from sheet_lines, in f64.
-- `sheet_lines::write::put_worked` meets its contract: its pieces, one after the other. Assumes nothing.
use native.Mathlib.Omega.{arith}
use Rattle.text.proofs.Written.{there, wrote-then, wrote-most}
use Rattle.fields64.specs.Floats.{contact_room}
use Rattle.sheet_lines64.proofs.Pieces.{worked-is}
use Rattle.sheet_lines64.proofs.write.put_worked.Goals as goal

pub returns : goal.returns
returns c =
    let numbers = wrote-then (omega arith) (there 21 c.put_number.ensures (omega arith)) (there 21 c.put_number-2.ensures (omega arith)) in
    let status = wrote-then (omega arith) numbers (there 4 c.put.ensures (omega arith)) in
    let values = wrote-then (omega arith) status (there contact_room c.put_contact.ensures (omega arith)) in
    let counts = wrote-then (omega arith) values c.put_three.ensures in
    rw (worked-is, ← c.letter_of.ensures) (wrote-most (omega arith) (wrote-then (omega arith) counts c.put_corners.ensures))
