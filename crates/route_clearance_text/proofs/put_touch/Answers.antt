-- `route_clearance_text::put_touch` meets its contract: its pieces, one after the other. Assumes nothing.
use native.Mathlib.Omega.{arith}
use Rattle.text.proofs.Written.{there, wrote-then, wrote-most}
use Rattle.route_clearance_text.proofs.Lines.{touch_is}
use Rattle.route_clearance_text.proofs.put_touch.Goals as goal

pub returns : goal.returns
returns c =
    let word = wrote-then (omega arith) c.put_where.ensures (there 6 c.put.ensures (omega arith)) in
    let places = wrote-then (omega arith) (wrote-then (omega arith) word c.put_place.ensures) c.put_place-2.ensures in
    rw touch_is (wrote-most (omega arith) (wrote-then (omega arith) places (there 21 c.put_number.ensures (omega arith))))
