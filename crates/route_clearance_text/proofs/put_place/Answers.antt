-- `route_clearance_text::put_place` meets its contract: the digits of the place's pattern. Assumes nothing.
use Rattle.text.proofs.Written.{there}
use Rattle.route_clearance_text.proofs.put_place.Goals as goal

pub returns : goal.returns
returns c = rw c.place_bits.ensures at (there 9 c.put_hex.ensures c.requires)
