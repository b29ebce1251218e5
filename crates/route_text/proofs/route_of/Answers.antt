-- `route_text::route_of` meets its contract: its lists are cut in their order. Assumes nothing.
use Rattle.route_text.proofs.Lines.{route-kept}
use Rattle.route_text.proofs.route_of.Goals as goal

pub returns : goal.returns
returns c = route-kept _ _ _ c.cuts_of-cuts.ensures c.point-first.ensures c.route.ensures
