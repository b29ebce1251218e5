-- `sweep_toi::same_three` meets its contract: three equal parts are all that there is. Assumes nothing.
use Rattle.sweep_toi.proofs.Steps.{three-same}
use Rattle.sweep_toi.proofs.sweep_toi.same_three.Goals as goal

pub returns : goal.returns
returns c = three-same c.args.x c.args.y c.well_formed.0.1.0.1 c.well_formed.1.0.1.0.1
