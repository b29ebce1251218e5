-- `turns::turn_gap` meets its contract. Assumes nothing.
use native.Mathlib.Omega.{arith}
use Rattle.piece_check.proofs.Window.{steady-law}
use Rattle.piece_check.proofs.turns.turn_gap.Goals as goal

pub returns : goal.returns
returns c = λ h. steady-law c.args.a c.in_ok-y0.y0 c.in_ok-y1.y1 c.in_ok-y2.y2 c.in_ok-y3.y3 c.in_ok-y4.y4 c.max-4.result
    c.in_ok-y0.ensures c.in_ok-y1.ensures c.in_ok-y2.ensures c.in_ok-y3.ensures c.in_ok-y4.ensures
    (omega arith) (omega arith) (omega arith) (omega arith) (omega arith) h
