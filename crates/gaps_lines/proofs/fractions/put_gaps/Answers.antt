-- `gaps_lines::fractions::put_gaps` meets its contract: the gaps so far are written. Assumes nothing.
use mathlib.Core.Path.{◌≡◌}
use native.Mathlib.Omega.{arith}
use Rattle.text.proofs.Written.{wrote-nothing, wrote-then, wrote-most}
use Rattle.gaps_lines.specs.Pieces.{gap_texts}
use Rattle.gaps_lines.proofs.Pieces.{gaps-more, gaps-are}
use Rattle.gaps_lines.proofs.fractions.put_gaps.Goals as goal

pub loop-k-init : goal.loop-k-init
unfolding gap_texts
loop-k-init c = wrote-nothing _ _

pub loop-k-preserved : goal.loop-k-preserved
loop-k-preserved c = let l = c.loop-k in
    let m = c.args.moves in
    rw (gaps-more m.points_a.now m.sweep_a m.points_b.now m.sweep_b m.most l.k)
    (wrote-most (omega arith) (wrote-then (omega arith) l.invariant c.put_gap.ensures))

pub returns : goal.returns
returns c = let l = c.loop-k in
    let done : l.k ≡ 256 = omega arith in
    rw gaps-are (wrote-most (omega arith) (wrote-then (omega arith) (rw done at l.invariant) c.put_gap-2.ensures))
