-- `gaps_lines::fractions::put_gaps` meets its contract: the gaps so far are written. Assumes nothing.
use Prim.Native.Nat.{◌*◌}
use Rattle.text.specs.Written.{Wrote}
use Rattle.gaps_lines.specs.Pieces.{gap_room, gap_texts}
use Rattle.gaps_lines.proofs.fractions.put_gaps.Given as goal

abbrev pub invariant-loop-k : goal.invariant-loop-k
invariant-loop-k l =
    Wrote (gap_room * l.k) l.initial.draft (gap_texts l.moves.points_a.now l.moves.sweep_a l.moves.points_b.now l.moves.sweep_b l.moves.most 0 l.k) l.draft
