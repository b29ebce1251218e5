-- `pack_lines::pack_part` meets its contract: the places show the run over the bytes so far. Assumes nothing.
use mathlib.Core.Path.{◌≡◌}
use Prim.Native.Nat.{◌≤◌, ◌+◌, ◌*◌, ◌-◌}
use lib.ListN.{length, take}
use Rattle.pack_lines.specs.Pack.{run_over}
use Rattle.pack_lines.proofs.Runs.{Shows, starting}
use Rattle.pack_lines.proofs.pack_part.Given as goal

abbrev pub invariant-loop-x : goal.invariant-loop-x
invariant-loop-x l =
    let i = l.x-index in
    (length l.out ≡ length l.initial.out) × (length l.err ≡ length l.initial.err) × (length l.line ≡ 855) × (l.ended.size ≤ 855) × (l.ended.lines ≤ l.initial.ended.lines + i) × (l.ended.at ≤ 512 * i)
    × (l.ended.told ≤ 42 * i)
    × Shows l.initial.out l.initial.err (run_over (starting (take l.initial.ended.size l.initial.line) l.initial.ended.lines) (take i l.part)) l.out l.ended.at l.err l.ended.told
    (take l.ended.size l.line) l.ended.lines
