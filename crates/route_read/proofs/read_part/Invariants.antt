-- `route_read::read_part` meets its contract: what is left to read comes to what the whole does. Assumes nothing.
use borrow.Author.Rules.{rules}
use mathlib.Core.Path.{◌≡◌, refl, ◌∙◌}
use Prim.Native.Nat.{◌≤◌, ◌-◌}
use lib.ListN.{length, drop}
use Rattle.route_read.specs.Read.{run, run_over}
use Rattle.route_read.proofs.Runs.{read-on, read_whole}
use Rattle.route_read.proofs.read_part.Given as goal

abbrev pub invariant-loop-x : goal.invariant-loop-x
invariant-loop-x l =
    (length l.floats ≡ length l.initial.floats) × (length l.lengths ≡ length l.initial.lengths)
    × (run_over (run l.after l.floats l.lengths) (drop l.x-index l.part) ≡ run_over (run l.initial.after l.initial.floats l.initial.lengths) l.part)
