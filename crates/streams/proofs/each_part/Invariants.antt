-- The turns so far, one for each read. Assumes nothing.
use Rattle.std.proofs.Common.{◌≡◌, List, length, Ok}
use Rattle.std.specs.List.{FoldsTo}
use Rattle.std.specs.declared.ops.ControlFlow.TheVariants.{Continue}
use Rattle.streams.specs.Parts.{Turn}
use Rattle.streams.proofs.each_part.Given as goal

abbrev pub invariant-loop-reads : goal.invariant-loop-reads
invariant-loop-reads g l =
    goal.F-IsAlwaysCallable g l.work × (length l.buffer ≡ length l.initial.buffer)
    × (parts : List _) × (length parts ≡ l.reads)
    × FoldsTo (Turn g.F.FnMut (length l.initial.buffer) (Ok (Continue tt))) (l.initial.work, g.R.Read.remaining l.initial.input) parts (l.work, g.R.Read.remaining l.input)
