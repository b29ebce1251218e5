-- `text::read::read_numbers` meets its contract: what the bytes left do to the words so far is what the whole line does. Assumes nothing.
use Prim.Native.Nat.{◌≤◌}
use mathlib.Core.Path.{◌≡◌}
use lib.ListN.{length, drop}
use Rattle.text.specs.Read.{stored}
use Rattle.text.proofs.read.read_numbers.Given as goal

abbrev pub invariant-loop-x : goal.invariant-loop-x
invariant-loop-x l = (l.k ≤ l.x-index) × (length l.words ≡ length l.initial.words)
    × (stored l.decimals l.k l.value l.words (drop l.x-index l.line) ≡ stored l.decimals 0 0 l.initial.words l.line)
