-- `pack_lines::no_line` meets its contract: no text put into zeros leaves them. Assumes nothing.
use mathlib.Core.Path.{ap}
use mathlib.Core.List.{List}
use Prim.Native.Nat.{ℕ}
use lib.ListN.{replicate}
use Rattle.text.proofs.Pasted.{put-nothing}
use Rattle.pack_lines.specs.Pack.{held}
use Rattle.pack_lines.proofs.no_line.Goals as goal

pub returns : goal.returns
returns c = ap (λ (l : List ℕ). held l 0 0) (put-nothing (replicate 855 0) 0).bytes
