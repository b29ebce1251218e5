-- `digits` meets its contract. The invariant: q and rem are the root of the number's digits down to the weight 4 ^ k, and what is left of those. Assumes nothing.
use Rattle.std.proofs.Common.{◌*◌, ◌^◌}
use Rattle.root64.proofs.Pairs.{Down}
use Rattle.root64.proofs.digits.Given as goal

abbrev pub invariant-loop-k : goal.invariant-loop-k
invariant-loop-k l = Down (l.m * 4 ^ l.z) l.d l.k l.c.q l.c.rem
