-- `taken::taken_over` meets its contract: a magnitude above the infinity's is a NaN, and any other float has its like in f64. Assumes nothing.
use mathlib.Core.Path.{sym, subst}
use mathlib.Core.Bool.{Bool, not}
use borrow.Author.Rules.{rules}
use lib.Dec.{T}
use lib.Ieee.{binary32, div, of_bits, is_nan}
use lib.Ieee.Bits.{nan_bits_is}
use Rattle.model.proofs.Bits.{pattern-nan, pattern-not-nan}
use Rattle.work64.proofs.taken.taken_over.Goals as goal

pub float_from_bits-result : goal.float_from_bits-result
float_from_bits-result c = pattern-not-nan binary32 _ c.if-magnitude-gt2139095040.false

pub float_to_float-result : goal.float_to_float-result
float_to_float-result c = let bits = c.args.bits in
    let no_nan : T (not (is_nan (of_bits binary32 bits))) = subst (λ (b : Bool). T (not b)) (nan_bits_is binary32 bits) (pattern-not-nan binary32 bits c.if-magnitude-gt2139095040.false) in
    search rules

pub returns-then-magnitude-gt2139095040 : goal.returns-then-magnitude-gt2139095040
unfolding div of_bits
returns-then-magnitude-gt2139095040 c = sym (pattern-nan binary32 c.args.bits c.if-magnitude-gt2139095040.true)
