-- The call asks that x is above -1 and below 2^64. The two tests say so, with each number by its pattern; `of_bits` and `neg` bring it to the form that is asked for.
use Rattle.std.proofs.Common.{T, sym, subst, rules}
use lib.Ieee.{of_bits, neg}
use Rattle.clear_search.proofs.vectors.whole.Goals as goal

pub truncating_f64_to_u64-requires : goal.truncating_f64_to_u64-requires
unfolding of_bits neg
truncating_f64_to_u64-requires c = record { lower_bound = subst T (sym c.if-x.true) tt; upper_bound = subst T (sym c.if-x-2.true) tt }
