-- `moment::same_time` meets its contract: a float is what its pattern stands for. Assumes nothing.
use mathlib.Core.Path.{sym, ap, subst, ◌∙◌}
use lib.Dec.{T}
use lib.Ieee.{binary32, of_bits}
use lib.Ieee.Bits.{of_bits-to_bits}
use borrow.Author.Tests.{eqb-true}
use Rattle.sweep_toi.proofs.moment.same_time.Goals as goal

pub returns : goal.returns
returns c h =
    let same = sym c.to_bits.ensures ∙ eqb-true _ _ h ∙ c.to_bits-2.ensures in
    sym (of_bits-to_bits binary32 c.args.x (subst T (sym c.well_formed.0.1) tt))
    ∙ ap (of_bits binary32) same
    ∙ of_bits-to_bits binary32 c.args.y (subst T (sym c.well_formed.1.0.1) tt)
