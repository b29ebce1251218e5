-- Written by tests/written/wide.py from ground, in f64.
-- `scalar::abs` meets its contract: dropping the sign's bit of a pattern is `abs`. Assumes nothing.
use mathlib.Core.Path.{◌≡◌, sym, subst}
use lib.Dec.{T}
use lib.Ieee.{Float, binary64, fits}
use mathlib.Core.Bool.{true}
use Rattle.model.proofs.Bits.{nan-abs, not-nan, abs-bits, abs-not-nan}
use Rattle.ground64.proofs.scalar.abs.Goals as goal

-- what owning a float tells: the format holds it
held : (x : Float) → fits binary64 x ≡ true → T (fits binary64 x)
held x e = subst T (sym e) tt

pub returns-then-x : goal.returns-then-x
returns-then-x c = nan-abs _ c.if-x.true

pub float_to_bits-result : goal.float_to_bits-result
float_to_bits-result c = not-nan _ c.if-x.false

pub float_from_bits-result : goal.float_from_bits-result
float_from_bits-result c = abs-not-nan binary64 _ (held c.args.x c.well_formed.0.1) c.if-x.false

pub returns : goal.returns
returns c = abs-bits binary64 _ (held c.args.x c.well_formed.0.1)
