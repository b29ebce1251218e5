-- `scalar::abs` meets its contract: dropping the sign's bit of a pattern is `abs`. Assumes nothing.
use mathlib.Core.Path.{◌≡◌, sym, subst}
use lib.Dec.{T}
use lib.Ieee.{Float, binary32, fits}
use mathlib.Core.Bool.{true}
use Rattle.model.proofs.Bits.{nan-abs, not-nan, abs-bits, abs-not-nan}
use Rattle.ground.proofs.scalar.abs.Goals as goal

-- what owning a float tells: the format holds it
held : (x : Float) → fits binary32 x ≡ true → T (fits binary32 x)
held x e = subst T (sym e) tt

pub returns-then-x : goal.returns-then-x
returns-then-x c = nan-abs _ c.if-x.true

pub float_to_bits-result : goal.float_to_bits-result
float_to_bits-result c = not-nan _ c.if-x.false

pub float_from_bits-result : goal.float_from_bits-result
float_from_bits-result c = abs-not-nan binary32 _ (held c.args.x c.well_formed.0.1) c.if-x.false

pub returns : goal.returns
returns c = abs-bits binary32 _ (held c.args.x c.well_formed.0.1)
