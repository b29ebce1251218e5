-- Written by tests/written/wide.py from ground, in f64.
-- `rotation::reciprocal_of_root` meets its contract: of 1 it is 1, and of any other by what its callees ensure. Assumes nothing.
use mathlib.Core.Path.{◌≡◌, sym, subst}
use lib.Dec.{T}
use lib.Ieee.{Float, binary64, fits}
use mathlib.Core.Bool.{true}
use Rattle.ground64.proofs.One.{of_one}
use Rattle.ground64.proofs.rotation.reciprocal_of_root.Goals as goal

-- what owning a float tells: the format holds it
held : (x : Float) → fits binary64 x ≡ true → T (fits binary64 x)
held x e = subst T (sym e) tt

pub returns-then-m : goal.returns-then-m
returns-then-m c = of_one _ (held c.args.m c.well_formed.0.1) c.if-m.true

pub returns : goal.returns
returns c = simp (c.reciprocal_or_zero.ensures, c.root.ensures.is)
