-- `root` meets its contract. Assumes nothing.
use mathlib.Core.Path.{◌≡◌, sym, ap, ◌∙◌, subst}
use lib.Dec.{T}
use lib.Ieee.{Float, binary32, fits}
use mathlib.Core.Bool.{true}
use Rattle.model.specs.Root.{root}
use Rattle.model.proofs.Root.Nearest.{rooted}
use Rattle.model.proofs.Bits.{not-nan, below-infinity}
use Rattle.model.proofs.Root.Tests.{nan-root, zero-root, read_back, top-root, neg-root}
use Rattle.root.proofs.root.Goals as goal

-- what owning a float tells: the format holds it
held : (x : Float) → fits binary32 x ≡ true → T (fits binary32 x)
held x e = subst T (sym e) tt

pub returns-then-x : goal.returns-then-x
returns-then-x c = rooted binary32 c.args.x c.args.x (held c.args.x c.well_formed.0.1) (nan-root binary32 c.args.x c.if-x.true)

pub float_to_bits-b : goal.float_to_bits-b
float_to_bits-b c = not-nan c.args.x c.if-x.false

pub returns-then-b-eq0 : goal.returns-then-b-eq0
returns-then-b-eq0 c = rooted binary32 c.args.x _ (held c.args.x c.well_formed.0.1) (zero-root binary32 c.args.x (held c.args.x c.well_formed.0.1) c.if-b-eq0.true)

pub float_from_bits-result : goal.float_from_bits-result
float_from_bits-result c = below-infinity binary32 c.pattern.result c.pattern.ensures.0

pub returns-then-b-lt2139095040 : goal.returns-then-b-lt2139095040
returns-then-b-lt2139095040 c = rooted binary32 c.args.x _ (held c.args.x c.well_formed.0.1) (c.pattern.ensures.1 ∙ ap (root binary32) (read_back binary32 c.args.x (held c.args.x c.well_formed.0.1)))

pub returns-then-b-le2147483648 : goal.returns-then-b-le2147483648
returns-then-b-le2147483648 c = rooted binary32 c.args.x _ (held c.args.x c.well_formed.0.1) (top-root binary32 c.args.x (held c.args.x c.well_formed.0.1) c.if-b-lt2139095040.false c.if-b-le2147483648.true)

pub returns : goal.returns
returns c = rooted binary32 c.args.x _ (held c.args.x c.well_formed.0.1) (neg-root binary32 c.args.x (held c.args.x c.well_formed.0.1) c.if-b-le2147483648.false)
