-- `root_of_any` meets its contract. Assumes nothing.
use Rattle.std.proofs.Common.{◌≡◌, true, T, sym, ap, ◌∙◌, subst}
use lib.Ieee.{Float, binary64, fits}
use Rattle.model.specs.Root.{root}
use Rattle.model.proofs.Root.Nearest.{rooted}
use Rattle.model.proofs.Bits.{not-nan, below-infinity}
use Rattle.model.proofs.Root.Tests.{nan-root, zero-root, read_back, top-root, neg-root}
use Rattle.root64.proofs.root_of_any.Goals as goal

-- what owning a float tells: the format holds it
held : (x : Float) → fits binary64 x ≡ true → T (fits binary64 x)
held _ h = subst T (sym h) tt

pub returns-then-x : goal.returns-then-x
returns-then-x c = rooted binary64 c.args.x c.args.x (held _ c.well_formed.0.1) (nan-root binary64 c.args.x c.if-x.true)

pub float_to_bits-b : goal.float_to_bits-b
float_to_bits-b c = not-nan c.args.x c.if-x.false

pub returns-then-b-eq0 : goal.returns-then-b-eq0
returns-then-b-eq0 c =
    rooted binary64 c.args.x _ (held _ c.well_formed.0.1) (zero-root binary64 c.args.x (held _ c.well_formed.0.1) c.if-b-eq0.true)

pub float_from_bits-result : goal.float_from_bits-result
float_from_bits-result c = below-infinity binary64 c.pattern.result c.pattern.ensures.0

pub returns-then-b-lt9218868437227405312 : goal.returns-then-b-lt9218868437227405312
returns-then-b-lt9218868437227405312 c =
    rooted binary64 c.args.x _ (held _ c.well_formed.0.1) (c.pattern.ensures.1 ∙ ap (root binary64) (read_back binary64 c.args.x (held _ c.well_formed.0.1)))

pub returns-then-b-le9223372036854775808 : goal.returns-then-b-le9223372036854775808
returns-then-b-le9223372036854775808 c =
    rooted binary64 c.args.x _ (held _ c.well_formed.0.1) (top-root binary64 c.args.x (held _ c.well_formed.0.1) c.if-b-lt9218868437227405312.false c.if-b-le9223372036854775808.true)

pub returns : goal.returns
returns c =
    rooted binary64 c.args.x _ (held _ c.well_formed.0.1) (neg-root binary64 c.args.x (held _ c.well_formed.0.1) c.if-b-le9223372036854775808.false)
