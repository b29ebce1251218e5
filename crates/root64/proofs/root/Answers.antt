-- `root` meets its contract: a number with an exponent by its guess, any other by what `root_of_any` ensures. Assumes nothing.
use Rattle.std.proofs.Common.{◌≡◌, true, T, sym, ap, ◌∙◌, subst}
use lib.Ieee.{Float, binary64, fits}
use Rattle.model.specs.Root.{root}
use Rattle.model.proofs.Root.Nearest.{rooted}
use Rattle.model.proofs.Bits.{below-infinity, not-nan}
use Rattle.model.proofs.Root.Tests.{nan-root, read_back}
use Rattle.root64.proofs.root.Goals as goal

-- what owning a float tells: the format holds it
held : (x : Float) → fits binary64 x ≡ true → T (fits binary64 x)
held _ h = subst T (sym h) tt

pub returns-then-x : goal.returns-then-x
returns-then-x c = rooted binary64 c.args.x c.args.x (held _ c.well_formed.0.1) (nan-root binary64 c.args.x c.if-x.true)

pub float_to_bits-b : goal.float_to_bits-b
float_to_bits-b c = not-nan c.args.x c.if-x.false

pub guess-requires : goal.guess-requires
guess-requires c = c.if-b-lt9218868437227405312.true

pub guessed-r-requires : goal.guessed-r-requires
guessed-r-requires c = (c.if-b-ge4503599627370496.true, c.if-b-lt9218868437227405312.true)

pub float_from_bits-result : goal.float_from_bits-result
float_from_bits-result c = below-infinity binary64 c.guessed-r.result (c.guessed-r.ensures c.if-r-gt0.true).0

pub returns-then-r-gt0 : goal.returns-then-r-gt0
returns-then-r-gt0 c =
    rooted binary64 c.args.x _ (held _ c.well_formed.0.1) ((c.guessed-r.ensures c.if-r-gt0.true).1 ∙ ap (root binary64) (read_back binary64 c.args.x (held _ c.well_formed.0.1)))
