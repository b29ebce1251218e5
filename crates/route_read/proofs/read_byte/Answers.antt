-- `route_read::read_byte` meets its contract, by what its callees ensure. Assumes nothing.
use mathlib.Core.Path.{◌∙◌}
use Rattle.route_read.specs.Read.{reader_after, floats_after, lengths_of}
use borrow.Author.Rules.{rules}
use Rattle.route_read.proofs.read_byte.Goals as goal

pub returns : goal.returns
unfolding reader_after floats_after lengths_of
returns c = let used = c.used_after-used.ensures in
    let outlines = c.outlines_after-outlines.ensures in
    let kind = c.ended-kind.ensures in
    let line = c.line_after-line.ensures in (
      rw (used.0, outlines.0, c.lines_after-lines.ensures, c.way_end-ways.ensures, c.cart_end-cart.ensures, kind, line),
      used.1 ∙ rw line,
      outlines.1 ∙ rw (kind, line),
    )
