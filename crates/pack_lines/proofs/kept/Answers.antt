-- `pack_lines::kept` meets its contract: a text put into zeros. Assumes nothing.
use lib.ListN.{length}
use Rattle.text.proofs.Lengths.{roomy}
use Rattle.pack_lines.proofs.Holding.{kept-is}
use borrow.Author.Rules.{rules}
use Rattle.pack_lines.proofs.kept.Goals as goal

pub returns : goal.returns
returns c = let a = c.args in
    let put = roomy (length a.line.now) c.put_text-size.ensures (search rules) in
    kept-is a.line.now _ put.bytes put.place
