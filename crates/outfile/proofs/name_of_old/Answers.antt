-- Both pieces end within the list, one after the other. Assumes nothing.
use Rattle.std.proofs.Common.{arith, sym, length-take-le}
use Rattle.outfile.proofs.Laws.{ends-inside, joined-put}
use Rattle.outfile.specs.Names.{kept}
use Rattle.outfile.proofs.name_of_old.Goals as goal

pub returns : goal.returns
returns c =
    let first = c.put_text-at in
    let second = c.put_text in
    let start = ends-inside c.args.name.now (omega arith) first.ensures in
    let inside = ends-inside kept (omega (arith, start, first.auto.out)) second.ensures in (
      (omega (arith, inside, second.auto.out), sym (length-take-le _ _ (omega (arith, inside, second.auto.out)))),
      joined-put c.args.name.now kept first.ensures first.auto.out second.ensures,
    )
