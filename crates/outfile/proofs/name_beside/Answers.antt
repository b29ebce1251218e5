-- Both pieces end within the list, one after the other. Assumes nothing.
use Rattle.std.proofs.Common.{arith, take, sym, length-take-le}
use Rattle.outfile.proofs.Laws.{ends-inside, joined-put}
use Rattle.outfile.specs.Names.{collected}
use Rattle.outfile.proofs.name_beside.Goals as goal

pub returns : goal.returns
returns c =
    let there = c.after_folder-folder.ensures in
    let front = take c.after_folder-folder.result c.args.name.now in
    let first = c.put_text-at in
    let second = c.put_text in
    let start = ends-inside front (omega arith) first.ensures in
    let inside = ends-inside collected (omega (arith, start, first.auto.out)) second.ensures in (
      (omega (arith, inside, second.auto.out), sym (length-take-le _ _ (omega (arith, inside, second.auto.out)))),
      record {
        folder = c.after_folder-folder.result;
        after = there;
        put = joined-put front collected first.ensures first.auto.out second.ensures;
      },
    )
