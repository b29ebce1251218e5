-- `salvage_walk::tell_last_run` meets its contract: the line of a run, for which there is room. Assumes nothing.
use mathlib.Core.Path.{sym, ◌∙◌}
use native.Mathlib.Omega.{arith}
use lib.Dec.{leb}
use lib.ListN.{length}
use borrow.Author.Tests.{lt-leb, le-leb}
use Rattle.text.proofs.Pasted.{put-nothing}
use Rattle.salvage_walk.proofs.Laws.{small, and-false}
use Rattle.salvage_walk.proofs.tell_last_run.Goals as goal

pub returns-then-text-lt42 : goal.returns-then-text-lt42
returns-then-text-lt42 c = rw (lt-leb 42 (length c.args.text.now) c.if-text-lt42.true) (put-nothing _ _)

pub returns-then-not-countable : goal.returns-then-not-countable
returns-then-not-countable c = let large = sym c.countable.ensures ∙ c.if-not-countable.true in
    rw (large, and-false (leb 42 (length c.args.text.now))) (put-nothing _ _)

pub skipped_on-requires : goal.skipped_on-requires
skipped_on-requires c = sym c.countable.ensures ∙ c.if-not-countable.false

pub put_run-requires : goal.put_run-requires
put_run-requires c = let few = small c.args.left c.args.walk (sym c.countable.ensures ∙ c.if-not-countable.false) in
    rw c.skipped_on.ensures (omega (arith, c.if-text-lt42.false), omega (arith, few.kept, few.skipped))

pub returns : goal.returns
returns c = let fine = sym c.countable.ensures ∙ c.if-not-countable.false in
    rw (fine, le-leb 42 (length c.args.text.now) c.if-text-lt42.false, ← c.skipped_on.ensures)
    c.put_run.ensures
