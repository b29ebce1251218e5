-- `salvage_walk::tell_total` meets its contract: three pieces, for which there is room. Assumes nothing.
use mathlib.Core.Path.{sym, ◌∙◌}
use native.Mathlib.Omega.{arith}
use lib.Dec.{leb}
use lib.ListN.{length}
use borrow.Author.Tests.{lt-leb, le-leb}
use Rattle.text.proofs.Pasted.{put-nothing}
use Rattle.salvage_walk.proofs.Laws.{small, and-false, totals}
use Rattle.salvage_walk.proofs.tell_total.Goals as goal

pub returns-then-text-lt48 : goal.returns-then-text-lt48
returns-then-text-lt48 c = rw (lt-leb 48 (length c.args.text.now) c.if-text-lt48.true) (put-nothing _ _)

pub returns-then-not-countable : goal.returns-then-not-countable
returns-then-not-countable c = let large = sym c.countable.ensures ∙ c.if-not-countable.true in
    rw (large, and-false (leb 48 (length c.args.text.now))) (put-nothing _ _)

pub skipped_on-last-requires : goal.skipped_on-last-requires
skipped_on-last-requires c = sym c.countable.ensures ∙ c.if-not-countable.false

pub overflow_add-last : goal.overflow_add-last
overflow_add-last c = let few = small c.args.left c.args.walk (sym c.countable.ensures ∙ c.if-not-countable.false) in
    rw c.skipped_on-last.ensures (omega (arith, few.part, few.skipped, few.run))

pub returns : goal.returns
returns c = let room = c.if-text-lt48.false in
    let fine = sym c.countable.ensures ∙ c.if-not-countable.false in
    rw (fine, le-leb 48 (length c.args.text.now) room, ← c.skipped_on-last.ensures)
    (totals c.skipped_on-last.result room c.put_text-word_end.ensures
    c.put_number-kept_end.ensures c.put_number.ensures)
