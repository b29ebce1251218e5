-- `unpack_blocks::tell_rest` meets its contract: nothing where nothing is left, else its refusal. Assumes nothing.
use borrow.Author.Tests.{eq-eqb, ne_eqb}
use Rattle.text.proofs.Pasted.{put-nothing}
use Rattle.unpack_blocks.proofs.tell_rest.Goals as goal

pub returns-then-rest-eq0 : goal.returns-then-rest-eq0
returns-then-rest-eq0 c = simp (eq-eqb _ _ c.if-rest-eq0.true) (put-nothing _ _)

pub returns : goal.returns
returns c = simp (ne_eqb _ _ c.if-rest-eq0.false) c.tell_refusal.ensures
