-- `pack_lines::tell_last` meets its contract: nothing where nothing is left, else its refusal. Assumes nothing.
use borrow.Author.Tests.{eq-eqb, ne_eqb}
use Rattle.text.proofs.Pasted.{put-nothing}
use Rattle.pack_lines.proofs.tell_last.Goals as goal

pub returns-then-held-eq0 : goal.returns-then-held-eq0
returns-then-held-eq0 c = simp (eq-eqb _ _ c.if-held-eq0.true) (put-nothing _ _)

pub returns : goal.returns
returns c = simp (ne_eqb _ _ c.if-held-eq0.false) c.tell_refusal.ensures
