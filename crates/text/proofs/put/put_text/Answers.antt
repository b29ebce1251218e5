-- `text::put::put_text` meets its contract: nothing where there is no room, else the text. Assumes nothing.
use mathlib.Core.Path.{sym, ◌∙◌}
use borrow.Author.Tests.{ltb-false}
use Rattle.text.proofs.Pasted.{put-nothing}
use Rattle.text.proofs.put.put_text.Goals as goal

pub returns-then-lacks : goal.returns-then-lacks
returns-then-lacks c = simp (← c.lacks.ensures, c.if-lacks.true) (put-nothing _ _)

pub copy-requires : goal.copy-requires
copy-requires c = ltb-false _ _ (sym c.lacks.ensures ∙ c.if-lacks.false)

pub returns : goal.returns
returns c = simp (← c.lacks.ensures, c.if-lacks.false)
    c.copy.ensures
