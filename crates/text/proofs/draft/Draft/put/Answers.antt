-- `text::draft::Draft::put` meets its contract, which is that of `put_text` over the draft's bytes and place. Assumes nothing.
use native.Mathlib.Nat.{le_refl}
use Rattle.text.specs.Written.{written}
use Rattle.text.proofs.Written.{wrote, length-room}
use Rattle.text.proofs.draft.Draft.put.Goals as goal

pub returns : goal.returns
unfolding written
returns c = wrote (rw (c.put_text-self.ensures.place, c.put_text-self.ensures.bytes)) (length-room _ _ _ _ (le_refl _)) c.put_text-self.auto.out
