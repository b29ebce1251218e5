-- `text::draft::Draft::put_number` meets its contract, which is that of `put_number` over the draft's bytes and place. Assumes nothing.
use Rattle.text.proofs.Lengths.{length-number}
use Rattle.text.specs.Written.{written}
use Rattle.text.proofs.Written.{wrote, length-room}
use Rattle.text.proofs.draft.Draft.put_number.Goals as goal

pub returns : goal.returns
unfolding written
returns c = wrote (rw (c.put_number-self.ensures.place, c.put_number-self.ensures.bytes)) (length-room _ _ _ _ (length-number _ _)) c.put_number-self.auto.out
