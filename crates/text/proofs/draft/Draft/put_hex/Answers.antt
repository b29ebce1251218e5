-- `text::draft::Draft::put_hex` meets its contract, which is that of `put_hex` over the draft's bytes and place. Assumes nothing.
use native.Mathlib.Omega.{arith}
use Rattle.text.proofs.Lengths.{length-hex}
use Rattle.text.specs.Put.{hex}
use Rattle.text.specs.Written.{written}
use Rattle.text.proofs.Written.{wrote, length-room}
use Rattle.text.proofs.draft.Draft.put_hex.Goals as goal

pub returns : goal.returns
unfolding written
returns c = wrote (rw (c.put_hex-self.ensures.place, c.put_hex-self.ensures.bytes)) (length-room _ _ (hex c.args.n c.args.end) 9 (omega (arith, length-hex c.args.n c.args.end))) c.put_hex-self.auto.out
