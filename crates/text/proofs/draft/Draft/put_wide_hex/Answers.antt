-- `text::draft::Draft::put_wide_hex` meets its contract, which is that of `put_wide_hex` over the draft's bytes and place. Assumes nothing.
use native.Mathlib.Omega.{arith}
use Rattle.text.proofs.Lengths.{length-wide-hex}
use Rattle.text.specs.Put.{wide_hex}
use Rattle.text.specs.Written.{written}
use Rattle.text.proofs.Written.{wrote, length-room}
use Rattle.text.proofs.draft.Draft.put_wide_hex.Goals as goal

pub returns : goal.returns
unfolding written
returns c = wrote (rw (c.put_wide_hex-self.ensures.place, c.put_wide_hex-self.ensures.bytes)) (length-room _ _ (wide_hex c.args.n c.args.end) 17 (omega (arith, length-wide-hex c.args.n c.args.end))) c.put_wide_hex-self.auto.out
