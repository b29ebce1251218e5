-- `text::copied::copy` meets its contract: what is copied over a part stands there. Assumes nothing.
use Rattle.std.proofs.Common.{refl, ◌∙◌, length, arith}
use Rattle.std.proofs.lemmas.Slice.{put_mid-paste}
use Rattle.text.proofs.Pasted.{whole-paste}
use Rattle.text.proofs.copied.copy.Goals as goal

pub returns : goal.returns
returns c = let a = c.args in
    record {
      place = refl;
      bytes = put_mid-paste _ _ _ _ a.text.now (length a.text.now) c.copy_from_slice.ensures.after (omega arith) refl ∙ whole-paste a.out.now a.at a.text.now;
    }
