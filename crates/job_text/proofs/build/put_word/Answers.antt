-- `job_text::build::put_word` meets its contract, by what its callees ensure. Assumes nothing.
use Rattle.text.proofs.Lengths.{roomy}
use Rattle.job_text.proofs.build.put_word.Goals as goal

pub returns : goal.returns
returns c = roomy 4 (rw c.word_bytes-bytes.ensures at c.put_text.ensures)
    c.requires
