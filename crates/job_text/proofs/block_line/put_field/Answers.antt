-- `job_text::block_line::put_field` meets its contract, by what its callees ensure. Assumes nothing.
use Rattle.text.proofs.Written.{there}
use Rattle.job_text.proofs.block_line.put_field.Goals as goal

pub returns : goal.returns
returns c = let put = there 9 c.put_hex.ensures c.requires.0 in
    rw (
      c.word.ensures,
      c.place_of.ensures,
      c.byte-a.ensures,
    ) at put
