-- `wire::word` meets its contract: the places of the rest are those of the whole from k on. Assumes nothing.
use Rattle.model.proofs.Wire.{word-of-rest, word-past-end}
use Rattle.wire.proofs.word.Goals as goal

pub returns-then-bytes-k : goal.returns-then-bytes-k
returns-then-bytes-k c = word-past-end _ _ c.if-bytes-k.true

pub returns-then-rest-lt4 : goal.returns-then-rest-lt4
returns-then-rest-lt4 c = simp (
  c.from_le_bytes.ensures,
  c.byte-then-rest-lt4-3.ensures,
  c.byte-then-rest-lt4-2.ensures,
  c.byte-then-rest-lt4.ensures,
  c.byte.ensures,
) (word-of-rest _ _)

pub returns : goal.returns
returns c = simp c.from_le_bytes-2.ensures (word-of-rest _ _)
