-- Written by tests/written/wide.py from list_calls, in f64.
-- `list_calls::tell::put_cache` meets its contract: every place is stored to. Assumes nothing.
use native.Mathlib.Omega.{arith}
use lib.ListN.{length-set}
use Rattle.list_calls64.specs.Entry.{cache_words}
use Rattle.list_calls64.proofs.Filled.{stored, filled}
use Rattle.list_calls64.proofs.tell.put_cache.Goals as goal

pub bounds-words-4 : goal.bounds-words-4
bounds-words-4 c = simp length-set (omega arith)

pub bounds-words-5 : goal.bounds-words-5
bounds-words-5 c = simp length-set (omega arith)

pub bounds-words-6 : goal.bounds-words-6
bounds-words-6 c = simp length-set (omega arith)

pub bounds-words-7 : goal.bounds-words-7
bounds-words-7 c = simp length-set (omega arith)

pub shape_of-words : goal.shape_of-words
shape_of-words c = simp length-set

pub returns : goal.returns
unfolding stored
returns c = filled c.args.words.now (cache_words c.args.cache) c.requires
