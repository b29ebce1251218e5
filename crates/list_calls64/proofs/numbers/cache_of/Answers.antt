-- Written by tests/written/wide.py from list_calls, in f64.
-- `list_calls::numbers::cache_of` meets its contract. Assumes nothing.
use mathlib.Core.Path.{refl}
use Rattle.list_calls64.specs.Entry.{cache_of}
use Rattle.list_calls64.proofs.numbers.cache_of.Goals as goal

pub returns : goal.returns
unfolding cache_of
returns c = refl
