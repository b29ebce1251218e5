-- `all_clear_search::search_all` meets its contract: found among the whole blocks, or no rest, or a rest, which is refused. Assumes nothing.
use native.Mathlib.Omega.{arith}
use Rattle.all_clear_search.proofs.First.{none_above, some-found, without-rest, with_rest}
use borrow.Author.Rules.{rules}
use Rattle.all_clear_search.proofs.search_all.Goals as goal

pub returns-then-found-gt0 : goal.returns-then-found-gt0
returns-then-found-gt0 c = some-found _ _ _ c.if-found-gt0.true c.search_blocks-found.ensures

pub returns-then-part-eq0 : goal.returns-then-part-eq0
returns-then-part-eq0 c = let found = c.search_blocks-found in
    without-rest _ _ 0 c.if-part-eq0.true (rw (none_above _ c.if-found-gt0.false) at found.ensures)

pub returns : goal.returns
returns c = with_rest _ _ _ c.if-part-eq0.false (omega (arith, c.if-found-gt0.false)) c.search_blocks-found.ensures
