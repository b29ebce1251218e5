-- `all_clear_search::search_part` meets its contract: nothing where no more can be counted, else what is found among the part's blocks. Assumes nothing.
use Rattle.all_clear_search.proofs.First.{not-counted, searched}
use borrow.Author.Rules.{rules}
use Rattle.all_clear_search.proofs.search_part.Goals as goal

pub returns-then-before-ge-COUNT_LIMIT : goal.returns-then-before-ge-COUNT_LIMIT
returns-then-before-ge-COUNT_LIMIT c = not-counted _ _ c.if-before-ge-COUNT_LIMIT.true

pub returns : goal.returns
returns c = searched _ _ _ _ c.if-before-ge-COUNT_LIMIT.false c.search_all-found.ensures c.count.ensures.0
