-- `any_contact_search::search_part` meets its contract: its three endings are those of the definition. Assumes nothing.
use mathlib.Core.Path.{sym, ◌∙◌}
use borrow.Author.Rules.{rules}
use borrow.Author.Tests.{le-ltb}
use Rattle.any_contact_search.proofs.Blocks.{part-searched, nothing-found, something-found}
use Rattle.any_contact_search.proofs.search_part.Goals as goal

pub returns-then-before-ge-COUNT_LIMIT : goal.returns-then-before-ge-COUNT_LIMIT
returns-then-before-ge-COUNT_LIMIT c = simp (le-ltb _ _ c.if-before-ge-COUNT_LIMIT.true)

pub returns-then-found-eq0 : goal.returns-then-found-eq0
returns-then-found-eq0 c = let a = c.args in
    sym (nothing-found a.before a.part.now _ c.if-found-eq0.true)
    ∙ part-searched a.before a.part.now _ c.if-before-ge-COUNT_LIMIT.false c.search_blocks-found.ensures

pub returns : goal.returns
returns c = let a = c.args in
    sym (something-found a.before a.part.now _ c.if-found-eq0.false)
    ∙ part-searched a.before a.part.now _ c.if-before-ge-COUNT_LIMIT.false c.search_blocks-found.ensures
