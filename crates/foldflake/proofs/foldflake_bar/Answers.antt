-- `foldflake::foldflake_bar` meets its contract, by what its callees ensure. Assumes nothing.
use mathlib.Core.Path.{ap, ◌∙◌}
use Rattle.foldflake.specs.Entry.{built_number}
use borrow.Author.Rules.{rules}
use Rattle.foldflake.proofs.foldflake_bar.Goals as goal

pub returns : goal.returns
returns c = let built = c.bar.ensures in
    (c.built_number.ensures ∙ ap built_number built.0, built.1)
