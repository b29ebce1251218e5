-- `foldflake::foldflake_plate` meets its contract, by what its callees ensure. Assumes nothing.
use mathlib.Core.Path.{ap, ◌∙◌}
use Rattle.foldflake.specs.Entry.{built_number}
use borrow.Author.Rules.{rules}
use Rattle.foldflake.proofs.foldflake_plate.Goals as goal

pub returns : goal.returns
returns c = let built = c.plate.ensures in
    (c.built_number.ensures ∙ ap built_number built.0, built.1)
