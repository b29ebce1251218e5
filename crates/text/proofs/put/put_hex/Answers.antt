-- `text::put::put_hex` meets its contract: nothing where there is no room, else the digits and their end. Assumes nothing.
use mathlib.Core.Path.{sym, ◌∙◌}
use Prim.Native.Nat.{◌+◌}
use lib.ListN.{length}
use borrow.Author.Tests.{ltb-false}
use Rattle.text.proofs.Pasted.{put-nothing}
use borrow.Author.Rules.{rules}
use Rattle.text.proofs.put.put_hex.Goals as goal

pub returns-then-lacks : goal.returns-then-lacks
returns-then-lacks c = simp (← c.lacks.ensures, c.if-lacks.true) (put-nothing _ _)

pub copy-requires : goal.copy-requires
copy-requires c = let a = c.args in
    let room = ltb-false (length a.out.now) (a.at + 9) (sym c.lacks.ensures ∙ c.if-lacks.false) in
    search rules

pub returns : goal.returns
returns c = simp (
  ← c.lacks.ensures,
  c.if-lacks.false,
  ← c.hex_digits-digits.ensures,
) c.copy.ensures
