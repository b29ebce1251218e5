-- `text::copied::hex_digits` meets its contract: the digits that are left, before those that stand at the end, are all of them. Assumes nothing.
use Rattle.std.proofs.Common.{◌≡◌, ◌-◌, ◌++◌, [], ◌∷◌, drop, length}
use Rattle.model.specs.Text.{hex_by}
use Rattle.text.proofs.copied.hex_digits.Given as goal

abbrev pub invariant-loop-i : goal.invariant-loop-i
invariant-loop-i l = (length l.digits ≡ 9) × (hex_by (8 - l.i) l.rest ++ drop (8 - l.i) l.digits ≡ hex_by 8 l.n ++ (l.end ∷ []))
