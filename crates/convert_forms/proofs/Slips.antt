-- Slips that look harmless, each with what the definition says where it would show, computed. Assumes nothing.
use mathlib.Core.Path.{◌≡◌, refl}
use mathlib.Core.Bool.{false}
use mathlib.Core.List.{List, [], ◌∷◌}
use Prim.Native.Nat.{ℕ}
use native.Mathlib.Omega.{arith}
use borrow.Author.Tests.{le-ltb}
use lib.ListN.{length}
use Rattle.model.specs.Parts.{part_size, is_last}
use Rattle.model.specs.Text.{decimal_by}
use Rattle.convert_forms.specs.Convert.{converted, told_from}

-- a block of one byte
abbrev short : List (List ℕ)
short = (1 ∷ []) ∷ []

numbers-from-zero : told_from 0 short ≡ 49 ∷ 10 ∷ []
unfolding told_from decimal_by
numbers-from-zero = refl

refused-block-written : converted short ≡ []
unfolding converted
refused-block-written = refl

whole-part-taken-for-last : (p : List ℕ) → length p ≡ part_size → is_last p ≡ false
whole-part-taken-for-last p full = le-ltb (length p) part_size (omega (arith, full))
