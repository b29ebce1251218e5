-- A value that equals 1 is 1, and so is 1 over its root. Assumes nothing.
use mathlib.Core.Path.{◌≡◌, refl, sym, ◌∙◌, subst}
use Prim.Native.Nat.{◌*◌}
use native.Mathlib.Omega.{arith}
use mathlib.Core.Bool.{Bool, true, false, ◌&&◌, true≢false}
use borrow.Author.Tests.{eqb-true}
use lib.Dec.{T, eqb}
use lib.IntN.{pos}
use lib.Ieee.{Float, nan, inf, fin, binary32, up, down, fits, eq, of_bits, div, lt}
use lib.Ieee.Exact.{HasValue}
use lib.Ieee.Fits.{down_pos}
use lib.Ieee.Back.{whole_unique}
use Rattle.model.specs.Ground.{one, reciprocal_or_zero}
use Rattle.model.specs.Root.{root}

both : (x y : Bool) → (x && y) ≡ true → (x ≡ true) × (y ≡ true)
both true y e = (refl, e)
both false y e = absurd (true≢false (sym e))

value : (x : Float) → eq x (fin false 1 (pos 0)) ≡ true → HasValue x false 1 1
unfolding eq
value nan h = absurd (true≢false (sym h))
value (inf s) h = absurd (true≢false (sym h))
value (fin false m e) h = (refl, eqb-true _ _ (both _ _ h).0)
value (fin true m e) h =
    let size : m * up e * 1 ≡ 1 * down e = eqb-true _ _ (both _ _ h).0 in
    let none : m * up e * 1 ≡ 0 = eqb-true _ _ (both (eqb (m * up e * 1) (1 * down e)) (eqb (m * up e * 1) 0) h).1 in
    absurd (omega (arith, size, none, down_pos e))

one-is : one binary32 ≡ fin false 1 (pos 0)
unfolding of_bits
one-is = refl

is_one : (x : Float) → T (fits binary32 x) → eq x (one binary32) ≡ true → x ≡ one binary32
unfolding fits
is_one x h e = whole_unique binary32 x (fin false 1 (pos 0)) false 1 h tt (value x (rw one-is at e)) (refl, refl) ∙ sym one-is

root-one : one binary32 ≡ reciprocal_or_zero binary32 (root binary32 (one binary32))
unfolding of_bits root div lt
root-one = refl

pub of_one : (x : Float) → T (fits binary32 x) → eq x (one binary32) ≡ true → one binary32 ≡ reciprocal_or_zero binary32 (root binary32 x)
of_one x h e = subst (λ (y : Float). one binary32 ≡ reciprocal_or_zero binary32 (root binary32 y)) (sym (is_one x h e)) root-one
