-- A call on squared paper with its inputs in the domain is answered: no check refuses it. Assumes nothing.
use mathlib.Core.Path.{◌≡◌, refl, sym, ap, ◌∙◌, subst}
use mathlib.Core.Bool.{Bool, true, false, not}
use mathlib.Core.List.{List, [], ◌∷◌}
use Prim.Native.Nat.{ℕ, zero, suc, ◌*◌, ◌/◌, ◌%◌, ◌≤◌, ◌<◌, suc-le-suc}
use native.Mathlib.Nat.{zero-lt-suc, one-mul}
use native.Mathlib.Omega.{arith}
use borrow.Author.Tests.{lt-ltb, le-ltb, ne_eqb}
use lib.ListN.{length, get_or}
use lib.Ieee.{Float, nan, inf, fin, Format, binary32, binary64, of_bits, up, down}
use lib.Ieee as I
use lib.Ieee.Fits.{down_pos}
use Rattle.integers.specs.Signed.{Int, of_nat, ◌≼◌, ◌≺◌, ◌≃◌}
use Rattle.integers.specs.Whole.{signed, IsWhole, Within, Test}
use Rattle.integers.proofs.Exact.{size_of, size-within}
use Rattle.integers.proofs.Compare.{le-exact}
use Rattle.model.specs.declared.Pose.{Pose}
use Rattle.model.specs.Ground.{constant, one, abs}
use Rattle.model.specs.Domain.{bad_outline, limit, bad_part, bad_parts, squared, bad_rotation}
use Rattle.model.specs.Distance.{measure, inputs_refusal, distance_refusal, distance_by, proxy_distance}
use Rattle.model.specs.Support.{point}
use Rattle.plane.specs.Plane.{Point}
use Rattle.exact.specs.SquaredPaper.{IsPoint, Near, SquaredPaper, Fits, Answered}
use Rattle.exact.proofs.Paper.{Small, cosine-is, sine-is, turn_small, add_small}
use Rattle.exact.proofs.Answered.{abs-whole, limit-whole}

-- ---- an outline's length
good_length : (s : List Float) → Fits s → bad_outline s ≡ false
good_length s h = rw (ne_eqb (length s) 0 not-empty, ne_eqb (length s % 2) 1 not-odd, le-ltb 128 (length s) h.few)
  where
    not-empty : length s ≡ 0 → ⊥
    not-empty e = omega (arith, h.some)

    not-odd : length s % 2 ≡ 1 → ⊥
    not-odd e = omega (arith, h.even)

-- ---- parts
small-part : (f : Format) {x : Float} {z : Int} → IsWhole x z → Within 1048576 z → bad_part f x ≡ false
small-part f {x} {z} i w =
    go (I.le (abs x) (limit f)) (le-exact (abs x) (limit f) (of_nat i.size) (of_nat 1048576) (abs-whole f x z i) (limit-whole f))
  where
    go : (t : Bool) → Test t (of_nat i.size ≼ of_nat 1048576) (of_nat 1048576 ≺ of_nat i.size) → not t ≡ false
    go true h = refl
    go false h = absurd (clash h (size-within 1048576 i.sign i.size z i.same w))
      where
        clash : of_nat 1048576 ≺ of_nat i.size → i.size ≤ 1048576 → ⊥
        clash h k = omega arith

small-parts : (f : Format) (s : List Float) → ((i : ℕ) → i < length s → bad_part f (get_or s i nan) ≡ false) → bad_parts f s ≡ false
unfolding bad_parts
small-parts f [] h = refl
small-parts f (x ∷ s) h = rw (h 0 (zero-lt-suc (length s)), small-parts f s (λ i l. h (suc i) (suc-le-suc l)))

-- of a list of points
small-points : (f : Format) (s : List Float) (z : ℕ → Point) → Fits s → ((i : ℕ) → i < length s / 2 → IsPoint (point s i) (z i))
    → ((i : ℕ) → i < length s / 2 → Near 1048576 (z i))
    → bad_parts f s ≡ false
small-points f s z fit whole near = small-parts f s (λ i h. go i h (i % 2) refl)
  where
    go : (i : ℕ) → i < length s → (r : ℕ) → i % 2 ≡ r → bad_part f (get_or s i nan) ≡ false
    go i h zero e =
        subst (λ (j : ℕ). bad_part f (get_or s j nan) ≡ false) (omega arith)
        (small-part f (whole (i / 2) (omega (arith, fit.even))).x (near (i / 2) (omega (arith, fit.even))).x)
    go i h (suc r) e =
        subst (λ (j : ℕ). bad_part f (get_or s j nan) ≡ false) (omega arith)
        (small-part f (whole (i / 2) (omega (arith, fit.even))).y (near (i / 2) (omega (arith, fit.even))).y)

-- ---- the rotation
one-whole : (f : Format) → IsWhole (one f) (of_nat 1)
unfolding of_bits
one-whole binary32 = record { sign = false; size = 1; value = (refl, refl); same = refl }
one-whole binary64 = record { sign = false; size = 1; value = (refl, refl); same = refl }

unit-part : (f : Format) {x : Float} {z : Int} → Small 1 x z → I.le (abs x) (one f) ≡ true
unit-part f {x} {z} i =
    go (I.le (abs x) (one f)) (le-exact (abs x) (one f) (of_nat i.whole.size) (of_nat 1) (abs-whole f x z i.whole) (one-whole f))
  where
    go : (t : Bool) → Test t (of_nat i.whole.size ≼ of_nat 1) (of_nat 1 ≺ of_nat i.whole.size) → t ≡ true
    go true h = refl
    go false h = absurd (clash h (size-within 1 i.whole.sign i.whole.size z i.whole.same i.within))
      where
        clash : of_nat 1 ≺ of_nat i.whole.size → i.whole.size ≤ 1 → ⊥
        clash h k = omega arith

-- 63 / 64 and 65 / 64 lie below and above a 1
around-one : (f : Format) (x : Float) (z : Int) → IsWhole x z → z ≃ of_nat 1
    → (I.le (constant f 0x3f7c_0000 0x3fef_8000_0000_0000) x ≡ true) × (I.le x (constant f 0x3f82_0000 0x3ff0_4000_0000_0000) ≡ true)
unfolding I.le I.lt of_bits
around-one f nan z i e = absurd i.value
around-one f (inf s) z i e = absurd i.value
around-one f (fin s m e) z i h = at f (subst (λ (t : Bool). t ≡ false) (sym i.value.0) (positive i.sign i.size i.same))
    (is_one i.sign i.size i.same i.value.1)
  where
    positive : (t : Bool) (q : ℕ) → signed t q ≃ z → t ≡ false
    positive false q k = refl
    positive true q k = absurd (clash k)
      where
        clash : signed true q ≃ z → ⊥
        clash k = omega arith

    is_one : (t : Bool) (q : ℕ) → signed t q ≃ z → m * up e * 1 ≡ q * down e → m * up e ≡ down e
    is_one true q k v = absurd (clash k)
      where
        clash : signed true q ≃ z → ⊥
        clash k = omega arith
    is_one false q k v = size_of m e q v ∙ ap (λ (n : ℕ). n * down e) (plain k) ∙ one-mul (down e)
      where
        plain : signed false q ≃ z → q ≡ 1
        plain k = omega arith

    at : (f : Format) → s ≡ false → m * up e ≡ down e
        → (I.le (constant f 0x3f7c_0000 0x3fef_8000_0000_0000) (fin s m e) ≡ true) × (I.le (fin s m e) (constant f 0x3f82_0000 0x3ff0_4000_0000_0000) ≡ true)
    at binary32 p q = let d = down_pos e in rw (p, q)
        (rw (lt-ltb (63 * 1 * down e) (down e * 64) (omega arith)) refl, rw (lt-ltb (down e * 64) (65 * 1 * down e) (omega arith)) refl)
    at binary64 p q = let d = down_pos e in rw (p, q)
        (rw (lt-ltb (63 * 1 * down e) (down e * 64) (omega arith)) refl, rw (lt-ltb (down e * 64) (65 * 1 * down e) (omega arith)) refl)

quarter-turn-accepted : (f : Format) {bound : ℕ} {p : Pose} {a b : List Float} (paper : SquaredPaper bound p a b) → bad_rotation f p.rotation ≡ false
quarter-turn-accepted f {p = p} paper =
    let c = cosine-is paper in
    let s = sine-is paper in
    let both = add_small f tt (turn_small f tt c c) (turn_small f tt s s) in
    let (low, high) = around-one f (squared f p.rotation) _ both.whole paper.quarter_turn in
    rw (unit-part f c, unit-part f s, low, high) refl

-- ---- the call
pub accepted : (f : Format) (bound : ℕ) → Answered f bound
unfolding proxy_distance
accepted f bound p a ra b rb radii pair c paper domain own =
    ((measure f p a ra b rb radii pair c).output, ap (λ (n : ℕ). (distance_by f p a ra b rb radii pair c n).answer) none-refused)
  where
    inputs-pass : inputs_refusal f p a ra b rb ≡ 0
    inputs-pass =
        let good_a = good_length a domain.points_a in
        let good_b = good_length b domain.points_b in
        let parts_a = small-points f a paper.corner_a domain.points_a paper.whole_a domain.near_a in
        let parts_b = small-points f b paper.corner_b domain.points_b paper.whole_b domain.near_b in
        let shift_x = small-part f paper.whole_shift.x domain.near_shift.x in
        let shift_y = small-part f paper.whole_shift.y domain.near_shift.y in
        rw (good_a, good_b, parts_a, parts_b, domain.radii.0, domain.radii.1, quarter-turn-accepted f paper, shift_x, shift_y) refl

    none-refused : distance_refusal f p a ra b rb pair c ≡ 0
    none-refused = rw (inputs-pass, own)
