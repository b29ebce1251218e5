-- A sheet that passes its test is on squared paper. Assumes nothing.
use mathlib.Core.Path.{◌≡◌, refl, sym, subst}
use mathlib.Core.Logic.{inl, inr}
use mathlib.Core.Bool.{Bool, true, false}
use mathlib.Core.List.{List, [], ◌∷◌}
use Prim.Native.Nat.{ℕ, zero, suc, ◌+◌, ◌*◌, ◌/◌, ◌<◌}
use native.Mathlib.Nat.{le_of_suc-le-suc, not-suc-le-zero, eq-or-lt_of_le}
use native.Mathlib.Omega.{arith}
use lib.Dec.{T, leb, leb→le, eqb→eq}
use lib.IntN.{ℤ, pos, negsuc}
use lib.ListN.{length, get_or, length-map}
use lib.Ieee.{Float, nan, Format, binary32, binary64, of_bits, of_int}
use lib.Ieee as I
use lib.Ieee.Back.{round_whole}
use lib.Ieee.Fits.{and_l, and_r}
use Rattle.integers.specs.Signed.{Int, of_nat, neg, ◌⊞◌, ◌⊟◌, ◌⊠◌, ◌≃◌}
use Rattle.integers.specs.Whole.{IsWhole, Within}
use Rattle.integers.proofs.Signed.{⊠-square}
use Rattle.model.specs.declared.SimplexVertex.{SimplexVertex}
use Rattle.model.specs.Ground as Ground
use Rattle.model.specs.Domain.{bad_radius}
use Rattle.model.specs.Support.{point}
use Rattle.plane.specs.Plane.{Point, difference, opposite, turned, turned_back}
use Rattle.plane.specs.Outline.{Outline}
use Rattle.exact.specs.SquaredPaper.{IsPoint, Near, SquaredPaper, outline_a, posed_b, Fits, InTheDomain}
use Rattle.circles.specs.NoCircles.{place}
use Rattle.exchange.specs.Exchange.{IsInverse, IsShifted}
use Rattle.exact.proofs.Vectors.{whole-of-equal}
use Rattle.exact.proofs.Paper.{wide, unit-root}
use Rattle.squared_sheets.specs.Sheet.{Sheet, int, corner_of, drawn, drawn_pose, every, within, is_zero, near_point, in_domain, shift, posed_corner, OnPaper}

pub every_one : (n : ℕ) (t : ℕ → Bool) → T (every n t) → (i : ℕ) → i < n → T (t i)
unfolding every
every_one zero t h i l = absurd (not-suc-le-zero l)
every_one (suc n) t h i l =
    elim (eq-or-lt_of_le (le_of_suc-le-suc l))
    [ inl e ↦ subst (λ (k : ℕ). T (t k)) (sym e) (and_r (every n t) (t n) h) | inr r ↦ every_one n t (and_l (every n t) (t n) h) i r ]

is_within : (n : ℕ) (z : Int) → T (within n z) → Within n z
is_within n z h = record {
  upper = leb→le z.plus (z.minus + n) (and_l (leb z.plus (z.minus + n)) (leb z.minus (z.plus + n)) h);
  lower = leb→le z.minus (z.plus + n) (and_r (leb z.plus (z.minus + n)) (leb z.minus (z.plus + n)) h);
}

pub is-near : (n : ℕ) (z : Point) → T (near_point n z) → Near n z
is-near n z h = record {
  x = is_within n z.x (and_l (within n z.x) (within n z.y) h);
  y = is_within n z.y
      (and_r (within n z.x) (within n z.y) h);
}

pub zero_is : (z : Int) → T (is_zero (z ⊟ of_nat 1)) → z ≃ of_nat 1
zero_is z h = omega (arith, eqb→eq (z ⊟ of_nat 1).plus (z ⊟ of_nat 1).minus h)

no-radius : (f : Format) → bad_radius f (Ground.zero f) ≡ false
unfolding of_bits I.le I.lt I.eq
no-radius binary32 = refl
no-radius binary64 = refl

module _ (f : Format) where
  -- a number drawn is that number
  pub number_is : (z : ℤ) → Within 1048576 (int z) → IsWhole (of_int f z) (int z)
  unfolding of_int
  number_is (pos n) w = record { sign = false; size = n; value = round_whole f false n (omega (arith, wide f, w.upper)); same = refl }
  number_is (negsuc n) w = record { sign = true; size = suc n; value = round_whole f true (suc n) (omega (arith, wide f, w.lower)); same = refl }

  pub widen : {z : Int} → Within 1 z → Within 1048576 z
  widen w = record { upper = omega (arith, w.upper); lower = omega (arith, w.lower) }

  pub drawn-at : (l : List ℤ) (i : ℕ) → i < length l → get_or (drawn f l) i nan ≡ of_int f (get_or l i (pos 0))
  drawn-at [] i h = absurd (not-suc-le-zero h)
  drawn-at (z ∷ l) zero h = refl
  drawn-at (z ∷ l) (suc i) h = drawn-at l i (le_of_suc-le-suc h)

  module _ (l : List ℤ) (small : T (in_domain l)) where
    pub part-within : (i : ℕ) → i < length l → Within 1048576 (int (get_or l i (pos 0)))
    part-within i h = is_within 1048576 (int (get_or l i (pos 0))) (every_one (length l) (λ i. within 1048576 (int (get_or l i (pos 0)))) small i h)

    part-is : (i : ℕ) → i < length l → IsWhole (get_or (drawn f l) i nan) (int (get_or l i (pos 0)))
    part-is i h =
        subst (λ (x : Float). IsWhole x (int (get_or l i (pos 0)))) (sym (drawn-at l i h))
        (number_is (get_or l i (pos 0)) (part-within i h))

    corners-near : (i : ℕ) → i < length (drawn f l) / 2 → Near 1048576 (corner_of l i)
    corners-near i h = let e = length-map l (of_int f) in record { x = part-within (2 * i) (omega arith); y = part-within (2 * i + 1) (omega arith) }

    pub corners-are : (i : ℕ) → i < length (drawn f l) / 2 → IsPoint (point (drawn f l) i) (corner_of l i)
    corners-are i h = let e = length-map l (of_int f) in record { x = part-is (2 * i) (omega arith); y = part-is (2 * i + 1) (omega arith) }

  unfoldable pub on-squared-paper : (s : Sheet) (bound : ℕ) → OnPaper s bound → SquaredPaper bound (drawn_pose f s) (drawn f s.a) (drawn f s.b)
  on-squared-paper s bound h =
      let e_a = length-map s.a (of_int f) in
      let e_b = length-map s.b (of_int f) in
      let c = int s.cosine in
      let q = int s.sine in
      let turn : c ⊠ c ⊞ q ⊠ q ≃ of_nat 1 = zero_is (c ⊠ c ⊞ q ⊠ q) h.quarter_turn in
      let moved = is-near 1048576 (shift s) h.shifted in
      let within_all : ℕ → ℕ → Bool = λ i j. near_point bound (difference (corner_of s.a i) (posed_corner s j)) in
      record {
        corner_a = corner_of s.a;
        corner_b = corner_of s.b;
        cosine = c;
        sine = q;
        shift = shift s;
        whole_a = corners-are s.a h.numbers_a;
        whole_b = corners-are s.b h.numbers_b;
        whole_cosine = number_is s.cosine (widen (unit-root c (omega (arith, ⊠-square q))));
        whole_sine = number_is s.sine (widen (unit-root q (omega (arith, ⊠-square c))));
        quarter_turn = turn;
        whole_shift = record { x = number_is s.shift_x moved.x; y = number_is s.shift_y moved.y };
        near = λ i j k l. is-near bound _
            (every_one (length s.b / 2) (λ j. within_all i j)
            (every_one (length s.a / 2) (λ i. every (length s.b / 2) (λ j. within_all i j)) h.near i (omega arith)) j (omega arith));
      }

  -- the vertices of a call on it, by the sheet's own corners
  pub place-drawn : (s : Sheet) (bound : ℕ) (h : OnPaper s bound) (v : SimplexVertex) → place (on-squared-paper s bound h) v
      ≡ difference (corner_of s.a v.index_a) (posed_corner s v.index_b)
  unfolding on-squared-paper
  place-drawn s bound h v = refl

  -- its outlines
  abbrev pub sheet_a : Sheet → Outline
  sheet_a s = record { count = length (drawn f s.a) / 2; corner = corner_of s.a }

  abbrev pub sheet_b : Sheet → Outline
  sheet_b s = record { count = length (drawn f s.b) / 2; corner = posed_corner s }

  pub outlines-drawn : (s : Sheet) (bound : ℕ) (h : OnPaper s bound) → (outline_a (on-squared-paper s bound h) ≡ sheet_a s)
      × (posed_b (on-squared-paper s bound h) ≡ sheet_b s)
  unfolding on-squared-paper
  outlines-drawn s bound h = (refl, refl)

  module _ (s s' : Sheet) {bound : ℕ} (h : OnPaper s bound) (h' : OnPaper s' bound) where
    abbrev there : SquaredPaper bound (drawn_pose f s') (drawn f s'.a) (drawn f s'.b)
    there = on-squared-paper s' bound h'

    -- a sheet with the inverse pose
    pub inverse-drawn : int s'.cosine ≃ int s.cosine → int s'.sine ≃ neg (int s.sine)
        → let back = opposite (turned_back (int s.cosine) (int s.sine) (shift s)) in
        int s'.shift_x ≃ back.x → int s'.shift_y ≃ back.y → IsInverse (on-squared-paper s bound h) (drawn_pose f s')
    unfolding on-squared-paper
    inverse-drawn ec es ex ey = record {
      cosine = whole-of-equal there.whole_cosine ec;
      sine = whole-of-equal there.whole_sine es;
      shift = record { x = whole-of-equal there.whole_shift.x ex; y = whole-of-equal there.whole_shift.y ey };
    }

    -- a sheet with B moved and the pose taking it back
    pub shifted-drawn : (by : Point) → length (drawn f s'.b) ≡ length (drawn f s.b) → int s'.cosine ≃ int s.cosine → int s'.sine ≃ int s.sine
        → let off = difference (shift s) (turned (int s.cosine) (int s.sine) by) in
        int s'.shift_x ≃ off.x → int s'.shift_y ≃ off.y
        → ((j : ℕ) → j < length (drawn f s'.b) / 2 → ((corner_of s'.b j).x ≃ (corner_of s.b j).x ⊞ by.x)
        × ((corner_of s'.b j).y ≃ (corner_of s.b j).y ⊞ by.y))
        → IsShifted (on-squared-paper s bound h) by (drawn_pose f s') (drawn f s'.b)
    unfolding on-squared-paper
    shifted-drawn by el ec es ex ey moved = record {
      same_length = el;
      points = λ j k. record { x = whole-of-equal (there.whole_b j k).x (moved j k).0; y = whole-of-equal (there.whole_b j k).y (moved j k).1 };
      cosine = whole-of-equal there.whole_cosine ec;
      sine = whole-of-equal there.whole_sine es;
      shift = record { x = whole-of-equal there.whole_shift.x ex; y = whole-of-equal there.whole_shift.y ey };
    }

  -- ---- and it is in the domain, where its outlines have 1 to 64 corners and no radius
  pub drawn-in-domain : (s : Sheet) (bound : ℕ) (h : OnPaper s bound) → Fits (drawn f s.a) → Fits (drawn f s.b)
      → InTheDomain f (on-squared-paper s bound h) (Ground.zero f) (Ground.zero f)
  unfolding on-squared-paper
  drawn-in-domain s bound h a b = record {
    points_a = a;
    points_b = b;
    near_a = corners-near s.a h.numbers_a;
    near_b = corners-near s.b h.numbers_b;
    radii = (no-radius f, no-radius f);
    near_shift = is-near 1048576 (shift s) h.shifted;
  }
