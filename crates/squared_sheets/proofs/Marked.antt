-- A sheet drawn with some zeros as -0 is on squared paper as it is without, and in the domain with any good radii. Assumes nothing.
use mathlib.Core.Path.{◌≡◌, refl, sym, ap, subst}
use mathlib.Core.Bool.{Bool, true, false}
use mathlib.Core.List.{List, [], ◌∷◌}
use Prim.Native.Nat.{ℕ, zero, suc, ◌+◌, ◌*◌, ◌/◌, ◌<◌}
use native.Mathlib.Nat.{le_of_suc-le-suc, not-suc-le-zero}
use native.Mathlib.Omega.{arith}
use lib.IntN.{ℤ, pos, negsuc}
use lib.ListN.{length, get_or, length-map}
use lib.Ieee.{Float, nan, Format, of_int}
use lib.Ieee.Back.{round_whole}
use Rattle.integers.specs.Whole.{IsWhole, Within}
use Rattle.model.specs.Domain.{bad_radius}
use Rattle.model.specs.Support.{point}
use Rattle.exact.specs.SquaredPaper.{IsPoint, Near, SquaredPaper, Fits, InTheDomain}
use Rattle.squared_sheets.specs.Sheet.{Sheet, int, corner_of, marked, drawn_marked, drawn_pose, shift, OnPaper}
use Rattle.squared_sheets.proofs.Sheets.{is-near, number_is, drawn-at, part-within, on-squared-paper}

module _ (f : Format) where
  marked-is : (m : Bool) (z : ℤ) → Within 1048576 (int z) → IsWhole (marked f m z) (int z)
  marked-is true (pos zero) w = record { sign = true; size = 0; value = round_whole f true 0 (omega arith); same = refl }
  marked-is true (pos (suc n)) w = number_is f (pos (suc n)) w
  marked-is true (negsuc n) w = number_is f (negsuc n) w
  marked-is false z w = number_is f z w

  same_length : (ms : List Bool) (l : List ℤ) → length (drawn_marked f ms l) ≡ length l
  same_length [] l = length-map l (of_int f)
  same_length (m ∷ ms) [] = refl
  same_length (m ∷ ms) (z ∷ l) = ap suc (same_length ms l)

  part-is : (ms : List Bool) (l : List ℤ) → ((i : ℕ) → i < length l → Within 1048576 (int (get_or l i (pos 0)))) → (i : ℕ) → i < length l
      → IsWhole (get_or (drawn_marked f ms l) i nan) (int (get_or l i (pos 0)))
  part-is [] l small i h =
      subst (λ (x : Float). IsWhole x (int (get_or l i (pos 0)))) (sym (drawn-at f l i h)) (number_is f (get_or l i (pos 0)) (small i h))
  part-is (m ∷ ms) [] small i h = absurd (not-suc-le-zero h)
  part-is (m ∷ ms) (z ∷ l) small zero h = marked-is m z (small zero h)
  part-is (m ∷ ms) (z ∷ l) small (suc i) h = part-is ms l (λ j k. small (suc j) (omega (arith, k))) i (le_of_suc-le-suc h)

  module _ (ms : List Bool) (l : List ℤ) (small : (i : ℕ) → i < length l → Within 1048576 (int (get_or l i (pos 0)))) where
    corners-are : (i : ℕ) → i < length (drawn_marked f ms l) / 2 → IsPoint (point (drawn_marked f ms l) i) (corner_of l i)
    corners-are i h =
        let e = same_length ms l in
        record { x = part-is ms l small (2 * i) (omega (arith, e, h)); y = part-is ms l small (2 * i + 1) (omega (arith, e, h)) }

    corners-near : (i : ℕ) → i < length (drawn_marked f ms l) / 2 → Near 1048576 (corner_of l i)
    corners-near i h = let e = same_length ms l in record { x = small (2 * i) (omega (arith, e, h)); y = small (2 * i + 1) (omega (arith, e, h)) }

  module _ (s : Sheet) (bound : ℕ) (marks_a marks_b : List Bool) (h : OnPaper s bound) where
    pub on-marked-paper : SquaredPaper bound (drawn_pose f s) (drawn_marked f marks_a s.a) (drawn_marked f marks_b s.b)
    unfolding on-squared-paper
    on-marked-paper =
        let paper = on-squared-paper f s bound h in
        let a = same_length marks_a s.a in
        let b = same_length marks_b s.b in
        let a' = length-map s.a (of_int f) in
        let b' = length-map s.b (of_int f) in
        record {
          corner_a = paper.corner_a;
          corner_b = paper.corner_b;
          cosine = paper.cosine;
          sine = paper.sine;
          shift = paper.shift;
          whole_a = corners-are marks_a s.a (part-within f s.a h.numbers_a);
          whole_b = corners-are marks_b s.b (part-within f s.b h.numbers_b);
          whole_cosine = paper.whole_cosine;
          whole_sine = paper.whole_sine;
          quarter_turn = paper.quarter_turn;
          whole_shift = paper.whole_shift;
          near = λ i j k l. paper.near i j (omega (arith, a, a', k)) (omega (arith, b, b', l));
        }

    pub marked-in-domain : Fits (drawn_marked f marks_a s.a) → Fits (drawn_marked f marks_b s.b) → (ra rb : Float) → bad_radius f ra ≡ false
        → bad_radius f rb ≡ false → InTheDomain f on-marked-paper ra rb
    unfolding on-squared-paper on-marked-paper
    marked-in-domain a b ra rb good_a good_b = record {
      points_a = a;
      points_b = b;
      near_a = corners-near marks_a s.a (part-within f s.a h.numbers_a);
      near_b = corners-near marks_b s.b (part-within f s.b h.numbers_b);
      radii = (good_a, good_b);
      near_shift = is-near 1048576 (shift s) h.shifted;
    }
