-- Pieces that are settled one after the other: away at every moment up to the end of the last. Assumes nothing.
use mathlib.Core.Path.{◌≡◌, refl, subst}
use mathlib.Core.Logic.{◌⊎◌, inl, inr}
use mathlib.Core.List.{List, [], ◌∷◌}
use Prim.Native.Nat.{ℕ, ◌+◌, ◌-◌, ◌≤◌, ◌<◌}
use native.Mathlib.Nat.{le_antisymm}
use native.Mathlib.Omega.{arith}
use Rattle.integers.specs.Signed.{Int, 0Int, of_nat, ◌⊞◌, ◌⊟◌, ◌⊠◌, ◌≼◌, ◌≺◌, ◌≃◌}
use Rattle.integers.specs.Polynomial.{Expr, var, lit, ◌:+◌, ◌:-◌, ◌:*◌}
use Rattle.integers.proofs.Signed.{⊠-pos, ⊠-cong, ⊠-comm, le-or-lt}
use Rattle.integers.proofs.Ring.{ring}
use Rattle.plane.specs.Fraction.{Fraction, ◌≤ᶠ◌}
use Rattle.whole_move.specs.Blend.{line}
use Rattle.whole_move.specs.Piece.{Moment, whole}
use Rattle.whole_way.specs.Mover.{Mover, AwayAt, Piece, InPiece, piece_from, share, at, AwayBetween, Settled}
use Rattle.whole_move.proofs.Lengths.{at-most-or-above}
use Rattle.whole_move.proofs.Clear.{checked-is-clear}
use Rattle.whole_way.proofs.Moves.{natural, natural-is, piece-is-away}

-- a settled piece
pub settled-is-away : (S clearance : ℕ) (a b : Mover) (p : Piece) → 0 < S → Settled S clearance a b p → (g m : Moment) → InPiece p g m → AwayAt g S
    clearance a b
settled-is-away S clearance a b p SS k g m inside =
    piece-is-away p g m inside k.f k.F S k.slack clearance k.room k.some.0 k.F-is SS k.wide k.enough k.sa k.ta k.sb k.tb
    k.some.1 k.some.2 k.some.3 k.some.4 a b (checked-is-clear k.F k.slack k.room _ _ k.checked)

-- a moment between k0 / n and k1 / n
module _ (n k0 k1 : ℕ) (some : 0 < n) (h : k0 ≤ n) (order : k0 < k1) (fits : k1 ≤ n) (g : Moment)
    (after : of_nat k0 ⊠ whole g ≼ of_nat n ⊠ of_nat g.w) (before : of_nat n ⊠ of_nat g.w ≼ of_nat k1 ⊠ whole g) where
  abbrev T : Int
  T = whole g

  abbrev N : Int
  N = of_nat n

  abbrev i : Int
  i = of_nat g.w

  abbrev u : Int
  u = of_nat k1 ⊠ T ⊟ N ⊠ i

  abbrev w : Int
  w = N ⊠ i ⊟ of_nat k0 ⊠ T

  abbrev c : Int
  c = N ⊠ (of_nat k1 ⊟ of_nat k0)

  u-is : of_nat (natural u) ≃ u
  u-is = natural-is u (omega (arith, before))

  w-is : of_nat (natural w) ≃ w
  w-is = natural-is w (omega (arith, after))

  c_p : 0Int ≺ c
  c_p = ⊠-pos N (of_nat k1 ⊟ of_nat k0) (omega arith) (omega arith)

  c-is : of_nat (natural c) ≃ c
  c-is = natural-is c (omega (arith, c_p))

  abbrev p : Piece
  p = piece_from n k0 k1 some h fits

  there : Moment
  there = record {
    u = natural u;
    w = natural w;
    some = omega (
      arith,
      u-is,
      w-is,
      ⊠-pos (of_nat k1 ⊟ of_nat k0) T (omega arith) (omega (arith, g.some)),
      ring ((var 1 :- var 0) :* var 2) (var 1 :* var 2 :- var 0 :* var 2) (of_nat k0 ∷ of_nat k1 ∷ T ∷ []) tt,
    );
  }

  is-there : InPiece p g there
  unfolding there
  is-there = record {
    times = natural c;
    some = omega (arith, c-is, c_p);
    same-u = omega (
      arith,
      ⊠-cong (of_nat (natural c)) c (of_nat g.u) (of_nat g.u) c-is refl,
      ⊠-cong (of_nat (natural u)) u (of_nat (n - k0)) (N ⊟ of_nat k0) u-is (omega arith),
      ⊠-cong (of_nat (natural w)) w (of_nat (n - k1)) (N ⊟ of_nat k1) w-is (omega arith),
      ring (var 0 :* (var 2 :- var 1) :* var 3) ((var 2 :* (var 3 :+ var 4) :- var 0 :* var 4) :* (var 0 :- var 1) :+ (var 0 :* var 4 :- var 1 :* (var 3 :+
          var 4)) :* (var 0 :- var 2))
          (N ∷ of_nat k0 ∷ of_nat k1 ∷ of_nat g.u ∷ i ∷ []) tt,
    );
    same_w = omega (
      arith,
      ⊠-cong (of_nat (natural c)) c i i c-is refl,
      ⊠-cong (of_nat (natural u)) u (of_nat k0) (of_nat k0) u-is refl,
      ⊠-cong (of_nat (natural w)) w (of_nat k1) (of_nat k1) w-is refl,
      ring (var 0 :* (var 2 :- var 1) :* var 4) ((var 2 :* (var 3 :+ var 4) :- var 0 :* var 4) :* var 1 :+ (var 0 :* var 4 :- var 1 :* (var 3 :+ var 4)) :*
          var 2)
          (N ∷ of_nat k0 ∷ of_nat k1 ∷ of_nat g.u ∷ i ∷ []) tt,
    );
  }

-- so at each moment between them
pub settled-between : (S clearance : ℕ) (a b : Mover) → 0 < S → (n k0 k1 : ℕ) (some : 0 < n) (h : k0 ≤ n) (fits : k1 ≤ n) → k0 < k1
    → Settled S clearance a b (piece_from n k0 k1 some h fits) → AwayBetween S clearance a b (share n k0) (share n k1)
settled-between S clearance a b SS n k0 k1 some h fits order settled g after before =
    let l : of_nat k0 ⊠ whole g ≼ of_nat n ⊠ of_nat g.w = omega (arith, after, ⊠-comm (of_nat k0) (whole g)) in
    let r : of_nat n ⊠ of_nat g.w ≼ of_nat k1 ⊠ whole g = omega (arith, before, ⊠-comm (of_nat k1) (whole g)) in
    settled-is-away S clearance a b (piece_from n k0 k1 some h fits) SS settled g (there n k0 k1 some h order fits g l r) (is-there n k0 k1 some h order
    fits g l r)

-- ---- parts of the way that meet
pub joined : (S clearance : ℕ) (a b : Mover) (from mid to : Fraction) → AwayBetween S clearance a b from mid → AwayBetween S clearance a b mid to →
    AwayBetween S clearance a b from to
joined S clearance a b from mid to first second g after before = go (at-most-or-above (mid.bottom ⊠ of_nat g.w) (whole g ⊠ mid.top))
  where
    go : (at g ≤ᶠ mid) ⊎ (whole g ⊠ mid.top ≺ mid.bottom ⊠ of_nat g.w) → AwayAt g S clearance a b
    go (inl l) = first g after l
    go (inr l) = second g (omega arith) before

-- one piece more: what a loop over pieces keeps. Before the first nothing is known.
pub one_more : (S clearance : ℕ) (a b : Mover) (n from k to : ℕ) → from ≤ k → (from < k → AwayBetween S clearance a b (share n from) (share n k))
    → AwayBetween S clearance a b (share n k) (share n to) → AwayBetween S clearance a b (share n from) (share n to)
one_more S clearance a b n from k to h so_far piece = go (le-or-lt k from)
  where
    go : (k ≤ from) ⊎ (from < k) → AwayBetween S clearance a b (share n from) (share n to)
    go (inl l) = subst (λ (i : ℕ). AwayBetween S clearance a b (share n i) (share n to)) (le_antisymm l h) piece
    go (inr l) = joined S clearance a b (share n from) (share n k) (share n to) (so_far l) piece
