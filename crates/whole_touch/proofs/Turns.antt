-- The window is not empty: wherever the heading is not 0 there is a turn, by a whole root. Assumes nothing.
use mathlib.Core.Logic.{◌⊎◌, inl, inr}
use mathlib.Core.List.{[], ◌∷◌}
use Prim.Native.Nat.{ℕ, zero, suc, ◌+◌}
use native.Mathlib.Omega.{arith}
use Rattle.integers.specs.Signed.{0Int, of_nat, ◌⊞◌, ◌⊟◌, ◌⊠◌, ◌≼◌, ◌≺◌}
use Rattle.integers.specs.Polynomial.{var, lit, ◌:+◌, ◌:-◌, ◌:*◌}
use Rattle.integers.proofs.Signed.{⊠-cong, ⊠-nonneg, ⊠-square}
use Rattle.integers.proofs.Ring.{ring}
use Rattle.plane.specs.Plane.{dot}
use Rattle.plane.proofs.Weights.{⊠-mono}
use Rattle.whole_move.specs.Piece.{Moment}
use Rattle.whole_way.specs.Mover.{Mover, heading_at, TurnAt}
use Rattle.whole_move.proofs.Lengths.{at-most-or-above, square_above, below_root}
use Rattle.whole_way.proofs.Moves.{natural, natural-is}

-- the whole root of n
record Root (n : ℕ) : Type 0 where
  r : ℕ
  low : of_nat r ⊠ of_nat r ≼ of_nat n
  high : of_nat n ≺ (of_nat r ⊞ of_nat 1) ⊠ (of_nat r ⊞ of_nat 1)

root : (n : ℕ) → Root n
root zero = record {
  r = 0;
  low = omega (arith, ring (lit 0Int :* lit 0Int) (lit 0Int) [] tt);
  high = omega (
    arith,
    ring ((lit 0Int :+ lit (of_nat 1)) :*
        (lit 0Int :+ lit (of_nat 1))) (lit (of_nat 1)) [] tt,
  );
}
root (suc n) = go (root n)
  where
    next : (q : Root n) → ((of_nat q.r ⊞ of_nat 1) ⊠ (of_nat q.r ⊞ of_nat 1) ≼ of_nat (suc n)) ⊎ (of_nat (suc n) ≺ (of_nat q.r ⊞ of_nat 1) ⊠ (of_nat
        q.r ⊞ of_nat 1)) → Root (suc n)
    next q (inl h) = record {
      r = suc q.r;
      low = omega (arith, h, ⊠-cong (of_nat (suc q.r)) (of_nat q.r ⊞ of_nat 1) (of_nat (suc q.r)) (of_nat q.r ⊞ of_nat 1) (omega arith) (omega arith));
      high = omega (arith, q.high, square_above (of_nat q.r ⊞ of_nat 1) (of_nat (suc q.r) ⊞ of_nat 1) (omega arith) (omega arith));
    }
    next q (inr h) = record { r = q.r; low = omega (arith, q.low); high = h }

    go : Root n → Root (suc n)
    go q = next q (at-most-or-above ((of_nat q.r ⊞ of_nat 1) ⊠ (of_nat q.r ⊞ of_nat 1)) (of_nat (suc n)))

-- over is 2 S + 2, and under the root of what that makes of the heading's length: at least 2 S + 1
pub some_turn : (m : Moment) (S : ℕ) (o : Mover) → 0Int ≺ dot (heading_at m o) (heading_at m o) → TurnAt m S o
some_turn m S o h = go (root (natural (of_nat (S + S + 2) ⊠ of_nat (S + S + 2) ⊠ dot (heading_at m o) (heading_at m o))))
  where
    go : Root (natural (of_nat (S + S + 2) ⊠ of_nat (S + S + 2) ⊠ dot (heading_at m o) (heading_at m o))) → TurnAt m S o
    go q =
        let K = of_nat (S + S + 2) in
        let l = dot (heading_at m o) (heading_at m o) in
        let z = K ⊠ K ⊠ l in
        let r = of_nat q.r in
        let Z : 0Int ≼ z = ⊠-nonneg (K ⊠ K) l (⊠-square K) (omega (arith, h)) in
        let is = natural-is z Z in
        let square = ring ((var 0 :+ lit (of_nat 1)) :* (var 0 :+ lit (of_nat 1))) (var 0 :* var 0 :+ var 0 :+ var 0 :+ lit (of_nat 1)) (r ∷ []) tt in
        let large : K ≼ r ⊞ of_nat 1 = below_root K (r ⊞ of_nat 1) (omega arith) (omega (
          arith,
          ⊠-mono (K ⊠ K) (of_nat 1) l (⊠-square K) (omega (arith, h)),
          ring (var 0 :* var 0 :* lit (of_nat 1)) (var 0 :* var 0) (K ∷ []) tt,
          is,
          q.high,
        )) in
        record {
          over = S + S + 2;
          under = q.r;
          some = omega (arith, large);
          long-enough = omega (
            arith,
            ⊠-mono (of_nat S) (r ⊠ r) z (omega arith) (omega (arith, q.low, is)),
            ⊠-square r,
            ring (var 0 :* var 0 :* (var 1 :- lit (of_nat 1))) (var 1 :* (var 0 :* var 0) :- var 0 :* var 0) (r ∷ of_nat S ∷ []) tt,
          );
          short-enough = omega (
            arith,
            ⊠-mono (of_nat S) z (r ⊠ r ⊞ r ⊞ r) (omega arith) (omega (arith, q.high, is, square)),
            ⊠-nonneg r (r ⊟ (of_nat S ⊞ of_nat S)) (omega arith) (omega (arith, large)),
            ring (var 1 :* (var 0 :* var 0 :+ var 0 :+ var 0)) (var 0 :* var 0 :* (var 1 :+ lit (of_nat 1)) :- var 0 :* (var 0 :- (var 1 :+ var 1))) (r ∷
                of_nat S ∷ []) tt,
          );
        }
