-- A corner that is placed by a turn in the window follows its control points, and follows them when they are rounded. Assumes nothing.
use mathlib.Core.Logic.{◌⊎◌, inl, inr}
use mathlib.Core.List.{List, [], ◌∷◌}
use Prim.Native.Nat.{ℕ, suc, ◌+◌, ◌≤◌, ◌<◌}
use native.Mathlib.Omega.{arith}
use Rattle.integers.specs.Signed.{Int, 0Int, of_nat, ◌⊞◌, ◌⊟◌, ◌⊠◌, neg, ◌≼◌, ◌≺◌, ◌≃◌}
use Rattle.integers.specs.Whole.{Within}
use Rattle.integers.specs.Polynomial.{Expr, var, lit, ◌:+◌, ◌:-◌, ◌:*◌, negated}
use Rattle.integers.proofs.Signed.{⊠-nonneg, ⊠-pos, ⊠-square, ⊠-cong}
use Rattle.integers.proofs.Ring.{ring}
use Rattle.plane.specs.Plane.{Point, sum, difference, scaled, dot}
use Rattle.plane.proofs.Weights.{⊠-mono}
use Rattle.whole_move.specs.Blend.{twice, bend}
use Rattle.whole_move.specs.Piece.{Controls, Body, turned_by, control, Moment, whole, bend_at, Turned, placed_corner, Follows, LongAtLeast, LongAtMost}
use Rattle.whole_move.specs.Piece.{Near, Shown, Disc, ShownAs}
use Rattle.whole_move.proofs.Blends.{bend', H', two, bend-at-least, bend-at-most, square-at-least, square-at-most}
use Rattle.whole_move.proofs.Lengths.{dot-square, longer, products}
use Rattle.whole_move.proofs.Turns.{square-within, moved-at-most}

-- equal parts, equal lengths
same_length : (a b : Point) → a.x ≃ b.x → a.y ≃ b.y → dot a a ≃ dot b b
same_length a b h k = omega (arith, ⊠-cong a.x b.x a.x b.x h h, ⊠-cong a.y b.y a.y b.y k k)

module _ (m : Moment) where
  abbrev u : Int
  u = of_nat m.u

  abbrev w : Int
  w = of_nat m.w

  abbrev H : Int
  H = whole m

  HH : 0Int ≼ H ⊠ H
  HH = ⊠-square H

  -- ---- the window
  -- one part of a placed corner, less that of its control points' bend; p a + q b is that part of the turned corner
  part_off : (t s c0 c1 c2 p0 p1 p2 q0 q1 q2 a b : Int)
      → s ⊠ bend u w c0 c1 c2 ⊞ t ⊠ (bend u w p0 p1 p2 ⊠ a ⊞ bend u w q0 q1 q2 ⊠ b) ⊟ s ⊠ bend u w (c0 ⊞ (p0 ⊠ a ⊞ q0 ⊠ b)) (c1 ⊞ (p1 ⊠ a ⊞ q1 ⊠ b)) (c2 ⊞
      (p2 ⊠ a ⊞ q2 ⊠ b))
      ≃ (t ⊟ s) ⊠ (bend u w p0 p1 p2 ⊠ a ⊞ bend u w q0 q1 q2 ⊠ b)
  part_off t s c0 c1 c2 p0 p1 p2 q0 q1 q2 a b =
      let P = bend' (var 7) (var 8) (var 9) :* var 13 :+ bend' (var 10) (var 11) (var 12) :* var 14 in
      ring (var 3 :* bend' (var 4) (var 5) (var 6) :+ var 2 :* P :- var 3 :* bend' (var 4 :+ (var 7 :* var 13 :+ var 10 :* var 14)) (var 5 :+ (var 8 :* var
      13 :+ var 11 :* var 14)) (var 6 :+ (var 9 :* var 13 :+ var 12 :* var 14)))
      ((var 2 :- var 3) :* P) (u ∷ w ∷ t ∷ s ∷ c0 ∷ c1 ∷ c2 ∷ p0 ∷ p1 ∷ p2 ∷ q0 ∷ q1 ∷ q2 ∷ a ∷ b ∷ []) tt

  part-off-minus : (t s c0 c1 c2 p0 p1 p2 q0 q1 q2 a b : Int)
      → s ⊠ bend u w c0 c1 c2 ⊞ t ⊠ (bend u w p0 p1 p2 ⊠ a ⊟ bend u w q0 q1 q2 ⊠ b) ⊟ s ⊠ bend u w (c0 ⊞ (p0 ⊠ a ⊟ q0 ⊠ b)) (c1 ⊞ (p1 ⊠ a ⊟ q1 ⊠ b)) (c2 ⊞
      (p2 ⊠ a ⊟ q2 ⊠ b))
      ≃ (t ⊟ s) ⊠ (bend u w p0 p1 p2 ⊠ a ⊟ bend u w q0 q1 q2 ⊠ b)
  part-off-minus t s c0 c1 c2 p0 p1 p2 q0 q1 q2 a b =
      let P = bend' (var 7) (var 8) (var 9) :* var 13 :- bend' (var 10) (var 11) (var 12) :* var 14 in
      ring (var 3 :* bend' (var 4) (var 5) (var 6) :+ var 2 :* P :- var 3 :* bend' (var 4 :+ (var 7 :* var 13 :- var 10 :* var 14)) (var 5 :+ (var 8 :* var
      13 :- var 11 :* var 14)) (var 6 :+ (var 9 :* var 13 :- var 12 :* var 14)))
      ((var 2 :- var 3) :* P) (u ∷ w ∷ t ∷ s ∷ c0 ∷ c1 ∷ c2 ∷ p0 ∷ p1 ∷ p2 ∷ q0 ∷ q1 ∷ q2 ∷ a ∷ b ∷ []) tt

  -- a placed corner stands off by (over - under) times the turned corner
  module _ (o : Body) (t s : Int) (i : ℕ) where
    abbrev v : Point
    v = o.corner i

    abbrev P : Point
    P = bend_at m o.turn

    abbrev off : Point
    off = difference (placed_corner m t s o i) (scaled s (bend_at m (control o i)))

    off-length : dot off off ≃ (t ⊟ s) ⊠ (t ⊟ s) ⊠ (dot P P ⊠ dot v v)
    off-length =
        let a = o.centre in
        let p = o.turn in
        omega (
          arith,
          same_length off (scaled (t ⊟ s) (turned_by P v))
              (part-off-minus t s a.p0.x a.p1.x a.p2.x p.p0.x p.p1.x p.p2.x p.p0.y p.p1.y p.p2.y v.x v.y)
              (part_off t s a.p0.y a.p1.y a.p2.y p.p0.y p.p1.y p.p2.y p.p0.x p.p1.x p.p2.x v.x v.y),
          ring (var 0 :* (var 1 :* var 3 :- var 2 :* var 4) :* (var 0 :* (var 1 :* var 3 :- var 2 :* var 4)) :+ var 0 :* (var 2 :* var 3 :+ var 1 :* var 4)
              :* (var 0 :* (var 2 :* var 3 :+ var 1 :* var 4)))
              (var 0 :* var 0 :* ((var 1 :* var 1 :+ var 2 :* var 2) :* (var 3 :* var 3 :+ var 4 :* var 4))) ((t ⊟ s) ∷ P.x ∷ P.y ∷ v.x ∷ v.y ∷ []) tt,
        )

  placed-follows : (F y slack E : ℕ) (o : Body) (z : Turned m F slack o.turn) → of_nat y ≺ of_nat F ⊠ of_nat F
      → of_nat 49 ⊠ (of_nat F ⊠ of_nat F ⊞ of_nat y) ≼ of_nat 64 ⊠ (of_nat F ⊠ of_nat F ⊟ of_nat slack)
      → LongAtLeast (of_nat F ⊠ of_nat F ⊟ of_nat y) o.turn → LongAtMost (of_nat F ⊠ of_nat F ⊞ of_nat y) o.turn
      → (i R : ℕ) → dot (o.corner i) (o.corner i) ≼ of_nat R ⊠ of_nat R
      → of_nat 64 ⊠ (of_nat R ⊠ of_nat R ⊠ ((of_nat y ⊞ of_nat slack) ⊠ (of_nat y ⊞ of_nat slack))) ≼ of_nat 225 ⊠ ((of_nat F ⊠ of_nat F ⊟ of_nat y) ⊠ (of_nat E ⊠
      of_nat E))
      → Follows m (of_nat z.under) (of_nat E) (placed_corner m (of_nat z.over) (of_nat z.under) o i) (control o i)
  placed-follows F y slack E o z room tame long short i R inside window =
      let t = of_nat z.over in
      let s = of_nat z.under in
      let p = o.turn in
      let S = of_nat F ⊠ of_nat F in
      let h = H ⊠ H ⊠ (H ⊠ H) in
      let hp : 0Int ≺ H = omega (arith, m.some) in
      omega (
        arith,
        off-length o t s i,
        moved-at-most t s (dot (P o t s i) (P o t s i)) h S (of_nat y) (of_nat slack) (omega arith) (omega (arith, z.some)) (⊠-pos (H ⊠ H) (H ⊠ H) (⊠-pos H
            H hp hp) (⊠-pos H H hp hp))
            (square-at-least u w (omega arith) (omega arith) p.p0 p.p1 p.p2 (S ⊟ of_nat y) long.c0 long.c1 long.c2 long.c3 long.c4)
            (square-at-most u w (omega arith) (omega arith) p.p0 p.p1 p.p2 (S ⊞ of_nat y) short.c0 short.c1 short.c2 short.c3 short.c4)
            z.long-enough z.short-enough (omega arith) tame (dot (v o t s i) (v o t s i)) (of_nat R) (of_nat E) (dot-square (v o t s i) (v o t s i))
            inside window,
        ring (var 0 :* (var 1 :* var 1) :* var 2 :* (var 0 :* (var 1 :* var 1) :* var 2)) (var 0 :* var 0 :* (var 1 :* var 1 :* (var 1 :* var 1)) :* (var 2
            :* var 2)) (s ∷ H ∷ of_nat E ∷ []) tt,
      )

  -- ---- rounding
  -- one part of a bend, when that part of each control point is within e
  part-near : (e : ℕ) (x0 x1 x2 y0 y1 y2 : Int) → Within e (x0 ⊟ y0) → Within e (x1 ⊟ y1) → Within e (x2 ⊟ y2)
      → (bend u w x0 x1 x2 ⊟ bend u w y0 y1 y2) ⊠ (bend u w x0 x1 x2 ⊟ bend u w y0 y1 y2) ≼ H ⊠ H ⊠ of_nat e ⊠ (H ⊠ H ⊠ of_nat e)
  part-near e x0 x1 x2 y0 y1 y2 h0 h1 h2 =
      let U : 0Int ≼ u = omega arith in
      let W : 0Int ≼ w = omega arith in
      let same = ring (bend' (var 2 :- var 5) (var 3 :- var 6) (var 4 :- var 7)) (bend' (var 2) (var 3) (var 4) :- bend' (var 5) (var 6) (var 7)) (u ∷ w ∷
      x0 ∷ x1 ∷ x2 ∷ y0 ∷ y1 ∷ y2 ∷ []) tt in
      square-within (bend u w x0 x1 x2 ⊟ bend u w y0 y1 y2) (H ⊠ H ⊠ of_nat e)
      (omega (
        arith,
        same,
        bend-at-most u w U W (x0 ⊟ y0) (x1 ⊟ y1) (x2 ⊟ y2) (of_nat e) (omega (arith, h0.upper)) (omega (arith, h1.upper)) (omega (arith, h2.upper)),
      ))
      (omega (
        arith,
        same,
        bend-at-least u w U W (x0 ⊟ y0) (x1 ⊟ y1) (x2 ⊟ y2) (neg (of_nat e)) (omega (arith, h0.lower)) (omega (arith, h1.lower)) (omega (arith, h2.lower)),
        ring (H' :* H' :* negated (var 2)) (negated (H' :* H' :* var 2)) (u ∷ w ∷ of_nat e ∷ []) tt,
      ))

  follows-rounded : (s E : Int) (e D : ℕ) (X : Point) (c d : Controls) → 0Int ≼ s → 0Int ≼ E → Near e c d → twice (of_nat e ⊠ of_nat e) ≼ of_nat D ⊠ of_nat D
      → Follows m s E X c → Follows m s (E ⊞ of_nat D) X d
  follows-rounded s E e D X c d S EE near enough follows =
      let x = bend_at m c in
      let y = bend_at m d in
      let first = difference X (scaled s x) in
      let second = scaled s (difference x y) in
      let r = s ⊠ (H ⊠ H) ⊠ E in
      let q = s ⊠ (H ⊠ H) ⊠ of_nat D in
      let s_hh = ⊠-nonneg s (H ⊠ H) S HH in
      let moved : dot second second ≼ q ⊠ q = omega (
        arith,
        ⊠-mono (s ⊠ s) (dot (difference x y) (difference x y)) (twice (H ⊠ H ⊠ of_nat e ⊠ (H ⊠ H ⊠ of_nat e))) (⊠-square s) (omega (
          arith,
          part-near e c.p0.x c.p1.x c.p2.x d.p0.x d.p1.x d.p2.x near.x0 near.x1 near.x2,
          part-near e c.p0.y c.p1.y c.p2.y d.p0.y d.p1.y d.p2.y near.y0 near.y1 near.y2,
        )),
        ⊠-mono (s ⊠ (H ⊠ H) ⊠ (s ⊠ (H ⊠ H))) (twice (of_nat e ⊠ of_nat e)) (of_nat D ⊠ of_nat D) (⊠-square (s ⊠ (H ⊠ H))) enough,
        ring (var 0 :* var 1 :* (var 0 :* var 1) :+ var 0 :* var 2 :* (var 0 :* var 2)) (var 0 :* var 0 :* (var 1 :* var 1 :+ var 2 :* var 2)) (s ∷
            (difference x y).x ∷ (difference x y).y ∷ []) tt,
        ring (var 0 :* var 0 :* two (var 1 :* var 1 :* var 2 :* (var 1 :* var 1 :* var 2))) (var 0 :* (var 1 :* var 1) :* (var 0 :* (var 1 :* var 1)) :*
            two (var 2 :* var 2)) (s ∷ H ∷ of_nat e ∷ []) tt,
        ring (var 0 :* (var 1 :* var 1) :* var 2 :* (var 0 :* (var 1 :* var 1) :* var 2)) (var 0 :* (var 1 :* var 1) :* (var 0 :* (var 1 :* var 1)) :* (var
            2 :* var 2)) (s ∷ H ∷ of_nat D ∷ []) tt,
      ) in
      omega (
        arith,
        longer first second r q (⊠-nonneg (s ⊠ (H ⊠ H)) E s_hh EE) (⊠-nonneg (s ⊠ (H ⊠ H)) (of_nat D) s_hh (omega arith)) follows moved,
        same_length (sum first second) (difference X (scaled s y)) (shift X.x s x.x y.x) (shift X.y s x.y y.y),
        ring ((var 0 :* var 1 :+ var 0 :* var 2) :* (var 0 :* var 1 :+ var 0 :* var 2)) (var 0 :* (var 1 :+ var 2) :* (var 0 :* (var 1 :+ var 2))) ((s ⊠
            (H ⊠ H)) ∷ E ∷ of_nat D ∷ []) tt,
      )
    where
      shift : (X s x y : Int) → X ⊟ s ⊠ x ⊞ s ⊠ (x ⊟ y) ≃ X ⊟ s ⊠ y
      shift X s x y = ring (var 0 :- var 1 :* var 2 :+ var 1 :* (var 2 :- var 3)) (var 0 :- var 1 :* var 3) (X ∷ s ∷ x ∷ y ∷ []) tt

  -- more room
  follows-wider : (s E M : Int) (X : Point) (c : Controls) → 0Int ≼ s → 0Int ≼ E → E ≼ M → Follows m s E X c → Follows m s M X c
  follows-wider s E M X c S EE h follows =
      let k = s ⊠ (H ⊠ H) in
      let l = ⊠-mono k E M (⊠-nonneg s (H ⊠ H) S HH) h in
      omega (arith, follows, products (k ⊠ E) (k ⊠ E) (k ⊠ M) (k ⊠ M) (k_e k) (omega (arith, k_e k, l)) l l)
    where
      k_e : (k : Int) → 0Int ≼ s ⊠ (H ⊠ H) ⊠ E
      k_e k = ⊠-nonneg (s ⊠ (H ⊠ H)) E (⊠-nonneg s (H ⊠ H) S HH) EE

  -- ---- a disc
  disc-follows : (F slack E : ℕ) (o : Body) (z : Turned m F slack o.turn) (i R : ℕ) → dot (o.corner i) (o.corner i) ≼ of_nat R ⊠ of_nat R
      → (of_nat F ⊠ of_nat F ⊞ of_nat slack) ⊠ (of_nat R ⊠ of_nat R) ≼ of_nat E ⊠ of_nat E
      → Follows m (of_nat z.under) (of_nat E) (placed_corner m (of_nat z.over) (of_nat z.under) o i) o.centre
  disc-follows F slack E o z i R inside reach =
      let t = of_nat z.over in
      let s = of_nat z.under in
      let p = bend_at m o.turn in
      let c = bend_at m o.centre in
      let q = o.corner i in
      let h = H ⊠ H ⊠ (H ⊠ H) in
      let long = of_nat F ⊠ of_nat F ⊞ of_nat slack in
      let sh = ⊠-nonneg (s ⊠ s) h (⊠-square s) (⊠-square (H ⊠ H)) in
      omega (
        arith,
        same_length (difference (placed_corner m t s o i) (scaled s c)) (scaled t (turned_by p q)) (omega arith) (omega arith),
        ⊠-mono (dot q q) (t ⊠ t ⊠ dot p p) (s ⊠ s ⊠ h ⊠ long) (dot-square q q) z.short-enough,
        ⊠-mono (s ⊠ s ⊠ h ⊠ long) (dot q q) (of_nat R ⊠ of_nat R) (⊠-nonneg (s ⊠ s ⊠ h) long sh (omega (arith, ⊠-square (of_nat F)))) inside,
        ⊠-mono (s ⊠ s ⊠ h) (long ⊠ (of_nat R ⊠ of_nat R)) (of_nat E ⊠ of_nat E) sh reach,
        ring (var 0 :* (var 1 :* var 3 :- var 2 :* var 4) :* (var 0 :* (var 1 :* var 3 :- var 2 :* var 4)) :+ var 0 :* (var 2 :* var 3 :+ var 1 :* var 4)
            :* (var 0 :* (var 2 :* var 3 :+ var 1 :* var 4)))
            ((var 3 :* var 3 :+ var 4 :* var 4) :* (var 0 :* var 0 :* (var 1 :* var 1 :+ var 2 :* var 2))) (t ∷ p.x ∷ p.y ∷ q.x ∷ q.y ∷ []) tt,
        ring (var 0 :* var 1) (var 1 :* var 0) (dot q q ∷ (s ⊠ s ⊠ h ⊠ long) ∷ []) tt,
        ring (var 0 :* var 1 :* var 2) (var 0 :* (var 1 :* var 2)) ((s ⊠ s ⊠ h) ∷ long ∷ (of_nat R ⊠ of_nat R) ∷ []) tt,
        ring (var 0 :* (var 1 :* var 1) :* var 2 :* (var 0 :* (var 1 :* var 1) :* var 2)) (var 0 :* var 0 :* (var 1 :* var 1 :* (var 1 :* var 1)) :* (var 2
            :* var 2)) (s ∷ H ∷ of_nat E ∷ []) tt,
      )

  -- ---- a body as the check is shown it
  turning-follows : (F slack : ℕ) (o : Body) (margin : ℕ) (shown : ℕ → Controls) → Shown F slack o margin shown
      → (z : Turned m F slack o.turn) (i : ℕ) → i < o.count
      → Follows m (of_nat z.under) (of_nat margin) (placed_corner m (of_nat z.over) (of_nat z.under) o i) (shown i)
  turning-follows F slack o margin shown k z i l =
      let s = of_nat z.under in
      let X = placed_corner m (of_nat z.over) s o i in
      follows-wider s (of_nat k.E ⊞ of_nat k.D) (of_nat margin) X (shown i) (omega arith) (omega arith) (omega (arith, k.enough))
      (follows-rounded s (of_nat k.E) k.e k.D X (control o i) (shown i) (omega arith) (omega arith) (k.near i l) k.rounding
      (placed-follows F k.y slack k.E o z k.room k.tame k.long k.short i k.R (k.inside i l) k.window))

  still-follows : (F slack : ℕ) (o : Body) (margin : ℕ) (shown : ℕ → Controls) → Disc F slack o margin shown
      → (z : Turned m F slack o.turn) (i : ℕ) → i < o.count
      → Follows m (of_nat z.under) (of_nat margin) (placed_corner m (of_nat z.over) (of_nat z.under) o i) (shown i)
  still-follows F slack o margin shown k z i l =
      let s = of_nat z.under in
      let X = placed_corner m (of_nat z.over) s o i in
      follows-wider s (of_nat k.E ⊞ of_nat k.D) (of_nat margin) X (shown i) (omega arith) (omega arith) (omega (arith, k.enough))
      (follows-rounded s (of_nat k.E) k.e k.D X o.centre (shown i) (omega arith) (omega arith) (k.near i l) k.rounding
      (disc-follows F slack k.E o z i k.R (k.inside i l) k.reach))

  pub shown-follows : (F slack : ℕ) (o : Body) (margin : ℕ) (shown : ℕ → Controls) → ShownAs F slack o margin shown
      → (z : Turned m F slack o.turn) (i : ℕ) → i < o.count
      → Follows m (of_nat z.under) (of_nat margin) (placed_corner m (of_nat z.over) (of_nat z.under) o i) (shown i)
  shown-follows F slack o margin shown (inl k) = turning-follows F slack o margin shown k
  shown-follows F slack o margin shown (inr k) = still-follows F slack o margin shown k
