-- Places of the plane, by fractions, and that two outlines have one nearest difference: of two nearest ones the difference halfway between them is no longer than either,
-- so they are the same. Assumes nothing.
use mathlib.Core.Path.{◌≡◌, refl}
use mathlib.Core.List.{[], ◌∷◌}
use Prim.Native.Nat.{ℕ, zero, suc, ◌+◌, ◌*◌, ◌<◌}
use native.Mathlib.Nat.{mul-pos}
use native.Mathlib.Omega.{arith}
use Rattle.integers.specs.Signed.{Int, 0Int, of_nat, neg, ◌⊞◌, ◌⊟◌, ◌⊠◌, ◌≼◌, ◌≺◌, ◌≃◌}
use Rattle.integers.specs.Polynomial.{Expr, var, lit, ◌:+◌, ◌:-◌, ◌:*◌, negated}
use Rattle.integers.proofs.Signed.{expanded-is, ⊠-comm, ⊠-neg, ⊠-zero, ⊠-cong, ⊠-cong-r, ⊠-square, ⊠-pos, ⊠-nonneg-back}
use Rattle.integers.proofs.Ring.{ring}
use Rattle.plane.specs.Plane.{Point, difference, opposite, dot, total, sum_below}
use Rattle.plane.specs.Fraction.{Place, ◌≈◌, ◌≤ᶠ◌, squared}
use Rattle.plane.specs.Outline.{Outline, PointOf, divisor, dividend, gap}
use Rattle.exchange.specs.Exchange.{difference_of, NearestDifference, OneNearestDifference}
use Rattle.plane.proofs.Weights.{⊠-mono}
use Rattle.exact.proofs.Nearest.{no-nearer, within-reach}
use Rattle.circles.proofs.Shorter.{both_zero}

-- ---- places that are the same
pub cancel : (k x : Int) → 0Int ≺ k → k ⊠ x ≃ 0Int → x ≃ 0Int
cancel k x h e =
    let up : 0Int ≼ x = ⊠-nonneg-back k x h (omega arith) in
    let down : 0Int ≼ neg x = ⊠-nonneg-back k (neg x) h (omega (arith, ⊠-neg k x)) in
    omega arith

pub same_back : (u v : Place) → u ≈ v → v ≈ u
same_back u v (x, y) = (omega arith, omega arith)

-- one part of u, v and w, with what each is divided by
through : (x y z k l m : Int) → 0Int ≺ l → l ⊠ x ≃ k ⊠ y → m ⊠ y ≃ l ⊠ z → m ⊠ x ≃ k ⊠ z
through x y z k l m some e e' =
    let none = cancel l (m ⊠ x ⊟ k ⊠ z) some (omega (
      arith,
      ⊠-cong-r m (l ⊠ x) (k ⊠ y) e,
      ⊠-cong-r k (m ⊠ y) (l ⊠ z) e',
      ring (var 4 :* (var 5 :* var 0 :- var 3 :* var 2)) (var 5 :* (var 4 :* var 0) :- var 3 :* (var 4 :* var 2)) (x ∷ y ∷ z ∷ k ∷ l ∷ m ∷ []) tt,
      ring (var 5 :* (var 3 :* var 1)) (var 3 :* (var 5 :* var 1)) (x ∷ y ∷ z ∷ k ∷ l ∷ m ∷ []) tt,
    )) in
    omega arith

pub same-through : (u v w : Place) → 0Int ≺ v.under → u ≈ v → v ≈ w → u ≈ w
same-through u v w some (x, y) (x', y') = (
  through u.over.x v.over.x w.over.x u.under v.under w.under some x x',
  through u.over.y v.over.y w.over.y u.under v.under w.under some y y',
)

-- the same place is as short
pub as_short : (u v w : Place) → 0Int ≺ u.under → u ≈ v → squared u ≤ᶠ squared w → squared v ≤ᶠ squared w
as_short u v w some (ex, ey) h =
    let k = u.under in
    let l = v.under in
    let m = w.under in
    let U = u.over in
    let V' = v.over in
    let uu = dot U U in
    let vv = dot V' V' in
    let ww = dot w.over w.over in
    let sides : l ⊠ l ⊠ uu ≃ k ⊠ k ⊠ vv = omega (
      arith,
      ⊠-cong (l ⊠ U.x) (k ⊠ V'.x) (l ⊠ U.x) (k ⊠ V'.x) ex ex,
      ⊠-cong (l ⊠ U.y) (k ⊠ V'.y) (l ⊠ U.y) (k ⊠ V'.y) ey ey,
      ring (var 0 :* var 0 :* (var 1 :* var 1 :+ var 2 :* var 2)) (var 0 :* var 1 :* (var 0 :* var 1) :+ var 0 :* var 2 :* (var 0 :* var 2))
          (l ∷ U.x ∷ U.y ∷ []) tt,
      ring (var 0 :* var 0 :* (var 1 :* var 1 :+ var 2 :* var 2)) (var 0 :* var 1 :* (var 0 :* var 1) :+ var 0 :* var 2 :* (var 0 :* var 2))
          (k ∷ V'.x ∷ V'.y ∷ []) tt,
    ) in
    let ll : 0Int ≼ l ⊠ l = ⊠-square l in
    let back = ⊠-nonneg-back (k ⊠ k) (l ⊠ l ⊠ ww ⊟ m ⊠ m ⊠ vv) (⊠-pos k k some some) (omega (
      arith,
      ⊠-mono (l ⊠ l) (m ⊠ m ⊠ uu) (k ⊠ k ⊠ ww) ll h,
      ⊠-cong-r (m ⊠ m) (l ⊠ l ⊠ uu) (k ⊠ k ⊠ vv) sides,
      ring (var 0 :* (var 1 :* var 3 :- var 2 :* var 4)) (var 1 :* (var 0 :* var 3) :- var 2 :* (var 0 :* var 4))
          ((k ⊠ k) ∷ (l ⊠ l) ∷ (m ⊠ m) ∷ ww ∷ vv ∷ []) tt,
      ring (var 0 :* (var 1 :* var 2)) (var 1 :* (var 0 :* var 2)) ((l ⊠ l) ∷ (m ⊠ m) ∷ uu ∷ []) tt,
    )) in
    omega arith

-- ---- halfway between two points of an outline
total-of-two : (n x y : ℕ) (v w : ℕ → ℕ) → total n (λ i. x * v i + y * w i) ≡ x * total n v + y * total n w
total-of-two zero x y v w = omega arith
total-of-two (suc n) x y v w = omega (arith, total-of-two n x y v w)

sum-of-two : (n x y : ℕ) (v w : ℕ → ℕ) (g : ℕ → Int)
    → sum_below n (λ i. of_nat (x * v i + y * w i) ⊠ g i) ≃ of_nat x ⊠ sum_below n (λ i. of_nat (v i) ⊠ g i) ⊞ of_nat y ⊠ sum_below n (λ i. of_nat (w i) ⊠ g i)
sum-of-two zero x y v w g = omega (arith, ⊠-zero (of_nat x), ⊠-zero (of_nat y))
sum-of-two (suc n) x y v w g =
    let V' = sum_below n (λ i. of_nat (v i) ⊠ g i) in
    let W = sum_below n (λ i. of_nat (w i) ⊠ g i) in
    let split : of_nat (x * v n + y * w n) ≃ of_nat x ⊠ of_nat (v n) ⊞ of_nat y ⊠ of_nat (w n) =
    omega (arith, expanded-is (of_nat x) (of_nat (v n)), expanded-is (of_nat y) (of_nat (w n))) in
    omega (
      arith,
      sum-of-two n x y v w g,
      ⊠-cong (of_nat (x * v n + y * w n)) (of_nat x ⊠ of_nat (v n) ⊞ of_nat y ⊠ of_nat (w n)) (g n) (g n) split refl,
      ring (var 0 :* var 4 :+ var 1 :* var 5 :+ (var 0 :* var 2 :+ var 1 :* var 3) :* var 6)
          (var 0 :* (var 4 :+ var 2 :* var 6) :+ var 1 :* (var 5 :+ var 3 :* var 6))
          (of_nat x ∷ of_nat y ∷ of_nat (v n) ∷ of_nat (w n) ∷ V' ∷ W ∷ g n ∷ []) tt,
    )

module _ (o : Outline) (p q : PointOf o) where
  abbrev P : ℕ
  P = total o.count p.weight

  abbrev Q : ℕ
  Q = total o.count q.weight

  halfway-total : total o.count (λ i. Q * p.weight i + P * q.weight i) ≡ Q * P + P * Q
  halfway-total = total-of-two o.count Q P p.weight q.weight

  halfway : PointOf o
  halfway = record { weight = λ i. Q * p.weight i + P * q.weight i; some = omega (arith, halfway-total, mul-pos p.some q.some) }

  halfway-divisor : divisor o halfway ≃ of_nat P ⊠ of_nat Q ⊞ of_nat P ⊠ of_nat Q
  unfolding halfway
  halfway-divisor = omega (arith, halfway-total, expanded-is (of_nat P) (of_nat Q))

  halfway-x : (dividend o halfway).x ≃ of_nat Q ⊠ (dividend o p).x ⊞ of_nat P ⊠ (dividend o q).x
  unfolding halfway
  halfway-x = sum-of-two o.count Q P p.weight q.weight (λ i. (o.corner i).x)

  halfway-y : (dividend o halfway).y ≃ of_nat Q ⊠ (dividend o p).y ⊞ of_nat P ⊠ (dividend o q).y
  unfolding halfway
  halfway-y = sum-of-two o.count Q P p.weight q.weight (λ i. (o.corner i).y)

-- ---- two differences of outlines
module _ (a b : Outline) (p p' : PointOf a) (q q' : PointOf b) where
  abbrev A : Int
  A = divisor a p

  abbrev A' : Int
  A' = divisor a p'

  abbrev B : Int
  B = divisor b q

  abbrev B' : Int
  B' = divisor b q'

  abbrev G : Point
  G = gap a b p q

  abbrev G' : Point
  G' = gap a b p' q'

  abbrev middle : Place
  middle = difference_of a b (halfway a p p') (halfway b q q')

  -- the difference halfway, times all four divisors, twice: one part of it
  mixed : (x x' y y' h k m n : Int) → h ≃ A' ⊠ x ⊞ A ⊠ x' → k ≃ B' ⊠ y ⊞ B ⊠ y' → m ≃ A ⊠ A' ⊞ A ⊠ A' → n ≃ B ⊠ B' ⊞ B ⊠ B'
      → n ⊠ h ⊟ m ⊠ k ≃ of_nat 2 ⊠ (A' ⊠ B' ⊠ (B ⊠ x ⊟ A ⊠ y) ⊞ A ⊠ B ⊠ (B' ⊠ x' ⊟ A' ⊠ y'))
  mixed x x' y y' h k m n eh ek em en =
      let twice : Expr → Expr = λ e. e :+ e in
      let H = var 1 :* var 4 :+ var 0 :* var 5 in
      let K = var 3 :* var 6 :+ var 2 :* var 7 in
      omega (
        arith,
        ⊠-cong n (B ⊠ B' ⊞ B ⊠ B') h (A' ⊠ x ⊞ A ⊠ x') en eh,
        ⊠-cong m (A ⊠ A' ⊞ A ⊠ A') k (B' ⊠ y ⊞ B ⊠ y') em ek,
        ring (twice (var 2 :* var 3) :* H :- twice (var 0 :* var 1) :* K)
            (lit (of_nat 2) :* (var 1 :* var 3 :* (var 2 :* var 4 :- var 0 :* var 6) :+ var 0 :* var 2 :* (var 3 :* var 5 :- var 1 :* var 7)))
            (A ∷ A' ∷ B ∷ B' ∷ x ∷ x' ∷ y ∷ y' ∷ []) tt,
      )

  middle-x : middle.over.x ≃ of_nat 2 ⊠ (A' ⊠ B' ⊠ G.x ⊞ A ⊠ B ⊠ G'.x)
  middle-x =
      mixed (dividend a p).x (dividend a p').x (dividend b q).x (dividend b q').x _ _ _ _ (halfway-x a p p') (halfway-x b q q') (halfway-divisor a p p')
      (halfway-divisor b q q')

  middle-y : middle.over.y ≃ of_nat 2 ⊠ (A' ⊠ B' ⊠ G.y ⊞ A ⊠ B ⊠ G'.y)
  middle-y =
      mixed (dividend a p).y (dividend a p').y (dividend b q).y (dividend b q').y _ _ _ _ (halfway-y a p p') (halfway-y b q q') (halfway-divisor a p p')
      (halfway-divisor b q q')

  abbrev W : Int
  W = A ⊠ B

  abbrev W' : Int
  W' = A' ⊠ B'

  -- both differences brought to one divisor, and added
  abbrev N : Point
  N = record { x = W' ⊠ G.x ⊞ W ⊠ G'.x; y = W' ⊠ G.y ⊞ W ⊠ G'.y }

  middle-under : middle.under ≃ of_nat 4 ⊠ (W ⊠ W')
  middle-under =
      let m = divisor a (halfway a p p') in
      let n = divisor b (halfway b q q') in
      let twice : Expr → Expr = λ e. e :+ e in
      omega (
        arith,
        ⊠-cong m (A ⊠ A' ⊞ A ⊠ A') n (B ⊠ B' ⊞ B ⊠ B') (halfway-divisor a p p') (halfway-divisor b q q'),
        ring (twice (var 0 :* var 1) :* twice (var 2 :* var 3)) (lit (of_nat 4) :* (var 0 :* var 2 :* (var 1 :* var 3))) (A ∷ A' ∷ B ∷ B' ∷ []) tt,
      )

  middle-squared : dot middle.over middle.over ≃ of_nat 4 ⊠ dot N N
  middle-squared =
      let x = of_nat 2 ⊠ N.x in
      let y = of_nat 2 ⊠ N.y in
      omega (
        arith,
        ⊠-cong middle.over.x x middle.over.x x middle-x middle-x,
        ⊠-cong middle.over.y y middle.over.y y middle-y middle-y,
        ring (lit (of_nat 2) :* var 0 :* (lit (of_nat 2) :* var 0) :+ lit (of_nat 2) :* var 1 :* (lit (of_nat 2) :* var 1))
            (lit (of_nat 4) :* (var 0 :* var 0 :+ var 1 :* var 1))
            (N.x ∷ N.y ∷ []) tt,
      )

  some-W : 0Int ≺ W
  some-W = ⊠-pos A B (omega (arith, p.some)) (omega (arith, q.some))

  some-W' : 0Int ≺ W'
  some-W' = ⊠-pos A' B' (omega (arith, p'.some)) (omega (arith, q'.some))

  -- a difference of square g and divisor k, the other divisor being l, that is no longer than the one halfway
  no_longer : (k l g m mm : Int) → 0Int ≺ k → m ≃ of_nat 4 ⊠ (k ⊠ l) → mm ≃ of_nat 4 ⊠ dot N N → m ⊠ m ⊠ g ≼ k ⊠ k ⊠ mm → of_nat 4 ⊠ (l ⊠ l ⊠ g) ≼ dot N N
  no_longer k l g m mm some em emm h =
      let nn = dot N N in
      let kk = of_nat 4 ⊠ (k ⊠ k) in
      let mk = of_nat 4 ⊠ (k ⊠ l) in
      let rest = ⊠-nonneg-back kk (nn ⊟ of_nat 4 ⊠ (l ⊠ l ⊠ g)) (⊠-pos (of_nat 4) (k ⊠ k) (omega arith) (⊠-pos k k some some)) (omega (
        arith,
        ⊠-cong (m ⊠ m) (mk ⊠ mk) g g (⊠-cong m mk m mk em em) refl,
        ⊠-cong-r (k ⊠ k) mm (of_nat 4 ⊠ nn) emm,
        ring (lit (of_nat 4) :* (var 0 :* var 0) :* (var 3 :- lit (of_nat 4) :* (var 1 :* var 1 :* var 2)))
            (var 0 :* var 0 :* (lit (of_nat 4) :* var 3) :- lit (of_nat 4) :* (var 0 :* var 1) :* (lit (of_nat 4) :* (var 0 :* var 1)) :* var 2)
            (k ∷ l ∷ g ∷ nn ∷ []) tt,
      )) in
      omega arith

  same-difference : squared (difference_of a b p q) ≤ᶠ squared middle → squared (difference_of a b p' q') ≤ᶠ squared middle
      → difference_of a b p q ≈ difference_of a b p' q'
  same-difference h h' =
      let m = middle.under in
      let mm = dot middle.over middle.over in
      let swapped : m ≃ of_nat 4 ⊠ (W' ⊠ W) = omega (arith, middle-under, ⊠-cong-r (of_nat 4) (W ⊠ W') (W' ⊠ W) (⊠-comm W W')) in
      let one = no_longer W W' (dot G G) m mm some-W middle-under middle-squared h in
      let other = no_longer W' W (dot G' G') m mm some-W' swapped middle-squared h' in
      let x = var 1 :* var 2 :- var 0 :* var 4 in
      let y = var 1 :* var 3 :- var 0 :* var 5 in
      let X = var 1 :* var 2 :+ var 0 :* var 4 in
      let Y = var 1 :* var 3 :+ var 0 :* var 5 in
      let four : Expr → Expr = λ e. lit (of_nat 4) :* e in
      let zero-both = both_zero (W' ⊠ G.x ⊟ W ⊠ G'.x) (W' ⊠ G.y ⊟ W ⊠ G'.y) (omega (
        arith,
        one,
        other,
        ring (x :* x :+ y :* y :+ (x :* x :+ y :* y) :+ (X :* X :+ Y :* Y) :+ (X :* X :+ Y :* Y))
            (four (var 1 :* var 1 :* (var 2 :* var 2 :+ var 3 :* var 3)) :+ four (var 0 :* var 0 :* (var 4 :* var 4 :+ var 5 :* var 5)))
            (W ∷ W' ∷ G.x ∷ G.y ∷ G'.x ∷ G'.y ∷ []) tt,
      )) in
      (omega (arith, zero-both.0), omega (arith, zero-both.1))

pub one-nearest-difference : OneNearestDifference
one-nearest-difference a b u v h k =
    let d = difference_of a b h.p h.q in
    let e = difference_of a b k.p k.q in
    let p = halfway a h.p k.p in
    let q = halfway b h.q k.q in
    let m = difference_of a b p q in
    let some-d : 0Int ≺ d.under = ⊠-pos (divisor a h.p) (divisor b h.q) (omega (arith, h.p.some)) (omega (arith, h.q.some)) in
    let some-e : 0Int ≺ e.under = ⊠-pos (divisor a k.p) (divisor b k.q) (omega (arith, k.p.some)) (omega (arith, k.q.some)) in
    let same = same-difference a b h.p k.p h.q k.q (as_short u d m h.some h.is (h.least p q))
    (as_short v e m k.some k.is (k.least p q)) in
    same-through u d v some-d h.is (same-through d e v some-e same (same_back v e k.is))

-- a difference is nearest if, along the way to the origin from it, no corner of a lies further than i, none of b less far than j, and their difference not beyond it
pub nearest-by-corners : (a b : Outline) (u : Place) → 0Int ≺ u.under → (p : PointOf a) (q : PointOf b) → u ≈ difference_of a b p q → (i j : ℕ)
    → let d = opposite u.over in
    ((k : ℕ) → k < a.count → dot d (a.corner k) ≼ dot d (a.corner i)) → ((k : ℕ) → k < b.count → dot d (b.corner j) ≼ dot d (b.corner k))
    → dot u.over u.over ≼ u.under ⊠ dot u.over (difference (a.corner i) (b.corner j)) → NearestDifference a b u
nearest-by-corners a b u some p q is i j top_a top_b level = record { some = some; p = p; q = q; is = is; least = least }
  where
    least : (p : PointOf a) (q : PointOf b) → squared u ≤ᶠ squared (difference_of a b p q)
    least p q =
        let v = u.over in
        let k = u.under in
        let W = divisor a p ⊠ divisor b q in
        let G = gap a b p q in
        let z = difference (a.corner i) (b.corner j) in
        let some-W : 0Int ≺ W = ⊠-pos (divisor a p) (divisor b q) (omega (arith, p.some)) (omega (arith, q.some)) in
        let back : (w : Point) → dot (opposite v) w ≃ neg (dot v w) = λ w.
        ring (negated (var 0) :* var 2 :+ negated (var 1) :* var 3) (negated (var 0 :* var 2 :+ var 1 :* var 3)) (v.x ∷ v.y ∷ w.x ∷ w.y ∷ []) tt in
        no-nearer v G k W (omega arith) (omega (
          arith,
          ⊠-mono W (dot v v) (k ⊠ dot v z) (omega arith) level,
          ⊠-mono k (W ⊠ dot v z) (dot v G) (omega (arith, some))
              (omega (
                arith,
                within-reach a b (opposite v) i j top_a top_b p q,
                back G,
                ⊠-cong-r W (dot (opposite v) z) (neg (dot v z)) (back z),
                ⊠-neg W
                    (dot v z),
              )),
          ring (var 0 :* (var 1 :* var 2)) (var 1 :* (var 0 :* var 2)) (W ∷ k ∷ dot v z ∷ []) tt,
        ))
