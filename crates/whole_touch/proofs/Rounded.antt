-- What code needs: the difference of the two points from rounded centres, turns and weighted points, and the turn's length from a rounded turn. Assumes nothing.
use mathlib.Core.List.{[], ◌∷◌}
use Prim.Native.Nat.{ℕ, ◌+◌, ◌*◌}
use native.Mathlib.Omega.{arith}
use Rattle.integers.specs.Signed.{Int, of_nat, ◌⊞◌, ◌⊟◌, ◌⊠◌, ◌≼◌}
use Rattle.integers.specs.Whole.{Within}
use Rattle.integers.specs.Polynomial.{var, ◌:+◌, ◌:-◌, ◌:*◌}
use Rattle.integers.proofs.Ring.{ring}
use Rattle.integers.proofs.Sized.{within-product}
use Rattle.plane.specs.Plane.{Point, difference, scaled, dot, total}
use Rattle.plane.specs.Outline.{PointOf, divisor, dividend}
use Rattle.whole_move.specs.Piece.{turned_by, Moment, whole}
use Rattle.whole_way.specs.Mover.{Mover, on}
use Rattle.whole_move.proofs.Forms.{dot-near}
use Rattle.whole_move.proofs.Rounded.{turned-near-x, turned-near-y}
use Rattle.whole_touch.specs.Touch.{frame, lengthened, place_by, TouchAt, Steady, Touches}
use Rattle.whole_touch.specs.Seen.{Near, Small, place_from, off_by, Seen, SeenTouch}
use Rattle.whole_touch.proofs.Touching.{checked-touches}

itself : (n : ℕ) → Within n (of_nat n)
itself n = record { upper = omega arith; lower = omega arith }

-- j times what is off by at most a, and k times what is off by at most b
both : (j k a b : ℕ) (J K x y x' y' : Int) → Within j J → Within k K → Within a (x ⊟ x') → Within b (y ⊟ y') → Within (j * a + k * b) (J ⊠ x ⊞ K ⊠ y ⊟ (J ⊠
    x' ⊞ K ⊠ y'))
both j k a b J K x y x' y' hj hk h l =
    let p = within-product j a J (x ⊟ x') hj h in
    let q = within-product k b K (y ⊟ y') hk l in
    let same = ring (var 0 :* (var 2 :- var 4) :+ var 1 :* (var 3 :- var 5)) (var 0 :* var 2 :+ var 1 :* var 3 :- (var 0 :* var 4 :+ var 1 :* var 5)) (J ∷
    K ∷ x ∷ y ∷ x' ∷ y' ∷ []) tt in
    record { upper = omega (arith, same, p.upper, q.upper); lower = omega (arith, same, p.lower, q.lower) }

both-minus : (j k a b : ℕ) (J K x y x' y' : Int) → Within j J → Within k K → Within a (x ⊟ x') → Within b (y ⊟ y') → Within (j * a + k * b) (J ⊠ x ⊟ K ⊠
    y ⊟ (J ⊠ x' ⊟ K ⊠ y'))
both-minus j k a b J K x y x' y' hj hk h l =
    let p = within-product j a J (x ⊟ x') hj h in
    let q = within-product k b K (y ⊟ y') hk l in
    let same = ring (var 0 :* (var 2 :- var 4) :- var 1 :* (var 3 :- var 5)) (var 0 :* var 2 :- var 1 :* var 3 :- (var 0 :* var 4 :- var 1 :* var 5)) (J ∷
    K ∷ x ∷ y ∷ x' ∷ y' ∷ []) tt in
    record { upper = omega (arith, same, p.upper, q.lower); lower = omega (arith, same, p.lower, q.upper) }

-- ---- where a turn places a point
pub place-near : (m : Moment) (F w e0 e d M K : ℕ) (c t v c' t' v' : Point) → Near e0 c c' → Near e t t' → Near d v v' → Small M v → Small K t'
    → Near (off_by m F w e0 e d M K) (place_from m F (of_nat w) c t v) (place_from m F (of_nat w) c' t' v')
place-near m F w e0 e d M K c t v c' t' v' hc ht hv bv bt =
    let b = 2 * (e * M + d * K) in
    let J = of_nat F ⊠ of_nat w in
    let h_j = within-product F w (of_nat F) (of_nat w) (itself F) (itself w) in
    let h_h : Within (m.u + m.w) (whole m) = record { upper = omega arith; lower = omega arith } in
    record {
      x = both (F * w) (m.u + m.w) e0 b J (whole m) c.x (turned_by t v).x c'.x (turned_by t' v').x h_j h_h hc.x (turned-near-x e d M K t v t' v'
          ht.x ht.y hv.x hv.y bv.x bv.y bt.x bt.y);
      y = both (F * w) (m.u + m.w) e0 b J (whole m) c.y (turned_by t v).y c'.y (turned_by t' v').y h_j h_h hc.y (turned-near-y e d M K t v t' v'
          ht.x ht.y hv.x hv.y bv.x bv.y bt.x bt.y);
    }

-- and the difference of the two, each times the other's divisor
pub difference-near : (wa wb ea eb : ℕ) (x y x' y' : Point) → Near ea x x' → Near eb y y'
    → Near (wb * ea + wa * eb) (difference (scaled (of_nat wb) x) (scaled (of_nat wa) y)) (difference (scaled (of_nat wb) x') (scaled (of_nat wa) y'))
difference-near wa wb ea eb x y x' y' h l = record {
  x = both-minus wb wa ea eb (of_nat wb) (of_nat wa) x.x y.x x'.x y'.x (itself wb) (itself wa) h.x l.x;
  y = both-minus wb wa ea eb (of_nat wb) (of_nat wa) x.y y.y x'.y y'.y (itself wb) (itself wa) h.y l.y;
}

-- one rounding after another
chain : (a b : ℕ) (x y z : Int) → Within a (x ⊟ y) → Within b (y ⊟ z) → Within (a + b) (x ⊟ z)
chain a b x y z h l = record { upper = omega (arith, h.upper, l.upper); lower = omega (arith, h.lower, l.lower) }

pub near-near : (a b : ℕ) (x y z : Point) → Near a x y → Near b y z → Near (a + b) x z
near-near a b x y z h l = record { x = chain a b x.x y.x z.x h.x l.x; y = chain a b x.y y.y z.y h.y l.y }

-- All of it: what `Touches` asks of `shown`, where code's difference, made of its own centres, turns and points, is within f of scale times `shown`.
pub shown-near : (m : Moment) (F sa sb : ℕ) (a b : Mover) (p : PointOf (frame a)) (q : PointOf (frame b)) (e0 e d M K e0' e' d' M' K' : ℕ) (ca ta va cb tb
    vb : Point)
    → Near e0 (on m a.centre1 a.centre2) ca → Near e (lengthened m sa a) ta → Near d (dividend (frame a) p) va → Small M (dividend (frame a) p) →
    Small K ta
    → Near e0' (on m b.centre1 b.centre2) cb → Near e' (lengthened m sb b) tb → Near d' (dividend (frame b) q) vb → Small M' (dividend (frame b) q) →
    Small K' tb
    → (f scale : ℕ) (shown : Point)
    → let A = divisor (frame a) p in
    let B = divisor (frame b) q in
    let wa = total a.count p.weight in
    let wb = total b.count q.weight in
    Near f (difference (scaled B (place_from m F A ca ta va)) (scaled A (place_from m F B cb tb vb))) (scaled (of_nat scale) shown)
    → Near (wb * off_by m F wa e0 e d M K + wa * off_by m F wb e0' e' d' M' K' + f) (difference (scaled B (place_by m F sa a p)) (scaled A (place_by m F sb b
    q))) (scaled (of_nat scale) shown)
shown-near m F sa sb a b p q e0 e d M K e0' e' d' M' K' ca ta va cb tb vb h1 h2 h3 h4 h5 l1 l2 l3 l4 l5 f scale shown last =
    let wa = total a.count p.weight in
    let wb = total b.count q.weight in
    let A = divisor (frame a) p in
    let B = divisor (frame b) q in
    let pa = place_by m F sa a p in
    let pb = place_by m F sb b q in
    let pa' = place_from m F A ca ta va in
    let pb' = place_from m F B cb tb vb in
    let ea = off_by m F wa e0 e d M K in
    let eb = off_by m F wb e0' e' d' M' K' in
    near-near (wb * ea + wa * eb) f (difference (scaled B pa) (scaled A pb)) (difference (scaled B pa') (scaled A pb')) (scaled (of_nat scale) shown)
    (difference-near wa wb ea eb pa pb pa' pb'
    (place-near m F wa e0 e d M K (on m a.centre1 a.centre2) (lengthened m sa a) (dividend (frame a) p) ca ta va h1 h2 h3 h4 h5)
    (place-near m F wb e0' e' d' M' K' (on m b.centre1 b.centre2) (lengthened m sb b) (dividend (frame b) q) cb tb vb l1 l2 l3 l4 l5)) last

-- ---- the length of a turn, from a rounded one
module _ (e M : ℕ) (t t' : Point) (near : Near e t t') (small : Small M t) (small' : Small M t') where
  length-near : Within (4 * (e * M)) (dot t t ⊟ dot t' t')
  length-near = dot-near e M t t t' t' near.x near.y near.x near.y small.x small.y small'.x small'.y

  pub long-rounded : (l : Int) → l ⊞ of_nat (4 * (e * M)) ≼ dot t' t' → l ≼ dot t t
  long-rounded l h = omega (arith, length-near.lower)

  pub short-rounded : (l : Int) → dot t' t' ⊞ of_nat (4 * (e * M)) ≼ l → dot t t ≼ l
  short-rounded l h = omega (arith, length-near.upper)

-- ---- the check on what code has
seen-steady : (m : Moment) (F slack s : ℕ) (o : Mover) (p : PointOf (frame o)) (E : ℕ) (t : Point) (h : Seen m F slack s o p E t) → Steady m F slack s o p E
seen-steady m F slack s o p E t h =
    let P = lengthened m s o in
    let F2 = of_nat F ⊠ of_nat F in
    record {
      y = h.y;
      R = h.R;
      some = h.some;
      room = h.room;
      tame = h.tame;
      long = long-rounded h.e h.K P t h.turn h.small h.small-seen (F2 ⊟ of_nat h.y) h.long;
      short = short-rounded h.e h.K P t h.turn h.small h.small-seen (F2 ⊞ of_nat h.y) h.short;
      inside = h.inside;
      window = h.window;
    }

pub seen-checked : (m : Moment) (S distance : ℕ) (a b : Mover) → SeenTouch m S distance a b → Touches m S distance a b
seen-checked m S distance a b h =
    let F = h.F in
    let near = shown-near m F h.sa h.sb a b h.point_a h.point_b h.e0 h.body_a.e h.d h.M h.body_a.K h.e0' h.body_b.e h.d'
    h.M' h.body_b.K h.ca h.ta h.va h.cb h.tb h.vb
    h.centre_a h.body_a.turn h.place_a h.small_a h.body_a.small-seen h.centre_b h.body_b.turn h.place_b h.small_b
    h.body_b.small-seen h.f h.scale h.shown h.last in
    let e = total b.count h.point_b.weight * off_by m F (total a.count h.point_a.weight) h.e0 h.body_a.e h.d h.M h.body_a.K
    + total a.count h.point_a.weight * off_by m F (total b.count h.point_b.weight) h.e0' h.body_b.e h.d' h.M' h.body_b.K + h.f in
    record {
      F = F;
      slack = h.slack;
      some = h.some;
      wide = h.wide;
      point_a = h.point_a;
      point_b = h.point_b;
      sa = h.sa;
      sb = h.sb;
      EA = h.EA;
      EB = h.EB;
      body_a = seen-steady m F h.slack h.sa a h.point_a h.EA h.ta h.body_a;
      body_b = seen-steady m F h.slack h.sb b h.point_b h.EB h.tb h.body_b;
      shown = h.shown;
      scale = h.scale;
      e = e;
      D = h.D;
      reach = h.reach;
      near-x = near.x;
      near-y = near.y;
      rounding = h.rounding;
      reached = h.reached;
      enough = h.enough;
    }

pub seen-touches : (m : Moment) (S distance : ℕ) (a b : Mover) → SeenTouch m S distance a b → TouchAt m S distance a b
seen-touches m S distance a b h = checked-touches m S distance a b (seen-checked m S distance a b h)
