-- A shift of B that the pose takes back leaves every posed corner where it was, and so the nearest difference. Assumes nothing.
use mathlib.Core.Path.{◌≡◌, refl, sym, subst}
use mathlib.Core.List.{List, [], ◌∷◌}
use Prim.Native.Nat.{ℕ, zero, suc, ◌/◌, ◌<◌}
use native.Mathlib.Omega.{arith}
use lib.ListN.{length}
use lib.Ieee.{Float, Format}
use Rattle.integers.specs.Signed.{Int, of_nat, ◌⊠◌, ◌≃◌}
use Rattle.integers.specs.Polynomial.{var, ◌:+◌, ◌:-◌, ◌:*◌}
use Rattle.integers.proofs.Signed.{⊠-cong, ⊠-cong-r}
use Rattle.integers.proofs.Ring.{ring}
use Rattle.model.specs.declared.Pose.{Pose}
use Rattle.model.specs.declared.SimplexCache.{SimplexCache}
use Rattle.model.specs.declared.Ending.{Ending}
use Rattle.plane.specs.Plane.{Point, sum, difference, dot, sum_below}
use Rattle.plane.specs.Fraction.{Place}
use Rattle.plane.specs.Outline.{Outline, PointOf, divisor, dividend, gap}
use Rattle.exact.specs.SquaredPaper.{Near, SquaredPaper, Room, bound_of, outline_a, posed_b, InTheDomain, Exact}
use Rattle.exchange.specs.Exchange.{NearestDifference, taken_off, IsShifted, posed_shifted, ShiftKeeps, Shift}
use Rattle.exchange.proofs.Told.{told, told-too}
use Rattle.exact.proofs.Demand3.{demand3, room_of}

-- ---- the same corners, written in another way
sum_same : (n : ℕ) (weight : ℕ → ℕ) (g h : ℕ → Int) → ((i : ℕ) → g i ≃ h i)
    → sum_below n (λ i. of_nat (weight i) ⊠ g i) ≃ sum_below n (λ i. of_nat (weight i) ⊠ h i)
sum_same zero weight g h same = refl
sum_same (suc n) weight g h same = omega (arith, sum_same n weight g h same, ⊠-cong-r (of_nat (weight n)) (g n) (h n) (same n))

module _ (a : Outline) (n : ℕ) (g h : ℕ → Point) (same-x : (i : ℕ) → (g i).x ≃ (h i).x) (same-y : (i : ℕ) → (g i).y ≃ (h i).y) where
  abbrev one : Outline
  one = record { count = n; corner = g }

  abbrev other : Outline
  other = record { count = n; corner = h }

  abbrev again : PointOf other → PointOf one
  again q = record { weight = q.weight; some = q.some }

  module _ (p : PointOf a) (q : PointOf other) where
    gap-x : (gap a one p (again q)).x ≃ (gap a other p q).x
    gap-x = omega (arith, ⊠-cong-r (divisor a p) (dividend one (again q)).x (dividend other q).x (sum_same n q.weight (λ i. (g i).x) (λ i. (h i).x) same-x))

    gap-y : (gap a one p (again q)).y ≃ (gap a other p q).y
    gap-y = omega (arith, ⊠-cong-r (divisor a p) (dividend one (again q)).y (dividend other q).y (sum_same n q.weight (λ i. (g i).y) (λ i. (h i).y) same-y))

  nearest-again : (u : Place) → NearestDifference a one u → NearestDifference a other u
  nearest-again u N =
      let p = N.p in
      let q : PointOf other = record { weight = N.q.weight; some = N.q.some } in
      let k = u.under in
      record {
        some = N.some;
        p = p;
        q = q;
        is = (
          omega (arith, N.is.0, ⊠-cong-r k (gap a one p (again q)).x (gap a other p q).x (gap-x p q)),
          omega (arith, N.is.1, ⊠-cong-r k (gap a one p (again q)).y (gap a other p q).y (gap-y p q)),
        );
        least = λ p q. let v = gap a one p (again q) in
            let w = gap a other p q in
            omega (
              arith,
              N.least p (again q),
              ⊠-cong-r (k ⊠ k) (dot v v) (dot w w)
                  (omega (arith, ⊠-cong v.x w.x v.x w.x (gap-x p q) (gap-x p q), ⊠-cong v.y w.y v.y w.y (gap-y p q) (gap-y p q))),
            );
      }

-- ---- B shifted
module _ {bound : ℕ} {p : Pose} {a b : List Float} (paper : SquaredPaper bound p a b) (by : Point) (l : List Float) where
  posed-x : (j : ℕ) → ((posed_b paper).corner j).x ≃ ((posed_shifted paper by l).corner j).x
  posed-x j =
      let z = paper.corner_b j in
      ring (var 0 :* var 2 :- var 1 :* var 3 :+ var 6) (var 0 :* (var 2 :+ var 4) :- var 1 :* (var 3 :+ var 5) :+ (var 6 :- (var 0 :* var 4 :- var 1 :* var 5)))
      (paper.cosine ∷ paper.sine ∷ z.x ∷ z.y ∷ by.x ∷ by.y ∷ paper.shift.x ∷ []) tt

  posed-y : (j : ℕ) → ((posed_b paper).corner j).y ≃ ((posed_shifted paper by l).corner j).y
  posed-y j =
      let z = paper.corner_b j in
      ring (var 1 :* var 2 :+ var 0 :* var 3 :+ var 6) (var 1 :* (var 2 :+ var 4) :+ var 0 :* (var 3 :+ var 5) :+ (var 6 :- (var 1 :* var 4 :+ var 0 :* var 5)))
      (paper.cosine ∷ paper.sine ∷ z.x ∷ z.y ∷ by.x ∷ by.y ∷ paper.shift.y ∷ []) tt

  abbrev Nearest : (ℕ → Point) → ℕ → Place → Type 0
  Nearest corner n u = NearestDifference (outline_a paper) (record { count = n; corner = corner }) u

  abbrev first : ℕ → Point
  first = (posed_b paper).corner

  abbrev second : ℕ → Point
  second = (posed_shifted paper by l).corner

  keeps : length l ≡ length b → (u : Place) → Nearest first (length b / 2) u → Nearest second (length l / 2) u
  keeps e u N = subst (λ (n : ℕ). Nearest second (n / 2) u) (sym e) (nearest-again (outline_a paper) (length b / 2) first second posed-x posed-y u N)

  gives_back : length l ≡ length b → (u : Place) → Nearest second (length l / 2) u → Nearest first (length b / 2) u
  gives_back e u N =
      nearest-again (outline_a paper) (length b / 2) second first (λ j. omega (arith, posed-x j)) (λ j. omega (arith, posed-y j)) u
      (subst (λ (n : ℕ). Nearest second (n / 2) u) e N)

  module _ {q : Pose} (shifted : IsShifted paper by q l) where
    near-still : (i j : ℕ) → i < length a / 2 → j < length l / 2 → Near bound (difference (paper.corner_a i) ((posed_shifted paper by l).corner j))
    near-still i j h k =
        let n = paper.near i j h (subst (λ (m : ℕ). j < m / 2) shifted.same_length k) in
        record {
          x = record { upper = omega (arith, n.x.upper, posed-x j); lower = omega (arith, n.x.lower, posed-x j) };
          y = record { upper = omega (arith, n.y.upper, posed-y j); lower = omega (arith, n.y.lower, posed-y j) };
        }

    pub shifted-paper : SquaredPaper bound q a l
    shifted-paper = record {
      corner_a = paper.corner_a;
      corner_b = λ j. sum (paper.corner_b j) by;
      cosine = paper.cosine;
      sine = paper.sine;
      shift = taken_off paper by;
      whole_a = paper.whole_a;
      whole_b = shifted.points;
      whole_cosine = shifted.cosine;
      whole_sine = shifted.sine;
      quarter_turn = paper.quarter_turn;
      whole_shift = shifted.shift;
      near = near-still;
    }

    -- in the domain where its corners and its shift are small enough
    pub shifted-in-domain : (f : Format) (ra rb : Float) → InTheDomain f paper ra rb → ((j : ℕ) → j < length b / 2 → Near 1048576 (sum (paper.corner_b j) by))
        → Near 1048576 (taken_off paper by) → InTheDomain f shifted-paper ra rb
    unfolding shifted-paper
    shifted-in-domain f ra rb d near off = record {
      points_a = d.points_a;
      points_b = record {
        even = rw shifted.same_length d.points_b.even;
        some = rw shifted.same_length d.points_b.some;
        few = rw shifted.same_length d.points_b.few;
      };
      near_a = d.near_a;
      near_b = λ j k. near j (subst (λ (m : ℕ). j < m / 2) shifted.same_length k);
      radii = d.radii;
      near_shift = off;
    }

    exact-there : {e : Ending} {k : SimplexCache} → Exact (outline_a shifted-paper) (posed_b shifted-paper) e k
        → Exact (outline_a paper) (posed_shifted paper by l) e k
    unfolding shifted-paper
    exact-there x = x

pub shift-keeps : ShiftKeeps
shift-keeps bound p a b paper by l e u = (keeps paper by l e u, gives_back paper by l e u)

pub shift : (f : Format) (bound : ℕ) → Room f bound → Shift f bound
shift f bound room p q a ra b l rb radii radii' pair pair' k k' paper by o o' shifted arrays arrays' is is' goes goes' =
    let (u, here) = told _ _ _ _ (demand3 f bound room p a ra b rb radii pair k paper o arrays is goes) in
    let (_, there) =
    told _ _ _ _ (exact-there paper by l shifted (demand3 f bound room q a ra l rb radii' pair' k' (shifted-paper paper by l shifted) o' arrays' is' goes')) in
    let again = told-too _ _ there (keeps paper by l shifted.same_length u here.nearest) in
    record {
      touches_too = λ e. again.origin_touches (here.touching_at_origin e);
      touches_back = λ e. here.origin_touches (again.touching_at_origin e);
      both = u;
      told_here = here;
      told_there = again;
    }

-- ---- at the bound of each format
pub shift-on-squared-paper : (f : Format) → Shift f (bound_of f)
shift-on-squared-paper f = shift f (bound_of f) (room_of f)
