-- What a solve keeps of the places held. Whole-number weights on the kept ones give the place nearest to the origin, the search direction d is its opposite, a whole
-- number of times, and nothing held lies further along d than the kept place: one lemma for a vertex and one for an edge. Assumes nothing.
use mathlib.Core.Path.{refl}
use mathlib.Core.List.{[], ◌∷◌}
use Prim.Native.Nat.{ℕ, zero, suc, ◌+◌, ◌-◌, ◌<◌}
use native.Mathlib.Nat.{le_refl, zero-lt-suc}
use native.Mathlib.Omega.{arith}
use Rattle.integers.specs.Signed.{Int, 0Int, of_nat, neg, ◌⊞◌, ◌⊠◌, ◌≼◌, ◌≺◌, ◌≃◌}
use Rattle.integers.specs.Polynomial.{Expr, var, lit, ◌:+◌, ◌:-◌, ◌:*◌, negated}
use Rattle.integers.proofs.Signed.{⊠-cong, ⊠-cong-r}
use Rattle.integers.proofs.Ring.{ring}
use Rattle.plane.specs.Plane.{Point, sum, difference, opposite, dot, perp, total, weighted_sum}
use Rattle.exact.specs.Regions.{toward, across}
use Rattle.exact.proofs.Below.{below1, below2}
use Rattle.exact.proofs.Sketch.{dotᴱ, towardᴱ, acrossᴱ, off_edgeᴱ, P, Q, R, parts}

pub record Kept (d : Point) (m : ℕ) (kept : ℕ → Point) (n : ℕ) (held : ℕ → Point) : Type 0 where
  pub weight : ℕ → ℕ
  pub some : 0 < total m weight
  pub times : ℕ
  pub forth : 0 < times
  pub along-x : d.x ≃ neg (of_nat times ⊠ (weighted_sum m weight kept).x)
  pub along-y : d.y ≃ neg (of_nat times ⊠ (weighted_sum m weight kept).y)
  pub level : Int
  pub flat : dot d (weighted_sum m weight kept) ≃ of_nat (total m weight) ⊠ level
  pub own : (i : ℕ) → i < m → dot d (kept i) ≼ level
  pub top : (i : ℕ) → i < n → dot d (held i) ≼ level

-- the origin is a weighted mean of the places held
pub record Covered (n : ℕ) (held : ℕ → Point) : Type 0 where
  pub weight : ℕ → ℕ
  pub some : 0 < total n weight
  pub zero-x : (weighted_sum n weight held).x ≃ 0Int
  pub zero-y : (weighted_sum n weight held).y ≃ 0Int

pub dot-cong : (d e u : Point) → d.x ≃ e.x → d.y ≃ e.y → dot d u ≃ dot e u
dot-cong d e u h k = omega (arith, ⊠-cong d.x e.x u.x u.x h refl, ⊠-cong d.y e.y u.y u.y k refl)

-- a direction may be written in another way
pub same-direction : {d : Point} {m : ℕ} {kept : ℕ → Point} {n : ℕ} {held : ℕ → Point} (e : Point) → d.x ≃ e.x → d.y ≃ e.y → Kept d m kept n held
    → Kept e m kept n held
same-direction {d} {m} {kept} {n} {held} e h k K = record {
  weight = K.weight;
  some = K.some;
  times = K.times;
  forth = K.forth;
  along-x = omega (arith, K.along-x);
  along-y = omega (arith, K.along-y);
  level = K.level;
  flat = omega (arith, K.flat, dot-cong d e (weighted_sum m K.weight kept) h k);
  own = λ i l. omega (arith, K.own i l, dot-cong d e (kept i) h k);
  top = λ i l. omega (arith, K.top i l, dot-cong d e (held i) h k);
}

abbrev 1ᴱ : Expr
1ᴱ = lit (of_nat 1)

abbrev 0ᴱ : Expr
0ᴱ = lit 0Int

-- ---- a vertex, by the weight 1: the direction is its opposite
pub kept-vertex : (kept : ℕ → Point) (n : ℕ) (held : ℕ → Point) → ((i : ℕ) → i < n → dot (opposite (kept 0)) (held i) ≼ dot (opposite (kept 0)) (kept 0))
    → Kept (opposite (kept 0)) 1 kept n held
kept-vertex kept n held top =
    let ρ = parts (kept 0) (kept 0) (kept 0) in
    let x = negated (var 0) in
    let y = negated (var 1) in
    record {
      weight = λ i. 1;
      some = zero-lt-suc 0;
      times = 1;
      forth = zero-lt-suc 0;
      along-x = ring x (negated (1ᴱ :* (0ᴱ :+ 1ᴱ :* var 0))) ρ tt;
      along-y = ring y (negated (1ᴱ :* (0ᴱ :+ 1ᴱ :* var 1))) ρ tt;
      level = dot (opposite (kept 0)) (kept 0);
      own = below1 _ (le_refl _);
      flat = ring (x :* (0ᴱ :+ 1ᴱ :* var 0) :+ y :* (0ᴱ :+ 1ᴱ :* var 1)) (1ᴱ :* (x :* var 0 :+ y :* var 1)) ρ tt;
      top = top;
    }

-- ---- an edge, by the weights `toward`: the direction stands across it
pub natural : (a : Int) → 0Int ≺ a → (n : ℕ) × (of_nat n ≃ a) × (0 < n)
natural a h = (a.plus - a.minus, omega arith, omega arith)

abbrev pub two : ℕ → ℕ → ℕ → ℕ
two j k zero = j
two j k (suc i) = k

abbrev pub off_edge : Point → Point → Point
off_edge u w =
    let e = difference w u in
    let k = perp (sum u w) e in
    record { x = neg k ⊠ e.y; y = k ⊠ e.x }

pub off-either-way : (u w : Point) → ((off_edge u w).x ≃ (off_edge w u).x) × ((off_edge u w).y ≃ (off_edge w u).y)
off-either-way u w = (ring (off_edgeᴱ P Q).x (off_edgeᴱ Q P).x (parts u w u) tt, ring (off_edgeᴱ P Q).y (off_edgeᴱ Q P).y (parts u w u) tt)

-- both ends lie equally far along it
pub ends-level : (u w : Point) → dot (off_edge u w) w ≃ dot (off_edge u w) u
ends-level u w = ring (dotᴱ (off_edgeᴱ P Q) Q) (dotᴱ (off_edgeᴱ P Q) P) (parts u w u) tt

pub kept-edge : (kept : ℕ → Point) (n : ℕ) (held : ℕ → Point) → 0Int ≺ toward (kept 1) (kept 0) → 0Int ≺ toward (kept 0) (kept 1)
    → ((i : ℕ) → i < n → dot (off_edge (kept 0) (kept 1)) (held i) ≼ dot (off_edge (kept 0) (kept 1)) (kept 0)) → Kept (off_edge (kept 0) (kept 1)) 2 kept n held
kept-edge kept n held h k top =
    let u = kept 0 in
    let w = kept 1 in
    let d = off_edge u w in
    let (j, at-u, some-u) = natural (toward w u) h in
    let (k, at-w, some-w) = natural (toward u w) k in
    let weighed : (a b : Int) → of_nat j ⊠ a ⊞ of_nat k ⊠ b ≃ toward w u ⊠ a ⊞ toward u w ⊠ b =
    λ a b. omega (arith, ⊠-cong (of_nat j) (toward w u) a a at-u refl, ⊠-cong (of_nat k) (toward u w) b b at-w refl) in
    let twice : (a b : Int) → of_nat 2 ⊠ (0Int ⊞ of_nat j ⊠ a ⊞ of_nat k ⊠ b) ≃ of_nat 2 ⊠ (toward w u ⊠ a ⊞ toward u w ⊠ b) =
    λ a b. ⊠-cong-r (of_nat 2) (0Int ⊞ of_nat j ⊠ a ⊞ of_nat k ⊠ b) (toward w u ⊠ a ⊞ toward u w ⊠ b) (omega (arith, weighed a b)) in
    let mean : (a b : Expr) → Expr = λ a b. negated (lit (of_nat 2) :* (towardᴱ Q P :* a :+ towardᴱ P Q :* b)) in
    record {
      weight = two j k;
      some = omega arith;
      times = 2;
      forth = zero-lt-suc 1;
      along-x = omega (arith, twice u.x w.x, ring (off_edgeᴱ P Q).x (mean P.x Q.x) (parts u w u) tt);
      along-y = omega (arith, twice u.y w.y, ring (off_edgeᴱ P Q).y (mean P.y Q.y) (parts u w u) tt);
      level = dot d u;
      own = below2 _ (le_refl _) (omega (arith, ends-level u w));
      flat = omega (
        arith,
        ring (var 0 :* (0ᴱ :+ var 6 :* var 2 :+ var 7 :* var 4) :+ var 1 :* (0ᴱ :+ var 6 :* var 3 :+ var 7 :* var 5))
            (var 6 :* (var 0 :* var 2 :+ var 1 :* var 3) :+ var 7 :* (var 0 :* var 4 :+ var 1 :* var 5))
            (d.x ∷ d.y ∷ u.x ∷ u.y ∷ w.x ∷ w.y ∷ of_nat j ∷ of_nat k ∷ []) tt,
        ⊠-cong-r (of_nat k) (dot d w) (dot d u) (ends-level u w),
        ring ((0ᴱ :+ var 0 :+ var 1) :* var 2) (var 0 :* var 2 :+ var 1 :* var 2) (of_nat j ∷ of_nat k ∷ dot d u ∷ []) tt,
      );
      top = top;
    }

-- ---- a triangle, by the weights `across`: nothing is left of the sum
abbrev three : ℕ → ℕ → ℕ → ℕ → ℕ
three j k l zero = j
three j k l (suc i) = two k l i

pub covered : (held : ℕ → Point) → 0Int ≺ across (held 1) (held 2) (held 0) → 0Int ≺ across (held 2) (held 0) (held 1) → 0Int ≺ across (held 0) (held 1)
    (held 2)
    → Covered 3 held
covered held hu hw hh =
    let u = held 0 in
    let w = held 1 in
    let h = held 2 in
    let (j, at-u, some-u) = natural (across w h u) hu in
    let (k, at-w, some-w) = natural (across h u w) hw in
    let (l, at-h, some-h) = natural (across u w h) hh in
    let weighed : (a b c : Int) → 0Int ⊞ of_nat j ⊠ a ⊞ of_nat k ⊠ b ⊞ of_nat l ⊠ c ≃ across w h u ⊠ a ⊞ across h u w ⊠ b ⊞ across u w h ⊠ c =
    λ a b c. omega (
      arith,
      ⊠-cong (of_nat j) (across w h u) a a at-u refl,
      ⊠-cong (of_nat k) (across h u w) b b at-w refl,
      ⊠-cong (of_nat l) (across u w h) c c at-h refl,
    ) in
    let sum_of : (a b c : Expr) → Expr = λ a b c. acrossᴱ Q R P :* a :+ acrossᴱ R P Q :* b :+ acrossᴱ P Q R :* c in
    record {
      weight = three j k l;
      some = omega arith;
      zero-x = omega (arith, weighed u.x w.x h.x, ring (sum_of P.x Q.x R.x) 0ᴱ (parts u w h) tt);
      zero-y = omega (arith, weighed u.y w.y h.y, ring (sum_of P.y Q.y R.y) 0ᴱ (parts u w h) tt);
    }

-- ---- nothing held lies further along the direction
-- off a vertex: what the origin is not ahead of the vertex toward
pub behind-vertex : (u h : Point) → toward u h ≼ 0Int → dot (opposite u) h ≼ dot (opposite u) u
behind-vertex u h l =
    omega (
      arith,
      ring (negated (var 0) :* var 2 :+ negated (var 1) :* var 3) (negated (var 0) :* var 0 :+ negated (var 1) :* var 1 :+ towardᴱ P Q)
          (parts u h u) tt,
    )

-- off an edge: a third vertex on whose side the origin does not lie
pub behind-edge : (u w h : Point) → across u w h ≼ 0Int → dot (off_edge u w) h ≼ dot (off_edge u w) u
behind-edge u w h l =
    omega (arith, ring (dotᴱ (off_edgeᴱ P Q) P) (dotᴱ (off_edgeᴱ P Q) R :- acrossᴱ P Q R :- acrossᴱ P Q R) (parts u w h) tt)
