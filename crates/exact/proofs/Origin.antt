-- In which region a solver finds the origin: over whole numbers of bounded size, where it lies. Assumes nothing.
use mathlib.Core.Path.{◌≡◌, refl}
use mathlib.Core.Logic.{◌⊎◌, inl, inr}
use mathlib.Core.Bool.{Bool, true, false, ◌&&◌, cond}
use Prim.Native.Nat.{ℕ, ◌*◌}
use native.Mathlib.Omega.{arith}
use lib.Ieee.{Float, Format}
use lib.Ieee as I
use Rattle.integers.specs.Signed.{Int, 0Int, ◌⊠◌, ◌≼◌, ◌≺◌, ◌≃◌}
use Rattle.integers.specs.Whole.{IsWhole, Test}
use Rattle.integers.proofs.Ring.{ring}
use Rattle.integers.proofs.Compare.{test-and, lt-exact, le-exact}
use Rattle.integers.proofs.Sized.{neg-sized, mul-sized}
use Rattle.integers.specs.Polynomial.{◌:*◌}
use Rattle.model.specs.declared.Vector.{Vector}
use Rattle.model.specs.Simplex.{Region, at1, at2, at3, on12, on13, on23, inside, near, far, region2, region3}
use Rattle.model.specs.Simplex as Simplex
use Rattle.model.specs.Ground as Ground
use Rattle.plane.specs.Plane.{Point, difference, perp}
use Rattle.exact.specs.Regions.{toward, across, Lies2, Lies3}
use Rattle.exact.specs.SquaredPaper.{Room}
use Rattle.exact.proofs.Sketch.{differenceᴱ, dotᴱ, perpᴱ, towardᴱ, acrossᴱ, P, Q, R, parts}
use Rattle.exact.proofs.Vectors.{SizedPoint, zero-whole, whole-of-equal, minus-sized, dot-sized, perp_dot-sized}
use Rattle.exact.proofs.Enclosed.{enclosed}

-- ---- the solvers' tests: of a float against 0, at a vertex, at an edge
abbrev AtMost : Bool → Int → Type 0
AtMost t z = Test t (z ≼ 0Int) (0Int ≺ z)

module _ (f : Format) where
  abbrev vertex_test : Float → Float → Bool
  vertex_test x y = I.le x (Ground.zero f) && I.le y (Ground.zero f)

  abbrev edge_test : Float → Float → Float → Bool
  edge_test x y z = I.lt (Ground.zero f) x && I.lt (Ground.zero f) y && I.le z (Ground.zero f)

  at_most : {x : Float} {a : Int} → IsWhole x a → AtMost (I.le x (Ground.zero f)) a
  at_most {x} {a} i = le-exact x (Ground.zero f) a 0Int i (zero-whole f)

  vertex-tells : {x y : Float} {a b : Int} → IsWhole x a → IsWhole y b
      → Test (vertex_test x y) ((a ≼ 0Int) × (b ≼ 0Int)) ((0Int ≺ a) ⊎ (0Int ≺ b))
  vertex-tells {x} {y} i j = test-and (I.le x (Ground.zero f)) (I.le y (Ground.zero f)) (at_most i) (at_most j) (λ m n. (m, n)) (λ m. inl m) (λ m. inr m)

  edge-tells : {x y z : Float} {a b c : Int} → IsWhole x a → IsWhole y b → IsWhole z c
      → Test (edge_test x y z) ((0Int ≺ a) × (0Int ≺ b) × (c ≼ 0Int)) ((a ≼ 0Int) ⊎ ((b ≼ 0Int) ⊎ (0Int ≺ c)))
  edge-tells {x} {y} {z} {a} {b} i j k =
      let o = Ground.zero f in
      let above-x : Test (I.lt o x) (0Int ≺ a) (a ≼ 0Int) = lt-exact o x 0Int a (zero-whole f) i in
      let above-y : Test (I.lt o y) (0Int ≺ b) (b ≼ 0Int) = lt-exact o y 0Int b (zero-whole f) j in
      let both : Test (I.lt o x && I.lt o y) ((0Int ≺ a) × (0Int ≺ b)) ((a ≼ 0Int) ⊎ (b ≼ 0Int)) =
      test-and (I.lt o x) (I.lt o y) above-x above-y (λ m n. (m, n)) (λ m. inl m) (λ m. inr m) in
      test-and (I.lt o x && I.lt o y) (I.le z o) both (at_most k) (λ m n. (m.0, m.1, n)) (λ m. elim m [ inl n ↦ inl n | inr n ↦ inr (inl n) ])
      (λ m. inr (inr m))

module _ (f : Format) (bound : ℕ) (room : Room f bound) where
  -- ---- the weights that the solvers test
  module _ {u w : Vector} {y z : Point} (i : SizedPoint bound u y 1 1) (j : SizedPoint bound w z 1 1) where
    far-is : IsWhole (far f u w) (toward y z)
    far-is = (neg-sized f bound room.0 room.1 (dot-sized f bound room i (minus-sized f bound room j i tt tt) tt tt tt)).int

    near-is : IsWhole (near f u w) (toward z y)
    near-is =
        whole-of-equal (dot-sized f bound room j (minus-sized f bound room j i tt tt) tt tt tt).int
        (ring (dotᴱ Q (differenceᴱ Q P)) (towardᴱ Q P) (parts y z y) tt)

  pub region2-lies : {u w : Vector} {y z : Point} → SizedPoint bound u y 1 1 → SizedPoint bound w z 1 1 → Lies2 y z (region2 f u w)
  unfolding region2
  region2-lies {u} {w} {y} {z} i j =
      go (I.le (far f u w) (Ground.zero f)) (I.le (near f u w) (Ground.zero f)) (at_most f (far-is i j)) (at_most f (near-is i j))
    where
      go : (s t : Bool) → AtMost s (toward y z) → AtMost t (toward z y) → Lies2 y z (cond s at1 (cond t at2 on12))
      go true t h k = h
      go false true h k = k
      go false false h k = (k, h)

  -- where the origin is not ahead of vertex 1, the first test of all says so
  pub region2-stays : {u w : Vector} {y z : Point} → SizedPoint bound u y 1 1 → SizedPoint bound w z 1 1 → toward y z ≼ 0Int → region2 f u w ≡ at1
  unfolding region2
  region2-stays {u} {w} {y} {z} i j behind = go (I.le (far f u w) (Ground.zero f)) (at_most f (far-is i j))
    where
      go : (s : Bool) → AtMost s (toward y z) → cond s at1 (cond (I.le (near f u w) (Ground.zero f)) at2 on12) ≡ at1
      go true h = refl
      go false h = let bad : ⊥ = omega arith in absurd bad

  module _ {u w h : Vector} {x y z : Point} (i : SizedPoint bound u x 1 1) (j : SizedPoint bound w y 1 1) (k : SizedPoint bound h z 1 1) where
    -- the triangle's weight of the vertex opposite to an edge
    opposite-is : {v v' : Vector} {p p' : Point} {t : Int} → SizedPoint bound v p 1 1 → SizedPoint bound v' p' 1 1
        → perp (difference y x) (difference z x) ⊠ perp p p' ≃ t → IsWhole (Simplex.opposite f u w h v v') t
    opposite-is m n e =
        let doubled = perp_dot-sized f bound room (minus-sized f bound room j i tt tt) (minus-sized f bound room k i tt tt) tt tt tt in
        whole-of-equal (mul-sized f bound room.0 room.1 doubled (perp_dot-sized f bound room m n tt tt tt) tt tt).int e

    pub region3-lies : Lies3 x y z (region3 f u w h)
    unfolding region3
    region3-lies =
        let tests = parts x y z in
        let doubled = perpᴱ (differenceᴱ Q P) (differenceᴱ R P) in
        let weight_w = opposite-is k i (ring (doubled :* perpᴱ R P) (acrossᴱ R P Q) tests tt) in
        let weight_u = opposite-is j k (ring (doubled :* perpᴱ Q R) (acrossᴱ Q R P) tests tt) in
        go (vertex_test f (far f u w) (far f u h))
        (edge_test f (near f u w) (far f u w) (Simplex.opposite f u w h u w))
        (edge_test f (near f u h) (far f u h) (Simplex.opposite f u w h h u))
        (vertex_test f (near f u w) (far f w h))
        (vertex_test f (near f u h) (near f w h))
        (edge_test f (near f w h) (far f w h) (Simplex.opposite f u w h w h))
        (vertex-tells f (far-is i j) (far-is i k))
        (edge-tells f (near-is i j) (far-is i j) (opposite-is i j refl))
        (edge-tells f (near-is i k) (far-is i k) weight_w)
        (vertex-tells f (near-is i j) (far-is j k))
        (vertex-tells f (near-is i k) (near-is j k))
        (edge-tells f (near-is j k) (far-is j k) weight_u)
      where
        go : (b1 b2 b3 b4 b5 b6 : Bool)
            → Test b1 ((toward x y ≼ 0Int) × (toward x z ≼ 0Int)) ((0Int ≺ toward x y) ⊎ (0Int ≺ toward x z))
            → Test b2 ((0Int ≺ toward y x) × (0Int ≺ toward x y) × (across x y z ≼ 0Int)) ((toward y x ≼ 0Int) ⊎ ((toward x y ≼ 0Int) ⊎ (0Int ≺ across x y z)))
            → Test b3 ((0Int ≺ toward z x) × (0Int ≺ toward x z) × (across z x y ≼ 0Int)) ((toward z x ≼ 0Int) ⊎ ((toward x z ≼ 0Int) ⊎ (0Int ≺ across z x y)))
            → Test b4 ((toward y x ≼ 0Int) × (toward y z ≼ 0Int)) ((0Int ≺ toward y x) ⊎ (0Int ≺ toward y z))
            → Test b5 ((toward z x ≼ 0Int) × (toward z y ≼ 0Int)) ((0Int ≺ toward z x) ⊎ (0Int ≺ toward z y))
            → Test b6 ((0Int ≺ toward z y) × (0Int ≺ toward y z) × (across y z x ≼ 0Int)) ((toward z y ≼ 0Int) ⊎ ((toward y z ≼ 0Int) ⊎ (0Int ≺ across y z x)))
            → Lies3 x y z (cond b1 at1 (cond b2 on12 (cond b3 on13 (cond b4 at2 (cond b5 at3 (cond b6 on23 inside))))))
        go true b2 b3 b4 b5 b6 h1 h2 h3 h4 h5 h6 = h1
        go false true b3 b4 b5 b6 h1 h2 h3 h4 h5 h6 = h2
        go false false true b4 b5 b6 h1 h2 h3 h4 h5 h6 = h3
        go false false false true b5 b6 h1 h2 h3 h4 h5 h6 = h4
        go false false false false true b6 h1 h2 h3 h4 h5 h6 = h5
        go false false false false false true h1 h2 h3 h4 h5 h6 = h6
        go false false false false false false h1 h2 h3 h4 h5 h6 = enclosed x y z h1 h2 h3 h4 h5 h6

    -- where the origin is ahead of both ends of edge 12, and not on vertex 3's side, the first two tests say so
    pub region3-stays : 0Int ≺ toward x y → 0Int ≺ toward y x → across x y z ≼ 0Int → region3 f u w h ≡ on12
    unfolding region3
    region3-stays ahead-of-x ahead-of-y off =
        go (vertex_test f (far f u w) (far f u h)) (edge_test f (near f u w) (far f u w) (Simplex.opposite f u w h u w)) _
        (vertex-tells f (far-is i j) (far-is i k)) (edge-tells f (near-is i j) (far-is i j) (opposite-is i j refl))
      where
        go : (b1 b2 : Bool) (rest : Region)
            → Test b1 ((toward x y ≼ 0Int) × (toward x z ≼ 0Int)) ((0Int ≺ toward x y) ⊎ (0Int ≺ toward x z))
            → Test b2 ((0Int ≺ toward y x) × (0Int ≺ toward x y) × (across x y z ≼ 0Int)) ((toward y x ≼ 0Int) ⊎ ((toward x y ≼ 0Int) ⊎ (0Int ≺ across x y z)))
            → cond b1 at1 (cond b2 on12 rest) ≡ on12
        go true b2 rest h1 h2 = let bad : ⊥ = omega (arith, h1.0) in absurd bad
        go false true rest h1 h2 = refl
        go false false rest h1 (inl n) = let bad : ⊥ = omega arith in absurd bad
        go false false rest h1 (inr (inl n)) = let bad : ⊥ = omega arith in absurd bad
        go false false rest h1 (inr (inr n)) = let bad : ⊥ = omega arith in absurd bad
