-- Which state each region of a solve leads to: at the start, and after a round that improves. Assumes nothing.
use mathlib.Core.Path.{refl}
use mathlib.Core.Logic.{◌⊎◌, inl, inr}
use Prim.Native.Nat.{ℕ, suc, ◌^◌, ◌≤◌}
use native.Mathlib.Omega.{arith}
use Rattle.integers.specs.Signed.{0Int, of_nat, ◌≼◌, ◌≺◌}
use Rattle.integers.specs.Polynomial.{var, ◌:+◌, ◌:*◌, negated}
use Rattle.integers.proofs.Ring.{ring}
use Rattle.model.specs.Simplex.{Region, at1, at2, at3, on12, on13, on23, inside}
use Rattle.plane.specs.Plane.{Point, difference, opposite, dot}
use Rattle.exact.specs.Regions.{toward, Lies2, Lies3}
use Rattle.round_limit.specs.RoundLimit.{rounds_for}
use Rattle.exact.proofs.Sketch.{P, dotᴱ, parts}
use Rattle.exact.proofs.Enclosed.{across-swap}
use Rattle.exact.proofs.Kept.{off_edge, behind-edge}
use Rattle.round_limit.proofs.Turning.{Sense, turn, ahead}
use Rattle.round_limit.proofs.Edge.{Edge, edge-back, edge-level, edge-side, ahead-off-vertex}
use Rattle.round_limit.proofs.States.{Certified, AtVertex, free_vertex, AtEdge, free_edge}
use Rattle.round_limit.proofs.States.{vertex-to-vertex, vertex-to-edge, edge-to-vertex, edge-to-edge, edge-to-other}

off-edge : {x y : Point} → 0Int ≺ toward x y → 0Int ≺ toward y x → Edge (off_edge x y) x y
off-edge h k = record { same-x = refl; same-y = refl; ahead-of-x = h; ahead-of-y = k }

-- a point and its opposite are equally long
as_long : (q : Point) → 0Int ≺ dot (opposite q) (opposite q) → 0Int ≺ dot q q
as_long q h = omega (arith, ring (negated (var 0) :* negated (var 0) :+ negated (var 1) :* negated (var 1)) (dotᴱ P P) (parts q q q) tt)

module _ (D : Point → Type 0) (J k : ℕ) where
  -- ---- what is to be known after each region; of no direction, nothing
  abbrev pub KnownVertex : Point → Type 0
  KnownVertex x = 0Int ≺ dot (opposite x) (opposite x) → AtVertex D J k x

  -- in either order
  abbrev pub EitherWay : Point → Point → Point → Type 0
  EitherWay e x y = AtEdge D J k e x y ⊎ AtEdge D J k e y x

  abbrev pub KnownEdge : Point → Point → Point → Type 0
  KnownEdge e x y = Edge e x y × (0Int ≺ dot e e → EitherWay e x y)

  abbrev pub Known2 : Point → Point → Region → Type 0
  Known2 x y at1 = KnownVertex x
  Known2 x y at2 = KnownVertex y
  Known2 x y on12 = KnownEdge (off_edge x y) x y
  Known2 x y at3 = ⊥
  Known2 x y on13 = ⊥
  Known2 x y on23 = ⊥
  Known2 x y inside = ⊥

  -- of edge 23 vertex 3 comes first
  abbrev pub Known3 : Point → Point → Point → Region → Type 0
  Known3 x y z at1 = KnownVertex x
  Known3 x y z at2 = KnownVertex y
  Known3 x y z at3 = KnownVertex z
  Known3 x y z on12 = KnownEdge (off_edge x y) x y
  Known3 x y z on13 = KnownEdge (off_edge x z) x z
  Known3 x y z on23 = KnownEdge (off_edge y z) z y
  Known3 x y z inside = Unit {0}

  -- ---- at the start nothing is known
  module _ (enough : rounds_for J ≤ k) where
    pub free-vertex : (x : Point) → KnownVertex x
    free-vertex x some = free_vertex enough

    free-edge : {e x y : Point} → Edge e x y → KnownEdge e x y
    free-edge edge = (edge, λ some. inl (free_edge (omega arith)))

    pub start2 : (x y : Point) (ρ : Region) → Lies2 x y ρ → Known2 x y ρ
    start2 x y at1 h = free-vertex x
    start2 x y at2 h = free-vertex y
    start2 x y on12 h = free-edge (off-edge h.1 h.0)
    start2 x y at3 h = h
    start2 x y on13 h = h
    start2 x y on23 h = h
    start2 x y inside h = h

    pub start3 : (x y z : Point) (ρ : Region) → Lies3 x y z ρ → Known3 x y z ρ
    start3 x y z at1 h = free-vertex x
    start3 x y z at2 h = free-vertex y
    start3 x y z at3 h = free-vertex z
    start3 x y z on12 h = free-edge (off-edge h.1 h.0)
    start3 x y z on13 h = free-edge (off-edge h.1 h.0)
    start3 x y z on23 h = free-edge (edge-back (off-edge h.1 h.0))
    start3 x y z inside h = tt

  -- ---- after a round that improves, q is kept
  module _ (triangles : (σ : Sense) (a b q : Point) → D a → D b → D q → turn σ (difference b a) (difference q a) ≺ of_nat (4 ^ J)) where
    -- q was found off the vertex x, further than x
    pub next2 : {x q : Point} → AtVertex D J (suc k) x → D x → D q → Certified D J (opposite x) q → 0Int ≺ ahead (opposite x) q x
        → (ρ : Region) → Lies2 x q ρ → Known2 x q ρ
    next2 {x} {q} at in_x in_q c E at1 h = let bad : ⊥ = omega (arith, h, E, ahead-off-vertex x q) in absurd bad
    next2 {x} {q} at in_x in_q c E at2 h = λ some. vertex-to-vertex D J triangles in_x in_q c E at h (as_long q some)
    next2 {x} {q} at in_x in_q c E on12 h = let edge = off-edge h.1 h.0 in (edge, λ some. inl (vertex-to-edge D J triangles in_x in_q c E at edge))
    next2 at in_x in_q c E at3 h = h
    next2 at in_x in_q c E on13 h = h
    next2 at in_x in_q c E on23 h = h
    next2 at in_x in_q c E inside h = h

    -- q was found across the edge from x to y, further than the edge
    module _ {e x y q : Point} (edge : Edge e x y) (at : AtEdge D J (suc k) e x y ⊎ AtEdge D J (suc k) e y x) (in_x : D x) (in_y : D y) (in_q : D q)
        (c : Certified D J e q) (E : 0Int ≺ ahead e q x) where
      from-y : 0Int ≺ ahead e q y
      from-y = omega (arith, E, edge-level edge)

      q-alone : toward q x ≼ 0Int → toward q y ≼ 0Int → KnownVertex q
      q-alone h i some = go at
        where
          go : AtEdge D J (suc k) e x y ⊎ AtEdge D J (suc k) e y x → AtVertex D J k q
          go (inl s) = edge-to-vertex D J triangles edge in_x in_y in_q c E s h i (as_long q some)
          go (inr s) = edge-to-vertex D J triangles (edge-back edge) in_y in_x in_q c from-y s i h (as_long q some)

      q-with-x : {e' : Point} → Edge e' x q → 0Int ≼ ahead e' x y → 0Int ≺ dot e' e' → AtEdge D J k e' x q
      q-with-x {e'} next behind some = go at
        where
          go : AtEdge D J (suc k) e x y ⊎ AtEdge D J (suc k) e y x → AtEdge D J k e' x q
          go (inl s) = edge-to-edge D J triangles edge in_x in_y in_q c E s next behind some
          go (inr s) = edge-to-other D J triangles (edge-back edge) in_y in_x in_q c from-y s next behind some

      q-with-y : {e' : Point} → Edge e' y q → 0Int ≼ ahead e' y x → 0Int ≺ dot e' e' → AtEdge D J k e' y q
      q-with-y {e'} next behind some = go at
        where
          go : AtEdge D J (suc k) e x y ⊎ AtEdge D J (suc k) e y x → AtEdge D J k e' y q
          go (inl s) = edge-to-other D J triangles edge in_x in_y in_q c E s next behind some
          go (inr s) = edge-to-edge D J triangles (edge-back edge) in_y in_x in_q c from-y s next behind some

      pub next3 : (ρ : Region) → Lies3 x y q ρ → Known3 x y q ρ
      next3 at1 h = let bad : ⊥ = omega (arith, h.0, edge.ahead-of-x) in absurd bad
      next3 at2 h = let bad : ⊥ = omega (arith, h.0, edge.ahead-of-y) in absurd bad
      next3 at3 h = q-alone h.0 h.1
      next3 on12 h = let bad : ⊥ = omega (arith, h.2, edge-side edge q E) in absurd bad
      next3 on13 h =
          let next = off-edge h.1 h.0 in
          (next, λ some. inl (q-with-x next (omega (arith, behind-edge x q y (omega (arith, h.2, across-swap x q y)))) some))
      next3 on23 h = let next = off-edge h.1 h.0 in (edge-back next, λ some. inr (q-with-y next (omega (arith, behind-edge y q x h.2)) some))
      next3 inside h = tt
