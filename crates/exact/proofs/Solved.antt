-- The solvers of the distance call: what stands in the slots after a solve. The vertices that count stand for corners of the outlines, as they did before, and either
-- the origin is covered, or they are what `Kept` says. Assumes nothing.
use mathlib.Core.List.{List, [], ◌∷◌}
use Prim.Native.Nat.{ℕ, ◌<◌}
use native.Mathlib.Nat.{le_refl}
use native.Mathlib.Omega.{arith}
use lib.Ieee.{Float, Format}
use Rattle.integers.specs.Signed.{◌≼◌}
use Rattle.integers.proofs.Sized.{neg-sized, mul-sized}
use Rattle.model.specs.declared.Vector.{Vector}
use Rattle.model.specs.declared.SimplexVertex.{SimplexVertex}
use Rattle.model.specs.declared.Solved.{Solved}
use Rattle.model.specs.Simplex.{Region, at1, at2, at3, on12, on13, on23, inside, slot, weighted, kept, solve, solve_simplex2, solve_simplex3, region2, region3}
use Rattle.model.specs.Simplex as Simplex
use Rattle.model.specs.Ground.{negate}
use Rattle.plane.specs.Plane.{Point, opposite, dot}
use Rattle.exact.specs.Regions.{Lies2, Lies3}
use Rattle.exact.specs.SquaredPaper.{Room}
use Rattle.exact.proofs.Below.{below1, below2, below3}
use Rattle.exact.proofs.Vectors.{SizedPoint, weaken-point, negate-sized, minus-sized, plus-sized, perp_dot-sized}
use Rattle.exact.proofs.Enclosed.{across-swap}
use Rattle.exact.proofs.Origin.{region2-lies, region3-lies}
use Rattle.exact.proofs.Kept.{Kept, Covered, same-direction, kept-vertex, kept-edge, covered, off_edge, off-either-way, ends-level, behind-vertex}
use Rattle.exact.proofs.Kept.{behind-edge}

-- ---- slots, by the counts of corners and the place of each pair of corners: the one less the other
module _ (bound na nb : ℕ) (pair : ℕ → ℕ → Point) where
  abbrev pub place : SimplexVertex → Point
  place v = pair v.index_a v.index_b

  abbrev pub places : List SimplexVertex → ℕ → Point
  places s i = place (slot s i)

  -- a vertex stands for a pair of corners
  pub record Stands (v : SimplexVertex) : Type 0 where
    pub in_a : v.index_a < na
    pub in_b : v.index_b < nb
    pub whole : SizedPoint bound v.w (place v) 1 1

  -- the slots that count hold such vertices
  pub data Held : List SimplexVertex → ℕ → Type 0 where
    one : {x y z : SimplexVertex} → Stands x → Held (x ∷ y ∷ z ∷ []) 1
    two : {x y z : SimplexVertex} → Stands x → Stands y → Held (x ∷ y ∷ z ∷ []) 2
    three : {x y z : SimplexVertex} → Stands x → Stands y → Stands z → Held (x ∷ y ∷ z ∷ []) 3

  -- what a solve of n slots of s can leave: slots, a count and a direction
  pub data Outcome (s : List SimplexVertex) (n : ℕ) : List SimplexVertex → ℕ → Vector → Type 0 where
    vertex_left : {x y z : SimplexVertex} {d : Vector} (e : Point) → Stands x → SizedPoint bound d e 16 3 → Kept e 1 (places (x ∷ y ∷ z ∷ [])) n (places s)
        → Outcome s n (x ∷ y ∷ z ∷ []) 1 d
    edge_left : {x y z : SimplexVertex} {d : Vector} (e : Point) → Stands x → Stands y → SizedPoint bound d e 16 3 → Kept e 2 (places (x ∷ y ∷ z ∷ [])) n
        (places s)
        → Outcome s n (x ∷ y ∷ z ∷ []) 2 d
    covers : {x y z : SimplexVertex} {d : Vector} → Stands x → Stands y → Stands z → Covered 3 (places (x ∷ y ∷ z ∷ [])) → Outcome s n (x ∷ y ∷ z ∷ []) 3 d

  abbrev pub Solves : List SimplexVertex → ℕ → Solved → Type 0
  Solves s n r = Outcome s n r.simplex r.count r.direction

  pub reweighed : {v : SimplexVertex} (x : Float) → Stands v → Stands (weighted v x)
  reweighed x h = record { in_a = h.in_a; in_b = h.in_b; whole = h.whole }

  module _ (f : Format) (room : Room f bound) where
    pub off_edge-sized : {u w : Vector} {p q : Point} → SizedPoint bound u p 1 1 → SizedPoint bound w q 1 1 → SizedPoint bound (Simplex.off_edge f u w)
        (off_edge p q) 16 3
    off_edge-sized i j =
        let e = minus-sized f bound room j i tt tt in
        let k = perp_dot-sized f bound room (plus-sized f bound room i j tt tt) e tt tt tt in
        record {
          x = mul-sized f bound room.0 room.1 (neg-sized f bound room.0 room.1 k) e.y tt tt;
          y = mul-sized f bound room.0 room.1 k
              e.x tt tt;
        }

    pub negated-sized : {v : SimplexVertex} → Stands v → SizedPoint bound (negate v.w) (opposite (place v)) 16 3
    negated-sized h = weaken-point f bound room 16 3 (negate-sized f bound room h.whole) tt tt

    level : (d u : Point) → dot d u ≼ dot d u
    level d u = le_refl _

    -- ---- two vertices
    module _ {x y : SimplexVertex} (i : Stands x) (j : Stands y) (z : SimplexVertex) where
      abbrev s2 : List SimplexVertex
      s2 = x ∷ y ∷ z ∷ []

      abbrev all2 : Point → Point → Type 0
      all2 d u = (i : ℕ) → i < 2 → dot d (places s2 i) ≼ dot d u

      keep2 : (ρ : Region) → Lies2 (place x) (place y) ρ → Solves s2 2 (kept f s2 ρ)
      unfolding kept
      -- the origin is not ahead of vertex 1 on the way to 2, so no point of the edge is nearer than vertex 1
      keep2 at1 h =
          let u = place x in
          let top : all2 (opposite u) u = below2 _ (level (opposite u) u) (behind-vertex u (place y) h) in
          vertex_left (opposite u) (reweighed _ i) (negated-sized i) (kept-vertex _ 2 (places s2) top)
      -- the same of vertex 2, which moves to the front
      keep2 at2 h =
          let u = place y in
          let top : all2 (opposite u) u = below2 _ (behind-vertex u (place x) h) (level (opposite u) u) in
          vertex_left (opposite u) (reweighed _ j) (negated-sized j) (kept-vertex _ 2 (places s2) top)
      -- the origin is ahead of both ends, so its foot is between them
      keep2 on12 h =
          let u = place x in
          let d = off_edge u (place y) in
          let top : all2 d u = below2 _ (level d u) (omega (arith, ends-level u (place y))) in
          edge_left d (reweighed _ i) (reweighed _ j) (off_edge-sized i.whole j.whole) (kept-edge _ 2 (places s2) h.0 h.1 top)
      keep2 at3 h = absurd h
      keep2 on13 h = absurd h
      keep2 on23 h = absurd h
      keep2 inside h = absurd h

    -- ---- three vertices
    module _ {x y z : SimplexVertex} (i : Stands x) (j : Stands y) (k : Stands z) where
      abbrev s3 : List SimplexVertex
      s3 = x ∷ y ∷ z ∷ []

      abbrev all3 : Point → Point → Type 0
      all3 d u = (i : ℕ) → i < 3 → dot d (places s3 i) ≼ dot d u

      keep3 : (ρ : Region) → Lies3 (place x) (place y) (place z) ρ → Solves s3 3 (kept f s3 ρ)
      unfolding kept
      -- the origin is behind vertex 1 as seen from both others, so the whole triangle lies beyond it
      keep3 at1 h =
          let u = place x in
          let top : all3 (opposite u) u = below3 _ (level (opposite u) u) (behind-vertex u (place y) h.0) (behind-vertex u (place z) h.1) in
          vertex_left (opposite u) (reweighed _ i) (negated-sized i) (kept-vertex _ 3 (places s3) top)
      -- the same of vertex 2
      keep3 at2 h =
          let u = place y in
          let top : all3 (opposite u) u = below3 _ (behind-vertex u (place x) h.0) (level (opposite u) u) (behind-vertex u (place z) h.1) in
          vertex_left (opposite u) (reweighed _ j) (negated-sized j) (kept-vertex _ 3 (places s3) top)
      -- the same of vertex 3
      keep3 at3 h =
          let u = place z in
          let top : all3 (opposite u) u = below3 _ (behind-vertex u (place x) h.0) (behind-vertex u (place y) h.1) (level (opposite u) u) in
          vertex_left (opposite u) (reweighed _ k) (negated-sized k) (kept-vertex _ 3 (places s3) top)
      -- the origin's foot is on the edge from 1 to 2, and vertex 3 is not on the origin's side of it
      keep3 on12 h =
          let u = place x in
          let d = off_edge u (place y) in
          let top : all3 d u = below3 _ (level d u) (omega (arith, ends-level u (place y))) (behind-edge u (place y) (place z) h.2) in
          edge_left d (reweighed _ i) (reweighed _ j) (off_edge-sized i.whole j.whole) (kept-edge _ 3 (places s3) h.0 h.1 top)
      -- the same of the edge from 1 to 3 and vertex 2
      keep3 on13 h =
          let u = place x in
          let d = off_edge u (place z) in
          let off = behind-edge u (place z) (place y) (omega (arith, h.2, across-swap u (place z) (place y))) in
          let top : all3 d u = below3 _ (level d u) off (omega (arith, ends-level u (place z))) in
          edge_left d (reweighed _ i) (reweighed _ k) (off_edge-sized i.whole k.whole) (kept-edge _ 3 (places s3) h.0 h.1 top)
      -- the same of the edge from 2 to 3 and vertex 1; it is kept with vertex 3 first
      keep3 on23 h =
          let u = place z in
          let w = place y in
          let d = off_edge u w in
          let same = off-either-way u w in
          let off = behind-edge u w (place x) (omega (arith, h.2, across-swap u w (place x))) in
          let top : all3 d u = below3 _ off (omega (arith, ends-level u w)) (level d u) in
          edge_left (off_edge w u) (reweighed _ k) (reweighed _ j) (off_edge-sized j.whole k.whole)
          (same-direction (off_edge w u) same.0 same.1 (kept-edge _ 3 (places s3) h.1 h.0 top))
      -- the origin is on every vertex's side of the opposite edge
      keep3 inside h = covers (reweighed _ i) (reweighed _ j) (reweighed _ k) (covered _ h.0 h.1 h.2)

    pub solves : {s : List SimplexVertex} {n : ℕ} → Held s n → Solves s n (solve f s n)
    unfolding solve solve_simplex2 solve_simplex3
    solves (one {x} {y} {z} i) =
        vertex_left (opposite (place x)) i (negated-sized i) (kept-vertex _ 1 (places (x ∷ y ∷ z ∷ [])) (below1 _ (level (opposite (place x)) (place x))))
    solves (two {z = z} i j) = keep2 i j z (region2 f _ _) (region2-lies f bound room i.whole j.whole)
    solves (three i j k) = keep3 i j k (region3 f _ _ _) (region3-lies f bound room i.whole j.whole k.whole)
