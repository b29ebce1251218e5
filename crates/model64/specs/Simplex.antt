-- Written by tests/written/wide.py from model, in f64.
-- The two- and three-vertex solvers: in which region the origin lies, and what is kept of the simplex.
--
--           at 2                      With w1 w2 w3 for the differences, e12 = w2 - w1 and so on. The origin is nearest to
--            |                        a vertex where it lies behind both of its edges' ends, to an edge where it lies
--   -------- 2 --------               between the edge's ends and not on the third vertex's side, and inside otherwise.
--    e12   /   \   e23                dij-i and dij-j are the weights of wi and wj on edge ij, times the edge's square;
--        / inside\                    d123-i the weight of wi in the triangle, times the square of its doubled area.
--   --- 1 ------- 3 ---
--  at 1     e13     at 3
use Rattle.std.specs.Prelude.{ℕ, Bool, true, false, ◌&&◌, cond, List, [], ◌∷◌, eqb, get_or, set, Float}
use Rattle.std.specs.Float.{nan, Format}
use Rattle.std.specs.Float.Ieee.{add, mul, div, neg, lt, le}
use Rattle.model64.specs.declared.Vector.{Vector}
use Rattle.model64.specs.declared.SimplexVertex.{SimplexVertex}
use Rattle.model64.specs.declared.Solved.{Solved}
use Rattle.model64.specs.Ground.{vector, one, plus, minus, negate, dot, perp_dot, origin}
use Rattle.model64.specs.Ground as Ground
pub use Rattle.model.specs.Simplex.{Region, at1, at2, at3, on12, on13, on23, inside}

-- ---- slots
-- what stands past the three slots, where nothing reads
abbrev pub no_vertex : SimplexVertex
no_vertex = record { wa = vector nan nan; wb = vector nan nan; w = vector nan nan; a = nan; index_a = 0; index_b = 0 }

abbrev pub slot : List SimplexVertex → ℕ → SimplexVertex
slot s i = get_or s i no_vertex

abbrev pub weighted : SimplexVertex → Float → SimplexVertex
weighted v x = record { wa = v.wa; wb = v.wb; w = v.w; a = x; index_a = v.index_a; index_b = v.index_b }

-- slot i with the weight x
abbrev pub weigh : List SimplexVertex → ℕ → Float → List SimplexVertex
weigh s i x = set s i (weighted (slot s i) x)

-- slot j takes slot i's vertex, its weight with it
abbrev pub moved : List SimplexVertex → ℕ → ℕ → List SimplexVertex
moved s j i = set s j (slot s i)

abbrev pub solved : List SimplexVertex → ℕ → Vector → Solved
solved s n d = record { simplex = s; count = n; direction = d }

module _ (f : Format) where
  abbrev not_above : Float → Bool
  not_above x = le x (Ground.zero f)

  abbrev above : Float → Bool
  above x = lt (Ground.zero f) x

  -- the weight of u on the edge from u to w, and of w, times the square of the edge
  abbrev pub near : Vector → Vector → Float
  near u w = dot f w (minus f w u)

  abbrev pub far : Vector → Vector → Float
  far u w = neg (dot f u (minus f w u))

  unfoldable pub region2 : Vector → Vector → Region
  region2 w1 w2 = cond (not_above (far w1 w2)) at1 (cond (not_above (near w1 w2)) at2 on12)

  -- the doubled area, and the weight of the vertex opposite to the edge from u to w, times the square of the doubled area
  abbrev pub area : Vector → Vector → Vector → Float
  area w1 w2 w3 = perp_dot f (minus f w2 w1) (minus f w3 w1)

  abbrev pub opposite : Vector → Vector → Vector → Vector → Vector → Float
  opposite w1 w2 w3 u w = mul f (area w1 w2 w3) (perp_dot f u w)

  unfoldable pub region3 : Vector → Vector → Vector → Region
  region3 w1 w2 w3 =
      cond (not_above (far w1 w2) && not_above (far w1 w3)) at1
      (cond (above (near w1 w2) && above (far w1 w2) && not_above (opposite w1 w2 w3 w1 w2)) on12
      (cond (above (near w1 w3) && above (far w1 w3) && not_above (opposite w1 w2 w3 w3 w1)) on13
      (cond (not_above (near w1 w2) && not_above (far w2 w3)) at2
      (cond (not_above (near w1 w3) && not_above (near w2 w3)) at3
      (cond (above (near w2 w3) && above (far w2 w3) && not_above (opposite w1 w2 w3 w2 w3)) on23 inside)))))

  -- ---- what is kept
  -- across the edge from u to w, toward the origin
  abbrev pub off_edge : Vector → Vector → Vector
  off_edge u w =
      let e = minus f w u in
      let k = perp_dot f (plus f u w) e in
      vector (mul f (neg k) e.y) (mul f k e.x)

  -- slots i and j with the weights of their edge
  abbrev pub weigh_edge : List SimplexVertex → ℕ → ℕ → List SimplexVertex
  weigh_edge s i j =
      let u = (slot s i).w in
      let w = (slot s j).w in
      let k = div f (one f) (add f (near u w) (far u w)) in
      weigh (weigh s i (mul f (near u w) k)) j (mul f (far u w) k)

  -- the three slots with the weights of the triangle
  abbrev pub weigh_triangle : List SimplexVertex → Vector → Vector → Vector → List SimplexVertex
  weigh_triangle s w1 w2 w3 =
      let x = opposite w1 w2 w3 w2 w3 in
      let y = opposite w1 w2 w3 w3 w1 in
      let z = opposite w1 w2 w3 w1 w2 in
      let k = div f (one f) (add f (add f x y) z) in
      weigh (weigh (weigh s 0 (mul f x k)) 1 (mul f y k)) 2 (mul f z k)

  -- a vertex or an edge that is not in front moves there; of edge 23 vertex 3 comes first
  unfoldable pub kept : List SimplexVertex → Region → Solved
  kept s at1 = solved (weigh s 0 (one f)) 1 (negate (slot s 0).w)
  kept s at2 = solved (moved (weigh s 1 (one f)) 0 1) 1 (negate (slot s 1).w)
  kept s at3 = solved (moved (weigh s 2 (one f)) 0 2) 1 (negate (slot s 2).w)
  kept s on12 = solved (weigh_edge s 0 1) 2 (off_edge (slot s 0).w (slot s 1).w)
  kept s on13 = solved (moved (weigh_edge s 0 2) 1 2) 2 (off_edge (slot s 0).w (slot s 2).w)
  kept s on23 = solved (moved (weigh_edge s 1 2) 0 2) 2 (off_edge (slot s 1).w (slot s 2).w)
  kept s inside = solved (weigh_triangle s (slot s 0).w (slot s 1).w (slot s 2).w) 3 (origin f)

  unfoldable pub solve_simplex2 : List SimplexVertex → Solved
  solve_simplex2 s = kept s (region2 (slot s 0).w (slot s 1).w)

  unfoldable pub solve_simplex3 : List SimplexVertex → Solved
  solve_simplex3 s = kept s (region3 (slot s 0).w (slot s 1).w (slot s 2).w)

  -- one vertex is kept as it is, its weight too
  unfoldable pub solve : List SimplexVertex → ℕ → Solved
  solve s n = cond (eqb n 1) (solved s 1 (negate (slot s 0).w)) (cond (eqb n 2) (solve_simplex2 s) (solve_simplex3 s))
