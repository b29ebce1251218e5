-- Where the origin lies, over whole numbers, in each region that a solver can answer.
--
--           at 2                  `toward u w` is how far ahead of u the origin lies on the way to w, times the length of that way;
--            |                    `across u w h` is above 0 just where the origin lies on h's side of the line through u and w.
--   -------- 2 --------           (Both are the weights that the solvers compute: of w on the edge, and of h in the triangle.)
--    e12   /   \   e23
--        / inside\
--   --- 1 ------- 3 ---
--  at 1     e13     at 3
use Rattle.integers.specs.Signed.{Int, 0Int, neg, ◌⊠◌, ◌≼◌, ◌≺◌}
use Rattle.model.specs.Simplex.{Region, at1, at2, at3, on12, on13, on23, inside}
use Rattle.plane.specs.Plane.{Point, difference, dot, perp}

abbrev pub toward : Point → Point → Int
toward u w = neg (dot u (difference w u))

abbrev pub across : Point → Point → Point → Int
across u w h = perp (difference w u) (difference h u) ⊠ perp u w

-- a vertex is nearest where the origin is not ahead of it on the way to any other; an edge, where it is ahead of both ends and not on the third vertex's side
abbrev pub Lies2 : Point → Point → Region → Type 0
Lies2 u w at1 = toward u w ≼ 0Int
Lies2 u w at2 = toward w u ≼ 0Int
Lies2 u w on12 = (0Int ≺ toward w u) × (0Int ≺ toward u w)
Lies2 u w at3 = ⊥
Lies2 u w on13 = ⊥
Lies2 u w on23 = ⊥
Lies2 u w inside = ⊥

abbrev pub Lies3 : Point → Point → Point → Region → Type 0
Lies3 u w h at1 = (toward u w ≼ 0Int) × (toward u h ≼ 0Int)
Lies3 u w h at2 = (toward w u ≼ 0Int) × (toward w h ≼ 0Int)
Lies3 u w h at3 = (toward h u ≼ 0Int) × (toward h w ≼ 0Int)
Lies3 u w h on12 = (0Int ≺ toward w u) × (0Int ≺ toward u w) × (across u w h ≼ 0Int)
Lies3 u w h on13 = (0Int ≺ toward h u) × (0Int ≺ toward u h) × (across h u w ≼ 0Int)
Lies3 u w h on23 = (0Int ≺ toward h w) × (0Int ≺ toward w h) × (across w h u ≼ 0Int)
Lies3 u w h inside = (0Int ≺ across w h u) × (0Int ≺ across h u w) × (0Int ≺ across u w h)
