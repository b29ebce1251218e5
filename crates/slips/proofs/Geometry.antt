-- Outlines, solvers, moves and the separation: what each slip would change. By computing.
use mathlib.Core.Path.{◌≡◌, refl}
use Prim.Native.Nat.{ℕ}
use mathlib.Core.Bool.{false}
use mathlib.Core.List.{[], ◌∷◌}
use lib.Ieee.{Float, nan, binary32, of_bits, to_bits, add, sub, mul, div, neg, lt, le}
use Rattle.std.proofs.Common.{Err}
use Rattle.model.specs.declared.Sweep.{Sweep}
use Rattle.model.specs.declared.SimplexVertex.{SimplexVertex}
use Rattle.model.specs.Root.{root}
use Rattle.model.specs.Ground.{vector, rotation, pose, abs}
use Rattle.model.specs.Support.{point, support_from, support}
use Rattle.model.specs.Second.{support_answer}
use Rattle.model.specs.Domain.{bad_parts, numbered}
use Rattle.model.specs.Simplex.{region2, kept, solve_simplex2}
use Rattle.model.specs.Distance.{cache, all_below, cache_is_valid}
use Rattle.model.specs.Sweep.{transform_at, shifted}
use Rattle.model.specs.Separation.{toward}
use Rattle.slips.proofs.Ground.{n0, n1, n2, n3, n4, -n1, bits, both}

-- ---- outlines: the points (0, 0) and (nan, 1), of which the second never wins along (1, 0)
pub nan-wins : support binary32 (n0 ∷ n0 ∷ nan ∷ n1 ∷ []) (vector n1 n0) ≡ 0
unfolding support_from add sub neg mul lt of_bits
nan-wins = refl

-- two that are as far: the first, in a flat list and in a list of points
pub points-tie-later : support binary32 (n1 ∷ n0 ∷ n1 ∷ n1 ∷ []) (vector n1 n0) ≡ 0
unfolding support_from add sub neg mul lt of_bits
points-tie-later = refl

-- the second point is the farthest; without the first it is point 0
pub support-list-shorter : support binary32 (n0 ∷ n0 ∷ n1 ∷ n0 ∷ []) (vector n1 n0) ≡ 1
unfolding support_from add sub neg mul lt of_bits
support-list-shorter = refl

pub point-y-of-next : both (point (n0 ∷ n1 ∷ n2 ∷ n3 ∷ []) 0) ≡ (0 ∷ 0x3f80_0000 ∷ [])
unfolding of_bits to_bits
point-y-of-next = refl

pub support-number-lost : support_answer binary32 (nan ∷ n0 ∷ []) (vector n1 n0) ≡ Err (numbered 3)
unfolding support_answer bad_parts abs le of_bits
support-number-lost = refl

-- ---- the two-vertex solver at an end that is just as near: (0, 0) and (1, 0) keep the first alone
abbrev pub vertex : ℕ → Float → Float → SimplexVertex
vertex i x y = record { wa = vector n0 n0; wb = vector n0 n0; w = vector x y; a = n0; index_a = i; index_b = 0 }

pub two-first-strictly : (solve_simplex2 binary32 (vertex 0 n0 n0 ∷ vertex 1 n1 n0 ∷ vertex 2 n0 n0 ∷ [])).count ≡ 1
unfolding solve_simplex2 region2 kept add sub neg mul div lt le of_bits
two-first-strictly = refl

-- ---- a cache whose index is just as large as its list is no cache
pub index-at-length : cache_is_valid (cache 0 1 (2 ∷ 0 ∷ 0 ∷ []) (0 ∷ 0 ∷ 0 ∷ [])) 2 2 ≡ false
unfolding all_below
index-at-length = refl

-- ---- moves: from (0, 0) to (4, 2), without a turn
abbrev straight : Sweep
straight = record {
  local_center = vector n0 n0;
  c1 = vector n0 n0;
  c2 = vector n4 n2;
  q1 = rotation n1 n0;
  q2 = rotation n0 n1;
}

pub shifted-end-from-start : both (shifted binary32 straight (vector n1 n1)).c2 ≡ (0x4040_0000 ∷ 0x3f80_0000 ∷ [])
unfolding shifted add sub neg of_bits to_bits
shifted-end-from-start = refl

-- at its start it is turned as at its start
pub transform-rotations-exchanged : bits (transform_at binary32 straight n0).rotation.c ≡ 0x3f80_0000
unfolding transform_at root add sub neg mul div lt of_bits to_bits
transform-rotations-exchanged = refl

-- the axis (0, 1) of an edge through (0, 0) is turned toward a point below it
pub normal-turned-away : both (toward binary32 (pose (rotation n1 n0) (vector n0 n0)) (vector n0 n0) (vector n0 -n1) (vector n0 n1))
    ≡ (0x8000_0000 ∷ 0xbf80_0000 ∷ [])
unfolding add sub neg mul lt of_bits to_bits
normal-turned-away = refl
