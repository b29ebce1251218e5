-- The distance call, the separation, a block's work: what each slip would change. By computing.
use mathlib.Core.Path.{◌≡◌, refl}
use Prim.Native.Nat.{ℕ}
use mathlib.Core.Bool.{false}
use mathlib.Core.List.{List, [], ◌∷◌}
use lib.Ieee.{Float, nan, binary32, of_bits, to_bits, add, sub, mul, div, neg, lt, le, is_nan}
use Rattle.std.proofs.Common.{Err}
use Rattle.model.specs.declared.Pose.{Pose}
use Rattle.model.specs.declared.Sweep.{Sweep}
use Rattle.model.specs.declared.SimplexVertex.{SimplexVertex}
use Rattle.model.specs.declared.SeparationFunction.{SeparationFunction}
use Rattle.model.specs.declared.SeparationType.TheVariants.{Points, FaceA, FaceB}
use Rattle.model.specs.declared.SimplexCache.{SimplexCache}
use Rattle.model.specs.declared.SweepTask.{SweepTask}
use Rattle.model.specs.declared.Closest.{Closest}
use Rattle.model.specs.declared.SweepAnswer.{SweepAnswer}
use Rattle.model.specs.declared.SweepAnswer.TheVariants as Swept
use Rattle.model.specs.Root.{root}
use Rattle.model.specs.Ground.{vector, rotation, pose, abs}
use Rattle.model.specs.Support.{support_from}
use Rattle.model.specs.Domain.{bad_parts, refusal_of_pose, numbered}
use Rattle.model.specs.Simplex.{region2, kept, solve, solve_simplex2}
use Rattle.model.specs.Distance.{cache, all_below, replaced, held, vertex, start_simplex, rounds_from, witness_points, measure, proxy_distance}
use Rattle.model.specs.Sweep.{transform_at, shifted}
use Rattle.model.specs.Separation.{function, new_separation, deepest_b, evaluate, find_min_separation}
use Rattle.model.specs.SweepToi.{no_counts, PushEnd, ended, moved, tried, root_from, push_from, closest_at, advance_from}
use Rattle.model.specs.SweepToi.{sweep_task, sweep_refusal, sweep_time_of_impact}
use Rattle.model.specs.Corners.{corners_a}
use Rattle.model.specs.Blocks.{whole_blocks, blocks}
use Rattle.model.specs.Sheet.{answers}
use Rattle.model.specs.Work.{move_at}
use Rattle.model.specs.Block.{refused}
use Rattle.slips.proofs.Ground.{n0, n1, n2, n3, n4, n5, -n1, bits, both}
use Rattle.slips.proofs.Geometry as Geometry

abbrev upright : Pose
upright = pose (rotation n1 n0) (vector n0 n0)

abbrev quarter : Pose
quarter = pose (rotation n0 n1) (vector n0 n0)

abbrev still : Sweep
still = record { local_center = vector n0 n0; c1 = vector n0 n0; c2 = vector n0 n0; q1 = rotation n1 n0; q2 = rotation n1 n0 }

-- ---- the solvers: of the edge from (-1, 1) to (1, 1) both are kept, with a blank behind them; three vertices would keep that one alone
pub one-counts-two : (solve binary32 (Geometry.vertex 0 -n1 n1 ∷ Geometry.vertex 1 n1 n1 ∷ Geometry.vertex 2 n0 n0 ∷ []) 2).count ≡ 2
unfolding solve solve_simplex2 region2 kept add sub neg mul div lt le of_bits
one-counts-two = refl

-- of three vertices both points are A's sum: 1 times (2, 3), and nothing of B's (4, 5)
abbrev third : SimplexVertex
third = record { wa = vector n2 n3; wb = vector n4 n5; w = vector n0 n0; a = n1; index_a = 2; index_b = 0 }

pub witness-third-of-b : both (witness_points binary32 (Geometry.vertex 0 n0 n0 ∷ Geometry.vertex 1 n0 n0 ∷ third ∷ []) 3).b ≡ (0x4000_0000 ∷ 0x4040_0000 ∷ [])
unfolding witness_points add mul of_bits to_bits
witness-third-of-b = refl

-- ---- the distance call
abbrev empty : ℕ → SimplexCache
empty pair = cache pair 0 (0 ∷ 0 ∷ 0 ∷ []) (0 ∷ 0 ∷ 0 ∷ [])

abbrev there : List Float
there = n0 ∷ n0 ∷ []

-- two points on one another: the cache keeps its number, and not the caller's, 7
pub number-written-on-touching : (measure binary32 upright there n0 there n0 false 7 (empty 5)).cache.pair ≡ 5
unfolding measure start_simplex vertex rounds_from solve witness_points add sub neg mul lt of_bits
number-written-on-touching = refl

-- nor is the cache emptied
pub cache-emptied-on-touching
    : (measure binary32 upright there n0 there n0 false 7 (cache 5 1 (0 ∷ 0 ∷ 0 ∷ []) (0 ∷ 0 ∷ 0 ∷ []))).cache.count ≡ 1
unfolding measure start_simplex all_below vertex rounds_from solve witness_points add sub neg mul lt of_bits
cache-emptied-on-touching = refl

-- points that are 3 apart settle, and the cache that is written has the caller's number
pub written-cache-keeps-number : (measure binary32 upright there n0 (n3 ∷ n0 ∷ []) n0 false 7 (empty 5)).cache.pair ≡ 7
unfolding measure start_simplex vertex rounds_from support_from held solve witness_points add sub neg mul lt of_bits
written-cache-keeps-number = refl

-- outline B has no point; 2 modulo 2 would let the call go on
pub pair-number-lost : (proxy_distance binary32 upright there n0 [] n0 false 7 (empty 7)).answer ≡ Err (numbered 2)
unfolding proxy_distance bad_parts abs le of_bits
pair-number-lost = refl

pub pose-number-lost : refusal_of_pose (Err (numbered 6)) ≡ 6
pose-number-lost = refl

-- ---- the separation, of a corner (0, 3) of A above the face of B through (0, 0): turned round it is -3
abbrev face_b : SeparationFunction
face_b = function still still (vector n0 n0) (vector n0 n1) FaceB

pub evaluate-face-b-turned : bits (evaluate binary32 (n0 ∷ n3 ∷ []) there face_b 0 0 n0) ≡ 0x4040_0000
unfolding evaluate transform_at root add sub neg mul div lt of_bits to_bits
evaluate-face-b-turned = refl

-- a corner (0, 3) of B above the face of A through (0, 0): from the axis (0, 1) it would be 2
pub axis-taken-for-a-faces-point : bits (evaluate binary32 there (n0 ∷ n3 ∷ []) (function still still (vector n0 n0) (vector n0 n1) FaceA) 0 0 n0) ≡ 0x4040_0000
unfolding evaluate transform_at root add sub neg mul div lt of_bits to_bits
axis-taken-for-a-faces-point = refl

-- where A has a face no corner of it is told, not corner 0
pub face-side-has-a-corner : (corners_a binary32 there face_b upright upright FaceA).second ≡ 4294967295
face-side-has-a-corner = refl

-- along (1, 0): of B as it lies the corner (-1, 0) is the deepest, of B turned as A is (0, 1)
pub least-by-the-other-rotation
    : deepest_b binary32 (n1 ∷ n0 ∷ -n1 ∷ n0 ∷ n0 ∷ n1 ∷ []) (function still still (vector n0 n0) (vector n1 n0) Points) quarter upright Points ≡ 1
unfolding support_from add sub neg mul lt of_bits
least-by-the-other-rotation = refl

-- ---- the root search, of a point that comes from 4 to 0: at half of the way it is at 2, which is not within a quarter of the target, 1
abbrev coming : SweepTask
coming = record {
  sweep_a = still;
  sweep_b = record { local_center = vector n0 n0; c1 = vector n4 n0; c2 = vector n0 n0; q1 = rotation n1 n0; q2 = rotation n1 n0 };
  origin = vector n0 n0;
  radius_a = n0;
  radius_b = n0;
  t_max = n1;
  target = n1;
  tolerance = of_bits binary32 0x3e80_0000;
}

abbrev between : SeparationFunction
between = function still coming.sweep_b (vector n0 n0) (vector n1 n0) Points

pub time-taken-outside-the-tolerance
    : bits (root_from binary32 coming there there between 0 0 n1 50 n0 n1 n4 n0 0).t
    ≡ 0x3f40_0000
unfolding root_from tried evaluate transform_at root abs add sub neg mul div lt le of_bits to_bits
time-taken-outside-the-tolerance = refl

-- and comes to three quarters of the way, in two searches and two steps; counted by the push-backs that are left, eight
abbrev steps : PushEnd → ℕ
steps (ended x) = 0
steps (moved t n) = n.root_steps

abbrev closest : Closest
closest = record { distance = n4; point = vector n0 n0; normal = vector n1 n0; cache = empty 0 }

pub root-steps-counted-by-push-backs : steps (push_from binary32 coming there there between n0 closest 8 n1 no_counts) ≡ 2
unfolding push_from find_min_separation support_from root_from tried evaluate transform_at root abs add sub neg mul div lt le of_bits
root-steps-counted-by-push-backs = refl

-- a slop of 0, with a max fraction that would pass for one
pub slop-not-checked : sweep_refusal binary32 there n0 still there n0 still n1 n0 ≡ 8
unfolding bad_parts abs add mul lt le of_bits
slop-not-checked = refl

-- A by its own move, whose centre is no number; by that of B nothing would be refused
pub sweep-move-of-b
    : sweep_refusal binary32 there n0 (record { local_center = vector nan n0; c1 = vector n0 n0; c2 = vector n0 n0; q1 = rotation n1 n0; q2 = rotation n1 n0 })
    there n0 still n1 n1
    ≡ 6
unfolding bad_parts abs add mul lt le of_bits
sweep-move-of-b = refl

-- points that stand still, (1, 15) apart: the distance is a digit above the slop and a quarter of it, the separation along its own axis is not. So no call decides,
-- each leaves what it found, and there are twenty; with one repeat less, nineteen
abbrev beside : Sweep
beside = record {
  local_center = vector n0 n0;
  c1 = vector n1 (of_bits binary32 0x4170_0000);
  c2 = vector n1 (of_bits binary32 0x4170_0000);
  q1 = rotation n1 n0;
  q2 = rotation n1 n0;
}

abbrev calls : SweepAnswer → ℕ
calls (Swept.Overlapped n) = n.distance_calls
calls (Swept.Hit c n) = n.distance_calls
calls (Swept.Separated c n) = n.distance_calls
calls (Swept.Failed c n) = n.distance_calls
calls (Swept.Refused k) = 0

pub one-repeat-too-few : calls (sweep_time_of_impact binary32 there n0 still there n0 beside n1 (of_bits binary32 0x4140_6d1a)) ≡ 20
unfolding sweep_time_of_impact sweep_task shifted advance_from closest_at new_separation push_from find_min_separation evaluate transform_at root_from tried
    measure start_simplex all_below replaced vertex rounds_from held solve witness_points support_from bad_parts root abs add sub neg mul div lt le is_nan of_bits
one-repeat-too-few = refl

-- ---- a block's work
-- a short block is refused by 9, in a sheet and in a report
pub short-rest-as-10 : answers binary32 (1 ∷ []) ≡ refused 0 9 ∷ []
unfolding answers blocks whole_blocks
short-rest-as-10 = refl

-- a move starts with the pair that it is asked from: (0, 1), not (2, 3)
pub move-from-the-second-pair : both (move_at (n0 ∷ n1 ∷ n2 ∷ n3 ∷ []) 0).local_center ≡ (0 ∷ 0x3f80_0000 ∷ [])
unfolding move_at of_bits to_bits
move-from-the-second-pair = refl
