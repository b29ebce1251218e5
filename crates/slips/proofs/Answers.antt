-- One moment of a move, shapes, routes, calls over lists: what each slip would change. By computing.
use mathlib.Core.Path.{◌≡◌, refl}
use Prim.Native.Nat.{ℕ}
use mathlib.Core.Bool.{true, false}
use mathlib.Core.List.{List, [], ◌∷◌, map}
use lib.ListN.{replicate}
use lib.Ieee.{Float, nan, binary32, binary64, of_bits, to_bits, add, sub, mul, div, neg, lt, le}
use Rattle.std.proofs.Common.{Result, Ok, Err}
use Rattle.model.specs.declared.Sweep.{Sweep}
use Rattle.model.specs.declared.SweepAnswer.TheVariants as Swept
use Rattle.model.specs.declared.Status.TheVariants.{Failed}
use Rattle.model.specs.declared.Refusal.{Refusal}
use Rattle.model.specs.declared.Pose.{Pose}
use Rattle.model.specs.Root.{root}
use Rattle.model.specs.Ground.{vector, rotation, pose, abs}
use Rattle.model.specs.Support.{support_from}
use Rattle.model.specs.Domain.{bad_parts, numbered}
use Rattle.model.specs.Simplex.{solve}
use Rattle.model.specs.Distance.{all_below, replaced, held, vertex, start_simplex, rounds_from, witness_points, measure, proxy_distance}
use Rattle.model.specs.Sweep.{transform_at, shifted}
use Rattle.model.specs.SweepToi.{sweep_time_of_impact}
use Rattle.model.specs.Corners.{sweep}
use Rattle.model.specs.Wire.{word}
use Rattle.model.specs.Block.{sum_of_words, checked_block}
use Rattle.model.specs.Text.{decimal_by, line}
use Rattle.model.specs.Work.{move_at, sweep_for, block_answer}
use Rattle.model.specs.Sheet.{refused_line}
use Rattle.at_fraction.specs.Moment.{pose_at, gap, gap_at}
use Rattle.shapes.specs.Shapes.{told, left, plate_told, plate_left, bar_left}
use Rattle.route_legs.specs.declared.RouteAnswer.TheVariants.{Refused}
use Rattle.route_legs.specs.Route.{stop, stop_at, start_of, leg_move, sweep_at, walk_from, wrong, route}
use Rattle.route_clearance_legs.specs.Looks.{end, end_at}
use Rattle.list_calls.specs.Entry.{sweep_fits, sweep_call, sweep_number, cache_of, distance_for, distance_fits, distance_call, distance_number}
use Rattle.foldflake.specs.Entry.{line_to}
use Rattle.foldflake.specs.Route.{end_number}
use Rattle.foldflake.specs.Moment.{pose_floats, gap_call, gap_after}
use Rattle.slips.proofs.Ground.{n0, n1, n2, n3, n4, n5, bits}

abbrev there : List Float
there = n0 ∷ n0 ∷ []

abbrev along : Float → Float → Sweep
along x1 x2 = record { local_center = vector n0 n0; c1 = vector x1 n0; c2 = vector x2 n0; q1 = rotation n1 n0; q2 = rotation n1 n0 }

-- ---- one moment of a move
-- A goes from 7/256 to 14/256, B stands at 1048575: seen from B's centre A's steps of 1/16 are told, and the gap is 1048574.9375
pub gap-seen-from-the-centre-of-b
    : bits (gap binary32 there (along (of_bits binary32 0x3ce0_0000) (of_bits binary32 0x3d60_0000)) there
    (along (of_bits binary32 0x497f_fff0) (of_bits binary32 0x497f_fff0)) n1)
    ≡ 0x497f_fff0
unfolding gap shifted transform_at root support_from solve vertex start_simplex rounds_from held witness_points measure
    all_below replaced add sub neg mul div lt le of_bits to_bits
gap-seen-from-the-centre-of-b = refl

-- B has no point
pub outline-b-not-checked : gap_at binary32 there (along n0 n0) [] (along n0 n0) n0 ≡ Err (numbered 2)
unfolding gap_at bad_parts abs le of_bits
outline-b-not-checked = refl

-- A stands at 0 and B at 3: both by A's move there is no gap
pub gap-of-one-move : gap_after (gap_call there (n0 ∷ n0 ∷ n0 ∷ n0 ∷ n0 ∷ n0 ∷ n1 ∷ n0 ∷ n1 ∷ n0 ∷ []) there
    (n0 ∷ n0 ∷ n3 ∷ n0 ∷ n3 ∷ n0 ∷ n1 ∷ n0 ∷ n1 ∷ n0 ∷ []) n0) (n0 ∷ []) ≡ n3 ∷ []
unfolding move_at gap_at gap shifted transform_at root support_from solve vertex start_simplex rounds_from held witness_points measure
    all_below replaced bad_parts abs add sub neg mul div lt le of_bits
gap-of-one-move = refl

-- from 2 to 3: at 0 it stands at 2
abbrev x_bits : Result Pose Refusal → ℕ
x_bits (Ok p) = bits p.translation.x
x_bits (Err r) = r.number

pub pose-at-the-end : x_bits (pose_at binary32 (along n2 n3) n0) ≡ 0x4000_0000
unfolding pose_at transform_at root abs bad_parts add sub neg mul div lt le of_bits to_bits
pose-at-the-end = refl

pub pose-translation-exchanged : map bits (pose_floats (pose (rotation n1 n0) (vector n2 n3))) ≡ (0x3f80_0000 ∷ 0 ∷ 0x4000_0000 ∷ 0x4040_0000 ∷ [])
unfolding of_bits to_bits
pose-translation-exchanged = refl

-- ---- shapes
-- from (1, 2) to (3, 4), and a number behind it that stays
pub bar-turned-round : map bits (bar_left binary32 (vector n1 n2) (vector n3 n4) (n0 ∷ n0 ∷ n0 ∷ n0 ∷ n5 ∷ []))
    ≡ (0x3f80_0000 ∷ 0x4000_0000 ∷ 0x4040_0000 ∷ 0x4080_0000 ∷ 0x40a0_0000 ∷ [])
unfolding left abs le of_bits to_bits
bar-turned-round = refl

-- x is negated by bit 0 of a corner's number, y by bit 1: no walk round the plate
pub counter-clockwise : map bits (plate_left binary32 n1 n2 (replicate 8 n0))
    ≡ (0x3f80_0000 ∷ 0x4000_0000 ∷ 0xbf80_0000 ∷ 0x4000_0000 ∷ 0x3f80_0000 ∷ 0xc000_0000 ∷ 0xbf80_0000 ∷ 0xc000_0000 ∷ [])
unfolding left abs neg lt le of_bits to_bits
counter-clockwise = refl

-- there is room for a plate, so it is not answered by 15
pub refused-build-writes : plate_told binary32 n1 n2 (replicate 8 n0) ≡ Ok 4
unfolding told abs lt le of_bits
refused-build-writes = refl

-- ---- routes
-- after five calls a refused sweep adds none to them, and does not take their place
pub calls-of-the-last-sweep : walk_from binary32 [] (replicate 8 n0) there (2 ∷ []) n1 1 0 5 ≡ Refused (stop 1 1 5) 1
unfolding walk_from sweep_at leg_move start_of sweep_time_of_impact
calls-of-the-last-sweep = refl

-- of an outline without points and one whose x is no number the first counts: 2, where the last gives 3
pub last-outline-of-the-leg : route binary32 there (replicate 8 n0) (nan ∷ n0 ∷ []) (0 ∷ 2 ∷ []) n1 ≡ Refused (stop 1 1 0) 2
unfolding route walk_from sweep_at leg_move start_of sweep_time_of_impact
last-outline-of-the-leg = refl

-- of three outlines sweep 5, from 0, is that of the second leg past the third; by the search and as a whole
pub outlines-before-legs : stop_at 3 5 0 ≡ stop 2 3 0
outlines-before-legs = refl

pub leg-and-outline-exchanged : end_at 3 5 0 ≡ end 2 3 0
leg-and-outline-exchanged = refl

-- 33 waypoints pass, 34 do not
pub passed-33-legs : map (λ (n : ℕ). wrong binary32 there (replicate n n0) there (2 ∷ []) n1) (132 ∷ 136 ∷ []) ≡ (0 ∷ 16 ∷ [])
unfolding start_of
passed-33-legs = refl

-- F is told to C as 35, a hit as 34
pub route-failed-told-as-hit : end_number Failed ≡ 35
route-failed-told-as-hit = refl

-- ---- calls over lists
-- seven words of counts and corners, not three
pub sweep-counts-of-three : map (λ (n : ℕ). sweep_fits (replicate 24 n0) (replicate 5 n0) (replicate n 0)) (3 ∷ 7 ∷ []) ≡ (false ∷ true ∷ [])
sweep-counts-of-three = refl

-- the move of B, of which a centre is no number, is read behind that of A
abbrev moves_apart : List Float
moves_apart = n0 ∷ n0 ∷ n1 ∷ n1 ∷ n0 ∷ n0 ∷ n0 ∷ n0 ∷ n0 ∷ n0 ∷ n1 ∷ n0 ∷ n1 ∷ n0 ∷ n0 ∷ n0 ∷ nan ∷ n0 ∷ n0 ∷ n0 ∷ n1 ∷ n0 ∷ n1 ∷ n0 ∷ []

pub both-by-one-move : (sweep_for binary32 there there moves_apart).answer ≡ Swept.Refused 6
unfolding sweep_for sweep sweep_time_of_impact move_at bad_parts abs add mul lt le of_bits
both-by-one-move = refl

-- a cache's count is a byte
pub distance-count-256
    : map (λ (n : ℕ). distance_fits (replicate 6 n0) (0 ∷ n ∷ replicate 6 0) (replicate 7 n0)) (255 ∷ 256 ∷ []) ≡ (true ∷ false ∷ [])
distance-count-256 = refl

-- 512 bytes of 0 are refused by 10, `1 0 10`; to a slip that takes 511 for a block they get no line
pub line-of-511-bytes : line_to 1 (replicate 512 0) (replicate 240 0) ≡ 49 ∷ 32 ∷ 48 ∷ 32 ∷ 49 ∷ 48 ∷ 10 ∷ []
unfolding block_answer checked_block sum_of_words word refused_line line decimal_by
line-of-511-bytes = refl

-- with radii, and a cache of the pair 7: by the number 1 it would be refused by 12
abbrev o : Float
o = of_bits binary64 0

abbrev upright : List Float
upright = of_bits binary64 0x3ff0_0000_0000_0000 ∷ replicate 5 o

pub distance64-number-of-the-radii
    : distance_number (distance_call binary64 (o ∷ o ∷ []) (o ∷ o ∷ []) upright 1 7 (7 ∷ 1 ∷ replicate 6 0)).answer ≡ 16
unfolding distance_for cache_of proxy_distance bad_parts abs solve vertex start_simplex rounds_from witness_points measure all_below add sub neg mul lt le of_bits
distance64-number-of-the-radii = refl

-- outline A has no point, and B has one
pub sweep64-outlines-exchanged : sweep_number (sweep_call binary64 [] (o ∷ o ∷ []) (replicate 24 o)) ≡ 1
unfolding sweep_for sweep sweep_time_of_impact
sweep64-outlines-exchanged = refl
