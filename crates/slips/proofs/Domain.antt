-- The checks of the domain: what each slip would let pass, refuse or number otherwise. By computing.
use mathlib.Core.Path.{◌≡◌, refl}
use Prim.Native.Nat.{ℕ}
use mathlib.Core.Bool.{true, false}
use mathlib.Core.List.{[], ◌∷◌, map}
use lib.ListN.{replicate}
use lib.Ieee.{Float, nan, binary32, of_bits, add, mul, lt, le}
use Rattle.model.specs.declared.SimplexCache.{SimplexCache}
use Rattle.model.specs.Ground.{vector, rotation, pose, abs}
use Rattle.model.specs.Domain.{bad_outline, bad_part, bad_parts, bad_vector, bad_radius, bad_rotation, outline_refusal, pair_refusal, pose_refusal}
use Rattle.model.specs.Domain.{fraction_refusal, slop_refusal, cache_refusal, refusal, checked}
use Rattle.model.specs.Distance.{cache}

abbrev at : ℕ → Float
at b = of_bits binary32 b

-- 64 points pass, 65 do not
pub outline-of-65 : map (λ (n : ℕ). bad_outline (replicate n (at 0))) (128 ∷ 130 ∷ []) ≡ (false ∷ true ∷ [])
unfolding of_bits
outline-of-65 = refl

-- as a list of points, too
pub points-65 : outline_refusal binary32 (replicate 130 (at 0)) ≡ 1
unfolding of_bits
points-65 = refl

-- 1048576 passes, 1048576.125 does not
pub part-above-limit : map (λ (b : ℕ). bad_part binary32 (at b)) (0x4980_0000 ∷ 0x4980_0001 ∷ []) ≡ (false ∷ true ∷ [])
unfolding abs le of_bits
part-above-limit = refl

pub vector-both-bad : bad_vector binary32 (vector nan (at 0)) ≡ true
unfolding abs le of_bits
vector-both-bad = refl

pub outline-part-passes : outline_refusal binary32 (nan ∷ at 0 ∷ []) ≡ 3
unfolding bad_parts abs le of_bits
outline-part-passes = refl

pub radius-zero : bad_radius binary32 (at 0) ≡ false
unfolding le of_bits
radius-zero = refl

-- a radius of NaN behind a part that is not finite: 3
pub refusal-4-before-3 : pair_refusal binary32 (nan ∷ at 0 ∷ []) (at 0 ∷ at 0 ∷ []) nan (at 0) ≡ 3
unfolding bad_parts abs le of_bits
refusal-4-before-3 = refl

pub pair-b-by-1 : pair_refusal binary32 (at 0 ∷ at 0 ∷ []) [] (at 0) (at 0) ≡ 2
unfolding bad_parts abs le of_bits
pair-b-by-1 = refl

-- a rotation of 31/32, 0 is too short
pub rotation-too-short : bad_rotation binary32 (rotation (at 0x3f78_0000) (at 0)) ≡ true
unfolding abs add mul le of_bits
rotation-too-short = refl

pub pose-by-5 : pose_refusal binary32 (pose (rotation (at 0x3f80_0000) (at 0)) (vector nan (at 0))) ≡ 6
unfolding abs add mul le of_bits
pose-by-5 = refl

-- 3F800000 passes, 3F800001 does not
pub fraction-1-refused : map (λ (b : ℕ). fraction_refusal binary32 (at b)) (0x3f80_0000 ∷ 0x3f80_0001 ∷ []) ≡ (0 ∷ 7 ∷ [])
unfolding le of_bits
fraction-1-refused = refl

-- 00000001 passes, 00000000 does not
pub slop-0-passes : map (λ (b : ℕ). slop_refusal binary32 (at b)) (1 ∷ 0 ∷ []) ≡ (0 ∷ 8 ∷ [])
unfolding lt le of_bits
slop-0-passes = refl

-- of another pair: none where it is empty; and one of the right number is not refused, whatever its count
abbrev of : ℕ → ℕ → SimplexCache
of pair count = cache pair count (0 ∷ 0 ∷ 0 ∷ []) (0 ∷ 0 ∷ 0 ∷ [])

pub empty-cache-refused : cache_refusal 7 (of 5 0) ≡ 0
empty-cache-refused = refl

pub invalid-cache-refused : cache_refusal 7 (of 7 4) ≡ 0
invalid-cache-refused = refl

pub number-lost : refusal (checked 3) ≡ 3
unfolding checked
number-lost = refl
