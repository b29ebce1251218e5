-- A look at the whole way, from 0, is refused as the sweep is: by the same number. Assumes nothing.
use Prim.Native.Nat.{ℕ}
use mathlib.Core.Path.{◌≡◌, refl, ap}
use mathlib.Core.Bool.{Bool, true, false, ◌&&◌, cond}
use mathlib.Core.List.{List}
use lib.Ieee.{Float, binary32, le, lt, eq, of_bits}
use Rattle.model.specs.Ground as Ground
use Rattle.model.specs.Support.{point}
use Rattle.model.specs.Domain.{pair_refusal, sweeps_refusal, slop_refusal, or_else}
use Rattle.model.specs.Work.{move_at}
use Rattle.model.specs.SweepToi.{sweep_refusal}
use Rattle.clearance_call.specs.Call.{refusal_of}

once : (p q : Bool) (n : ℕ) → or_else (cond (p && q) 0 7) (or_else (cond (true && p) 0 7) n) ≡ or_else (cond (p && q) 0 7) n
once true true n = refl
once true false n = refl
once false true n = refl
once false false n = refl

pub as-the-sweep : (a b numbers : List Float) → refusal_of a b numbers (Ground.zero binary32)
    ≡ sweep_refusal binary32 a (point numbers 0).x (move_at numbers 2) b (point numbers 0).y (move_at numbers 7) (point numbers 1).x (point numbers 1).y
unfolding refusal_of le lt eq of_bits
as-the-sweep a b numbers =
    ap (λ (n : ℕ). or_else (pair_refusal binary32 a b (point numbers 0).x (point numbers 0).y) (or_else (sweeps_refusal binary32 (move_at numbers 2)
    (move_at numbers 7)) n))
    (once (le (Ground.zero binary32) (point numbers 1).x) (le (point numbers 1).x (Ground.one binary32)) (slop_refusal binary32 (point numbers 1).y))
