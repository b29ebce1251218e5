-- From the verdict to what the call tells. Assumes nothing.
use mathlib.Core.Path.{◌≡◌, refl, sym, ap, ◌∙◌, subst}
use mathlib.Core.Bool.{Bool, true, false, ◌&&◌, cond, false≢true}
use mathlib.Core.List.{List}
use Prim.Native.Nat.{ℕ, ◌+◌, ◌*◌, ◌≤◌, ◌<◌}
use native.Mathlib.Omega.{arith}
use lib.Dec.{T}
use lib.ListN.{length}
use lib.Ieee.{Float, binary32, le, fits, of_bits, to_bits}
use lib.Ieee.Bits.{of_bits-fits}
use Rattle.integers.specs.Signed.{Int, 0Int, of_nat, ◌⊠◌, ◌≼◌}
use Rattle.plane.specs.Fraction.{◌≤ᶠ◌, ◌<ᶠ◌}
use Rattle.model.specs.Ground as Ground
use Rattle.model.specs.Support.{point}
use Rattle.model.specs.Domain.{pair_refusal, sweeps_refusal, fraction_refusal, slop_refusal}
use Rattle.model.specs.Work.{move_at}
use Rattle.model.proofs.Domain.{neither-refused}
use Rattle.grid.specs.Grid.{unit}
use Rattle.grid.specs.Units.{size}
use Rattle.whole_way.specs.Mover.{share}
use Rattle.planned.specs.Planned.{worth_of, fraction_of, end, Open}
use Rattle.clearance_verdict.specs.declared.Answer.{Answer}
use Rattle.clearance_verdict.specs.declared.Answer.TheVariants as answer
use Rattle.clearance_job.specs.Promise.{Promised, Counted}
use Rattle.clearance_call.specs.declared.Cleared.TheVariants as cleared
use Rattle.clearance_call.specs.Call.{from_refusal, refusal_of, cleared_by, Answered, Told}
use Rattle.clearance_call.proofs.Order.{Some, both, le-worth, some-between}

-- ---- what a test that passed says
pub test-holds : (t : Bool) (n : ℕ) → 0 < n → cond t 0 n ≡ 0 → t ≡ true
test-holds true n h e = refl
test-holds false n h e = absurd (omega (arith, e))

pub zero-some : Some (Ground.zero binary32)
unfolding of_bits
zero-some = record { sign = false; over = 0; under = 1; value = (refl, refl) }

pub one-some : Some (Ground.one binary32)
unfolding of_bits
one-some = record { sign = false; over = 1; under = 1; value = (refl, refl) }

zero-worth : worth_of (Ground.zero binary32) ≡ 0Int
unfolding of_bits to_bits size
zero-worth = refl

pub not_negative : (x : Float) → T (fits binary32 x) → Some x → le (Ground.zero binary32) x ≡ true → 0Int ≼ worth_of x
not_negative x f s e = subst (λ (z : Int). z ≼ worth_of x) zero-worth (le-worth (Ground.zero binary32) x (of_bits-fits binary32 0) f zero-some s e)

none_before : (x : Float) → 0Int ≼ worth_of x → share 16777216 0 ≤ᶠ fraction_of x
unfolding ◌⊠◌
none_before x h = omega arith

none_after : (x : Float) → 0Int ≼ worth_of x → fraction_of x <ᶠ share 16777216 0 → ⊥
unfolding ◌⊠◌
none_after x h l = omega arith

-- ---- nothing is refused
module _ (points_a points_b numbers : List Float) (from : Float) (passed : refusal_of points_a points_b numbers from ≡ 0) where
  abbrev last : Float
  last = (point numbers 1).x

  after-sweeps : (fraction_refusal binary32 last ≡ 0) × (from_refusal from last ≡ 0)
  unfolding refusal_of
  after-sweeps =
      let pair = neither-refused (pair_refusal binary32 points_a points_b (point numbers 0).x (point numbers 0).y) _ passed in
      let sweeps = neither-refused (sweeps_refusal binary32 (move_at numbers 2) (move_at numbers 7)) _ pair.1 in
      let fraction = neither-refused (fraction_refusal binary32 last) _ sweeps.1 in
      let start = neither-refused (from_refusal from last) _ fraction.1 in
      (fraction.0, start.0)

  ends : (le (Ground.zero binary32) last ≡ true) × (le last (Ground.one binary32) ≡ true)
  ends = both (le (Ground.zero binary32) last) (le last (Ground.one binary32)) (test-holds _ 7 (omega arith) after-sweeps.0)

  starts : (le (Ground.zero binary32) from ≡ true) × (le from last ≡ true)
  starts = both (le (Ground.zero binary32) from) (le from last) (test-holds _ 7 (omega arith) after-sweeps.1)

  last_some : Some last
  last_some = some-between (Ground.zero binary32) last (Ground.one binary32) zero-some one-some ends.0 ends.1

  from_some : Some from
  from_some = some-between (Ground.zero binary32) from last zero-some last_some starts.0 starts.1

  module _ (from-fits : T (fits binary32 from)) (last_Fits : T (fits binary32 last)) where
    -- OPEN at 0 says nothing
    nothing_said : Open points_a points_b numbers from 0
    nothing_said = record {
      before = none_before last (not_negative last last_Fits last_some ends.0);
      clear = λ l. absurd (none_after from (not_negative from from-fits from_some starts.0) l);
    }

    answered : (a : Answer) → Promised points_a points_b numbers from a → Counted a → Told points_a points_b numbers from (cleared_by a)
    answered (answer.Clear n) h k = record { passed = passed; holds = h; whole = omega arith; few = k }
    answered (answer.Touch u t n) h k = record { passed = passed; holds = h; whole = k.0; few = k.1 }
    answered (answer.Open u n) h k = record { passed = passed; holds = record { says = h; tried = λ e. k.1 }; whole = k.0; few = k.2 }

    pub told : (a : Answer) → Promised points_a points_b numbers from a × Counted a → Told points_a points_b numbers from (cleared_by a)
    told a h = answered a h.0 h.1

    -- where there is no verdict
    pub untold : (length numbers ≡ 24 → ⊥) → Told points_a points_b numbers from (cleared.Open 0 0)
    untold short = record {
      passed = passed;
      holds = record { says = nothing_said; tried = λ e. absurd (short e) };
      whole = omega arith;
      few = omega arith;
    }
