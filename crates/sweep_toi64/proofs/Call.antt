-- Written by tests/written/wide.py from sweep_toi, in f64.
-- The endings of `sweep_time_of_impact`, one law each: the first refusal of four checks, or the sweep. Assumes nothing.
use Prim.Native.Nat.{ℕ}
use mathlib.Core.List.{List}
use mathlib.Core.Path.{◌≡◌, refl, ◌∙◌}
use lib.Ieee.{Float, Format}
use Rattle.std.proofs.Common.{Result, Ok, Err}
use Rattle.model64.specs.declared.Sweep.{Sweep}
use Rattle.model64.specs.declared.SweepTask.{SweepTask}
use Rattle.model64.specs.declared.SweepAnswer.TheVariants.{Refused}
use Rattle.model64.specs.declared.Swept.{Swept}
use Rattle.model.specs.declared.Refusal.{Refusal}
use Rattle.model.specs.Domain.{or_else, checked, refusal}
use Rattle.model64.specs.Domain.{pair_refusal, sweeps_refusal, fraction_refusal, slop_refusal}
use Rattle.model64.specs.SweepToi.{sweep_task, sweep_by, sweep_time_of_impact}
use Rattle.model.specs.Corners.{last_of}
use Rattle.model64.specs.Corners.{no_search, swept, advanced, searches_or_none, sweep}
use Rattle.model64.proofs.Domain.{passed, refused}

module _ (f : Format) (a : List Float) (ra : Float) (wa : Sweep) (b : List Float) (rb : Float) (wb : Sweep) (tmax slop : Float) where
  abbrev by : ℕ → Swept
  by k = swept (sweep_by f a ra wa b rb wb tmax slop k) (last_of no_search (searches_or_none f a ra wa b rb wb tmax slop k))

  abbrev answer : Swept
  answer = sweep f a ra wa b rb wb tmax slop

  abbrev no : ℕ → Swept
  no n = swept (Refused n) no_search

  -- a check that other checks follow, whose first refusal is m: what its number k gives, and what it means that it passed or not
  abbrev before : ℕ → ℕ → Swept
  before m k = by (or_else k m)

  module _ (m k : ℕ) (x : Result Unit Refusal) (is : x ≡ checked k) where
    goes_on : x ≡ Ok tt → by m ≡ before m k
    unfolding last_of
    goes_on = passed (before m) no (λ n. refl) k x is

    stops : (r : Refusal) → x ≡ Err r → (j : ℕ) → j ≡ refusal x → no j ≡ before m k
    unfolding last_of
    stops = refused (before m) no (λ n. refl) k x is

  -- ---- the four checks in their order
  abbrev third : ℕ
  third = or_else (fraction_refusal f tmax) (slop_refusal f slop)

  abbrev second : ℕ
  second = or_else (sweeps_refusal f wa wb) third

  module _ (x : Result Unit Refusal) (ex : x ≡ checked (pair_refusal f a b ra rb)) where
    pub pair-refused : (r : Refusal) → x ≡ Err r → (j : ℕ) → j ≡ refusal x → no j ≡ answer
    unfolding sweep sweep_time_of_impact
    pair-refused = stops second (pair_refusal f a b ra rb) x ex

    module _ (gx : x ≡ Ok tt) (y : Result Unit Refusal) (ey : y ≡ checked (sweeps_refusal f wa wb)) where
      after-pair : by second ≡ answer
      unfolding sweep sweep_time_of_impact
      after-pair = goes_on second (pair_refusal f a b ra rb) x ex gx

      pub sweeps-refused : (r : Refusal) → y ≡ Err r → (j : ℕ) → j ≡ refusal y → no j ≡ answer
      sweeps-refused n g j ej = stops third (sweeps_refusal f wa wb) y ey n g j ej ∙ after-pair

      module _ (gy : y ≡ Ok tt) (z : Result Unit Refusal) (ez : z ≡ checked (fraction_refusal f tmax)) where
        after-sweeps : by third ≡ answer
        after-sweeps = goes_on third (sweeps_refusal f wa wb) y ey gy ∙ after-pair

        pub fraction-refused : (r : Refusal) → z ≡ Err r → (j : ℕ) → j ≡ refusal z → no j ≡ answer
        fraction-refused n g j ej = stops (slop_refusal f slop) (fraction_refusal f tmax) z ez n g j ej ∙ after-sweeps

        module _ (gz : z ≡ Ok tt) (o : Result Unit Refusal) (eo : o ≡ checked (slop_refusal f slop)) where
          after-fraction : by (slop_refusal f slop) ≡ answer
          after-fraction = goes_on (slop_refusal f slop) (fraction_refusal f tmax) z ez gz ∙ after-sweeps

          pub slop-refused : (r : Refusal) → o ≡ Err r → (j : ℕ) → j ≡ refusal o → no j ≡ answer
          unfolding last_of
          slop-refused n g j ej = refused by no (λ n. refl) (slop_refusal f slop) o eo n g j ej ∙ after-fraction

          pub all-passed : o ≡ Ok tt → (w : SweepTask) → w ≡ sweep_task f ra wa rb wb tmax slop → advanced f w a b ≡ answer
          unfolding last_of advanced
          all-passed g w ew = rw ew (passed by no (λ n. refl) (slop_refusal f slop) o eo g ∙ after-fraction)
