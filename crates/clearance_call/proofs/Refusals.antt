-- The endings of `refusal_by`, one law each: the first refusal of five checks. Assumes nothing.
use Prim.Native.Nat.{ℕ}
use mathlib.Core.List.{List}
use mathlib.Core.Path.{◌≡◌, refl, ◌∙◌}
use lib.Ieee.{Float, binary32}
use Rattle.std.proofs.Common.{Result, Ok, Err}
use Rattle.model.specs.declared.Vector.{Vector}
use Rattle.model.specs.declared.Sweep.{Sweep}
use Rattle.model.specs.declared.Refusal.{Refusal}
use Rattle.model.specs.Domain.{pair_refusal, sweeps_refusal, fraction_refusal, slop_refusal, or_else, checked, refusal}
use Rattle.model.proofs.Domain.{passed, refused}
use Rattle.clearance_call.specs.Call.{from_refusal, refusal_by}

-- a check that other checks follow, whose first refusal is m
module _ (m k : ℕ) (x : Result Unit Refusal) (is : x ≡ checked k) where
  goes_on : x ≡ Ok tt → m ≡ or_else k m
  goes_on = passed (λ n. or_else n m) (λ n. n) (λ n. refl) k x is

  stops : (r : Refusal) → x ≡ Err r → (j : ℕ) → j ≡ refusal x → j ≡ or_else k m
  stops = refused (λ n. or_else n m) (λ n. n) (λ n. refl) k x is

-- the last one
told-number : (k : ℕ) (x : Result Unit Refusal) → x ≡ checked k → (j : ℕ) → j ≡ refusal x → j ≡ k
told-number k x is j ej = go k x is ej
  where
    go : (k : ℕ) (x : Result Unit Refusal) → x ≡ checked k → j ≡ refusal x → j ≡ k
    go k (Ok tt) is e = e ∙ passed (λ n. n) (λ n. n) (λ n. refl) k (Ok tt) is refl
    go k (Err r) is e = refused (λ n. n) (λ n. n) (λ n. refl) k (Err r) is r refl j e

module _ (a b : List Float) (radii limits : Vector) (wa wb : Sweep) (from : Float) where
  abbrev first : ℕ
  first = pair_refusal binary32 a b radii.x radii.y

  abbrev fourth : ℕ
  fourth = or_else (from_refusal from limits.x) (slop_refusal binary32 limits.y)

  abbrev third : ℕ
  third = or_else (fraction_refusal binary32 limits.x) fourth

  abbrev second : ℕ
  second = or_else (sweeps_refusal binary32 wa wb) third

  abbrev number : ℕ
  number = refusal_by a b radii limits wa wb from

  module _ (x : Result Unit Refusal) (ex : x ≡ checked first) where
    pub pair-refused : (r : Refusal) → x ≡ Err r → (j : ℕ) → j ≡ refusal x → j ≡ number
    pair-refused = stops second first x ex

    module _ (gx : x ≡ Ok tt) (y : Result Unit Refusal) (ey : y ≡ checked (sweeps_refusal binary32 wa wb)) where
      after-pair : second ≡ number
      after-pair = goes_on second first x ex gx

      pub sweeps-refused : (r : Refusal) → y ≡ Err r → (j : ℕ) → j ≡ refusal y → j ≡ number
      sweeps-refused n g j ej = stops third (sweeps_refusal binary32 wa wb) y ey n g j ej ∙ after-pair

      module _ (gy : y ≡ Ok tt) (z : Result Unit Refusal) (ez : z ≡ checked (fraction_refusal binary32 limits.x)) where
        after-sweeps : third ≡ number
        after-sweeps = goes_on third (sweeps_refusal binary32 wa wb) y ey gy ∙ after-pair

        pub fraction-refused : (r : Refusal) → z ≡ Err r → (j : ℕ) → j ≡ refusal z → j ≡ number
        fraction-refused n g j ej = stops fourth (fraction_refusal binary32 limits.x) z ez n g j ej ∙ after-sweeps

        module _ (gz : z ≡ Ok tt) (w : Result Unit Refusal) (ew : w ≡ checked (from_refusal from limits.x)) where
          after-fraction : fourth ≡ number
          after-fraction = goes_on fourth (fraction_refusal binary32 limits.x) z ez gz ∙ after-sweeps

          pub start-refused : (r : Refusal) → w ≡ Err r → (j : ℕ) → j ≡ refusal w → j ≡ number
          start-refused n g j ej = stops (slop_refusal binary32 limits.y) (from_refusal from limits.x) w ew n g j ej ∙ after-fraction

          pub last-told : w ≡ Ok tt → (o : Result Unit Refusal) → o ≡ checked (slop_refusal binary32 limits.y) → (j : ℕ) → j ≡ refusal o → j ≡ number
          last-told gw o eo j ej =
              told-number (slop_refusal binary32 limits.y) o eo j ej
              ∙ goes_on (slop_refusal binary32 limits.y) (from_refusal from limits.x) w ew gw ∙ after-fraction
