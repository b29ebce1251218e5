-- What is wrong with the lists of a route, test by test. Assumes nothing.
use mathlib.Core.Path.{◌≡◌, refl}
use mathlib.Core.Bool.{Bool, true, false, ◌||◌, cond}
use mathlib.Core.List.{List}
use Prim.Native.Nat.{ℕ, ◌-◌, ◌*◌, ◌/◌, ◌%◌, ◌≤◌, ◌<◌}
use borrow.Author.Tests.{eq-eqb, ne_eqb, lt-ltb, le-ltb, ltb-false}
use native.Mathlib.Omega.{arith}
use lib.Dec.{eqb, ltb}
use lib.ListN.{length}
use lib.Ieee.{Float}
use Rattle.route_legs.specs.Route.{start_of}
use Rattle.route_legs.proofs.Checks.{sweeps-few}
use Rattle.route_clearance_legs.specs.Looks.{wrong_lists}

-- where nothing is wrong neither list is too long
neither-long : (whole few long none many add-up : Bool)
    → ◌≡◌ {A = ℕ} (cond whole (cond (few || long) 16 (cond (none || many) 17 (cond add-up 0 255))) 255) 0 → (long ≡ false) × (many ≡ false)
neither-long false few long none many add-up e = absurd (omega (arith, e))
neither-long true true long none many add-up e = absurd (omega (arith, e))
neither-long true false true none many add-up e = absurd (omega (arith, e))
neither-long true false false true many add-up e = absurd (omega (arith, e))
neither-long true false false false true add-up e = absurd (omega (arith, e))
neither-long true false false false false add-up e = (refl, refl)

module _ (waypoints stills : List Float) (lengths : List ℕ) where
  abbrev number : ℕ
  number = wrong_lists waypoints stills lengths

  abbrev places : ℕ
  places = length waypoints / 4

  pub no-multiple : (length waypoints % 4 ≡ 0 → ⊥) → number ≡ 255
  no-multiple odd = rw (ne_eqb (length waypoints % 4) 0 odd)

  module _ (whole : length waypoints % 4 ≡ 0) where
    pub too_few : places < 2 → number ≡ 16
    too_few less = rw (eq-eqb (length waypoints % 4) 0 whole, lt-ltb places 2 less)

    module _ (two : 2 ≤ places) where
      pub too_many : 33 < places → number ≡ 16
      too_many more = rw (eq-eqb (length waypoints % 4) 0 whole, le-ltb places 2 two, lt-ltb 33 places more)

      module _ (most : places ≤ 33) where
        pub no-outline : length lengths ≡ 0 → number ≡ 17
        no-outline none =
            rw (eq-eqb (length waypoints % 4) 0 whole, le-ltb places 2 two, le-ltb 33 places most, eq-eqb (length lengths) 0 none)

        module _ (some : length lengths ≡ 0 → ⊥) where
          pub too-many-outlines : 32 < length lengths → number ≡ 17
          too-many-outlines more =
              rw (
                eq-eqb (length waypoints % 4) 0 whole,
                le-ltb places 2 two,
                le-ltb 33 places most,
                ne_eqb (length lengths) 0 some,
                lt-ltb 32 (length lengths) more,
              )

          module _ (few : length lengths ≤ 32) where
            pub lengths_differ : (start_of lengths (length lengths) ≡ length stills → ⊥) → number ≡ 255
            lengths_differ differ =
                rw (
                  eq-eqb (length waypoints % 4) 0 whole,
                  le-ltb places 2 two,
                  le-ltb 33 places most,
                  ne_eqb (length lengths) 0 some,
                  le-ltb 32 (length lengths) few,
                  ne_eqb (start_of lengths (length lengths)) (length stills) differ,
                )

            pub nothing-wrong : start_of lengths (length lengths) ≡ length stills → number ≡ 0
            nothing-wrong same =
                rw (
                  eq-eqb (length waypoints % 4) 0 whole,
                  le-ltb places 2 two,
                  le-ltb 33 places most,
                  ne_eqb (length lengths) 0 some,
                  le-ltb 32 (length lengths) few,
                  eq-eqb (start_of lengths (length lengths)) (length stills) same,
                )

  -- at most 32 legs past 32 outlines
  pub few-pairs : number ≡ 0 → (places - 1) * length lengths ≤ 1024
  few-pairs right =
      let h = neither-long (eqb (length waypoints % 4) 0) (ltb places 2) (ltb 33 places) (eqb (length lengths) 0) (ltb 32 (length lengths))
      (eqb (start_of lengths (length lengths)) (length stills)) right in
      sweeps-few places (length lengths) (ltb-false 33 places h.0) (ltb-false 32 (length lengths) h.1)
