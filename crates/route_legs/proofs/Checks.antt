-- What a route answers before any sweep is run. Assumes nothing.
use mathlib.Core.Path.{◌≡◌, refl}
use mathlib.Core.List.{List}
use Prim.Native.Nat.{ℕ, zero, suc, ◌-◌, ◌*◌, ◌/◌, ◌%◌, ◌≤◌, ◌<◌}
use native.Mathlib.Omega.{arith}
use native.Mathlib.Nat.{mul-le-mul}
use borrow.Author.Tests.{eq-eqb, ne_eqb, lt-ltb, le-ltb}
use lib.ListN.{length}
use lib.Ieee.{Float, Format}
use Rattle.route_legs.specs.declared.RouteAnswer.{RouteAnswer}
use Rattle.route_legs.specs.declared.RouteAnswer.TheVariants.{Wrong}
use Rattle.route_legs.specs.Route.{start_of, walk_from, route}

-- at most 32 legs past 32 outlines
pub sweeps-few : (places outlines : ℕ) → places ≤ 33 → outlines ≤ 32 → (places - 1) * outlines ≤ 1024
sweeps-few places outlines few-places few-outlines =
    let legs : places - 1 ≤ 32 = omega arith in
    mul-le-mul legs few-outlines

pub some-outline : (n : ℕ) → (n ≡ 0 → ⊥) → 1 ≤ n
some-outline zero none = absurd (none refl)
some-outline (suc n) none = omega arith

module _ (f : Format) (cart waypoints stills : List Float) (lengths : List ℕ) (slop : Float) where
  abbrev answer : RouteAnswer
  answer = route f cart waypoints stills lengths slop

  abbrev places : ℕ
  places = length waypoints / 4

  pub no-multiple : (length waypoints % 4 ≡ 0 → ⊥) → Wrong 255 ≡ answer
  unfolding route
  no-multiple odd = rw (ne_eqb (length waypoints % 4) 0 odd)

  module _ (whole : length waypoints % 4 ≡ 0) where
    pub too_few : places < 2 → Wrong 16 ≡ answer
    unfolding route
    too_few less = rw (eq-eqb (length waypoints % 4) 0 whole, lt-ltb places 2 less)

    module _ (two : 2 ≤ places) where
      pub too_many : 33 < places → Wrong 16 ≡ answer
      unfolding route
      too_many more = rw (eq-eqb (length waypoints % 4) 0 whole, le-ltb places 2 two, lt-ltb 33 places more)

      module _ (most : places ≤ 33) where
        pub no-outline : length lengths ≡ 0 → Wrong 17 ≡ answer
        unfolding route
        no-outline none =
            rw (eq-eqb (length waypoints % 4) 0 whole, le-ltb places 2 two, le-ltb 33 places most, eq-eqb (length lengths) 0 none)

        module _ (some : length lengths ≡ 0 → ⊥) where
          pub too-many-outlines : 32 < length lengths → Wrong 17 ≡ answer
          unfolding route
          too-many-outlines more =
              rw (
                eq-eqb (length waypoints % 4) 0 whole,
                le-ltb places 2 two,
                le-ltb 33 places most,
                ne_eqb (length lengths) 0 some,
                lt-ltb 32 (length lengths) more,
              )

          module _ (few : length lengths ≤ 32) where
            pub lengths_differ : (start_of lengths (length lengths) ≡ length stills → ⊥) → Wrong 255 ≡ answer
            unfolding route
            lengths_differ differ =
                rw (
                  eq-eqb (length waypoints % 4) 0 whole,
                  le-ltb places 2 two,
                  le-ltb 33 places most,
                  ne_eqb (length lengths) 0 some,
                  le-ltb 32 (length lengths) few,
                  ne_eqb (start_of lengths (length lengths)) (length stills) differ,
                )

            pub all_right : start_of lengths (length lengths) ≡ length stills →
                walk_from f cart waypoints stills lengths slop ((places - 1) * length lengths) 0 0 ≡ answer
            unfolding route
            all_right same =
                rw (
                  eq-eqb (length waypoints % 4) 0 whole,
                  le-ltb places 2 two,
                  le-ltb 33 places most,
                  ne_eqb (length lengths) 0 some,
                  le-ltb 32 (length lengths) few,
                  eq-eqb (start_of lengths (length lengths)) (length stills) same,
                )
