-- The answers of the sweep and of the distance call, told. Assumes nothing.
use Rattle.std.proofs.Common.{Result}
use mathlib.Core.Path.{◌≡◌, refl}
use mathlib.Core.Bool.{Bool, true, false, ◌&&◌}
use mathlib.Core.List.{List}
use Prim.Native.Nat.{ℕ, ◌≤◌, ◌<◌}
use native.Mathlib.Omega.{arith}
use borrow.Author.Tests.{eqb-true, lt-ltb, le-ltb}
use lib.Dec.{eqb, ltb}
use lib.ListN.{length, get_or}
use lib.Ieee.{Float, binary32}
use Rattle.std.proofs.Common.{Result, Ok, Err}
use Rattle.model.specs.declared.Verdict.{Verdict}
use Rattle.model.specs.declared.Refusal.{Refusal}
use Rattle.model.specs.declared.SimplexCache.{SimplexCache}
use Rattle.model.specs.declared.Ending.{Ending}
use Rattle.model.specs.declared.Ending.TheVariants.{Touching, Settled, RoundLimit}
use Rattle.model.specs.declared.Distance.{Distance}
use Rattle.model.specs.declared.ProxyDistanceOutput.{ProxyDistanceOutput}
use Rattle.model.proofs.DistanceCall.{both, rounds-at-most-20}
use Rattle.list_calls.specs.Entry.{sweep_call, sweep_number, contact_after, counts_after, sweep_fits, SweepTold, ending_number, rounds_of, cache_of}
use Rattle.list_calls.specs.Entry.{distance_for, distance_number, cache_after, output_after, distance_fits, DistanceTold}

-- ---- the sweep
module _ (ns out : List Float) (counts : List ℕ) where
  pub sweep-lengths : sweep_fits ns out counts ≡ true → (length ns ≡ 24) × (length out ≡ 5) × (length counts ≡ 7)
  sweep-lengths fits =
      let last = both (eqb (length ns) 24 && eqb (length out) 5) (eqb (length counts) 7) fits in
      let first = both (eqb (length ns) 24) (eqb (length out) 5) last.0 in
      (eqb-true _ _ first.0, eqb-true _ _ first.1, eqb-true _ _ last.1)

  module _ (a b : List Float) where
    pub sweep-told : (x : Result Verdict Refusal) (out' : List Float) (counts' : List ℕ) (r : ℕ) → sweep_fits ns out counts ≡ true → x ≡ sweep_call binary32 a b ns →
        (r ≡ sweep_number x) × (out' ≡ contact_after x out) × (counts' ≡ counts_after x counts) → SweepTold binary32 a b ns out counts out' counts' r
    sweep-told x out' counts' r fits is told =
        record { number = rw (fits, ← is) told.0; contact = rw (fits, ← is) told.1; counted = rw (fits, ← is) told.2 }

    pub sweep-misfit : sweep_fits ns out counts ≡ false → SweepTold binary32 a b ns out counts out counts 255
    sweep-misfit fits = record { number = rw fits refl; contact = rw fits refl; counted = rw fits refl }

-- ---- the distance
pub ending-small : (e : Ending) → ending_number e ≤ 18
ending-small Touching = omega arith
ending-small Settled = omega arith
ending-small RoundLimit = omega arith

pub distance-rounds : (a b ns : List Float) (radii : Bool) (pair : ℕ) (start : SimplexCache) → rounds_of (distance_for binary32 a b ns radii pair start).answer
    ≤ 20
unfolding distance_for
distance-rounds a b ns radii pair start = go _ refl
  where
    go : (x : Result ProxyDistanceOutput Refusal) → (distance_for binary32 a b ns radii pair start).answer ≡ x → rounds_of x ≤ 20
    go (Ok o) e = rounds-at-most-20 binary32 _ a _ b _ radii pair start o e
    go (Err r) e = omega arith

module _ (ns : List Float) (words : List ℕ) (out : List Float) where
  abbrev Sizes : Bool
  Sizes = eqb (length ns) 6 && eqb (length words) 8 && eqb (length out) 7

  pub distance-lengths : Sizes ≡ true → (length ns ≡ 6) × (length words ≡ 8) × (length out ≡ 7)
  distance-lengths sizes =
      let last = both (eqb (length ns) 6 && eqb (length words) 8) (eqb (length out) 7) sizes in
      let first = both (eqb (length ns) 6) (eqb (length words) 8) last.0 in
      (eqb-true _ _ first.0, eqb-true _ _ first.1, eqb-true _ _ last.1)

  module _ (a b : List Float) (radii pair : ℕ) where
    pub distance-told : (start : SimplexCache) (d : Distance) (words' : List ℕ) (out' : List Float) (r : ℕ) → Sizes ≡ true → get_or words 1 0 < 256 →
        start ≡ cache_of words → d ≡ distance_for binary32 a b ns (ltb 0 radii) pair start →
        (r ≡ distance_number d.answer) × (words' ≡ cache_after d.answer d.cache words) × (out' ≡ output_after d.answer out) →
        DistanceTold binary32 a b ns radii pair words out words' out' r
    distance-told start d words' out' r sizes small from is told =
        let fits : distance_fits ns words out ≡ true = rw sizes (lt-ltb (get_or words 1 0) 256 small) in
        let call : d ≡ distance_for binary32 a b ns (ltb 0 radii) pair (cache_of words) = rw from at is in
        record { number = rw (fits, ← call) told.0; cached = rw (fits, ← call) told.1; measured = rw (fits, ← call) told.2 }

    distance-misfit : distance_fits ns words out ≡ false → DistanceTold binary32 a b ns radii pair words out words out 255
    distance-misfit fits = record { number = rw fits refl; cached = rw fits refl; measured = rw fits refl }

    pub wrong-length : Sizes ≡ false → DistanceTold binary32 a b ns radii pair words out words out 255
    wrong-length sizes = distance-misfit (rw sizes refl)

    pub wrong-count : Sizes ≡ true → 256 ≤ get_or words 1 0 → DistanceTold binary32 a b ns radii pair words out words out 255
    wrong-count sizes large = distance-misfit (rw sizes (le-ltb (get_or words 1 0) 256 large))
