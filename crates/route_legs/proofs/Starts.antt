-- Where outlines start in the flat list, one after another. Assumes nothing.
use mathlib.Core.Path.{◌≡◌, refl}
use mathlib.Core.List.{List}
use Prim.Native.Nat.{ℕ, zero, suc, ◌+◌, ◌-◌, ◌≤◌, ◌<◌}
use native.Mathlib.Omega.{arith}
use native.Mathlib.Numerals.{add-one}
use lib.ListN.{get_or}
use Rattle.route_legs.specs.Route.{start_of}

pub start_none : (lengths : List ℕ) → 0 ≡ start_of lengths 0
unfolding start_of
start_none lengths = refl

pub start-more : (lengths : List ℕ) (j : ℕ) → start_of lengths j + get_or lengths j 0 ≡ start_of lengths (j + 1)
unfolding start_of
start-more lengths j = rw add-one

-- an outline ends where the next one starts, and none ends behind the last
starts-grow : (lengths : List ℕ) (j k : ℕ) → start_of lengths j ≤ start_of lengths (j + k)
unfolding start_of
starts-grow lengths j zero = let e : j + 0 ≡ j = omega arith in rw e (omega arith)
starts-grow lengths j (suc k) =
    let e : j + suc k ≡ suc (j + k) = omega arith in
    rw e (omega (arith, starts-grow lengths j k))

pub outline-inside : (lengths : List ℕ) (j n : ℕ) → j < n → start_of lengths j + get_or lengths j 0 ≤ start_of lengths n
outline-inside lengths j n before = go (n - (j + 1)) (omega arith)
  where
    go : (k : ℕ) → j + 1 + k ≡ n → start_of lengths j + get_or lengths j 0 ≤ start_of lengths n
    go k e = rw (← e) (omega (arith, start-more lengths j, starts-grow lengths (j + 1) k))
