-- What is left of the doublings gives the same pattern. Assumes nothing.
use mathlib.Core.Path.{◌≡◌}
use Prim.Native.Nat.{◌-◌, ◌<◌}
use Rattle.places.specs.Place.{pattern_from}
use Rattle.places.proofs.pattern.Given as goal

abbrev pub invariant-loop-doubled : goal.invariant-loop-doubled
invariant-loop-doubled l = (l.m < 16777216) × (pattern_from (23 - l.doubled) l.m ≡ pattern_from 23 l.k)
