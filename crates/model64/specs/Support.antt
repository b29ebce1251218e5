-- Written by tests/written/wide.py from model, in f64.
-- Points of a flat list x0 y0 x1 y1 .., and `support`: the point that lies farthest along a direction.
use Rattle.std.specs.Prelude.{ℕ, ◌+◌, ◌*◌, ◌%◌, ◌^◌, Bool, true, false, cond, List, [], ◌∷◌, get_or, drop, Float}
use Rattle.std.specs.Float.{nan, Format}
use Rattle.std.specs.Float.Ieee.{lt}
use Rattle.model64.specs.declared.Vector.{Vector}
use Rattle.model64.specs.Ground.{vector, minus, dot}
use Rattle.model64.specs.Ground as Ground

-- point i; where the list has none, its parts are not numbers
abbrev pub point : List Float → ℕ → Vector
point s i = vector (get_or s (2 * i) nan) (get_or s (2 * i + 1) nan)

-- Among the points from i on, whose list is given: the last one to have a value above the best so far, or the best so far.
-- A tie keeps the lower index, and a NaN is above nothing.
unfoldable pub support_from : Format → Vector → Vector → List Float → ℕ → ℕ → Float → ℕ
support_from f d o [] i best value = best
support_from f d o (x ∷ []) i best value = best
support_from f d o (x ∷ y ∷ s) i best value =
    let v = dot f d (minus f (vector x y) o) in
    support_from f d o s (i + 1) (cond (lt value v) i best) (cond (lt value v) v value)

-- point 0 starts as the best, with the value 0. The index is told as a u32, which cuts none of an outline's 64
abbrev pub support : Format → List Float → Vector → ℕ
support f s d = support_from f d (point s 0) (drop 2 s) 1 0 (Ground.zero f) % 2 ^ 32
