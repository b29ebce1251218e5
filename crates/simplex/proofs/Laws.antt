-- The solvers' endings, one law each: which region the tests on the numbers tell, and what the stores of that region keep. Assumes nothing.
use mathlib.Core.Bool.{Bool, true, false, ◌&&◌, cond}
use mathlib.Core.List.{List}
use mathlib.Core.Path.{◌≡◌}
use lib.Ieee.{Float, Format, add, mul, div, lt, le}
use Rattle.model.specs.declared.Vector.{Vector}
use Rattle.model.specs.declared.SimplexVertex.{SimplexVertex}
use Rattle.model.specs.Ground.{one, negate, origin}
use Rattle.model.specs.Ground as Ground
use Rattle.model.specs.Simplex.{slot, weigh, moved, solved, Region, at1, at2, at3, on12, on13, on23, inside, near, far, opposite, off_edge, region2, region3}
use Rattle.model.specs.Simplex.{kept}

-- ---- two vertices
module _ (f : Format) (w1 w2 : Vector) (x y : Float) (ex : x ≡ near f w1 w2) (ey : y ≡ far f w1 w2) where
  pub first-of-two : le y (Ground.zero f) ≡ true → region2 f w1 w2 ≡ at1
  unfolding region2
  first-of-two t = rw (rw ey at t)

  pub second-of-two : le y (Ground.zero f) ≡ false → le x (Ground.zero f) ≡ true → region2 f w1 w2 ≡ at2
  unfolding region2
  second-of-two t u = rw (rw ey at t, rw ex at u)

  pub edge-of-two : le y (Ground.zero f) ≡ false → le x (Ground.zero f) ≡ false → region2 f w1 w2 ≡ on12
  unfolding region2
  edge-of-two t u = rw (rw ey at t, rw ex at u)

-- ---- three vertices, by the nine numbers: dij-i and dij-j are the weights on edge ij, d123-i those in the triangle
pub record Told (f : Format) (w1 w2 w3 : Vector) (d12-1 d12-2 d13-1 d13-2 d23-1 d23-2 d123-1 d123-2 d123-3 : Float) : Type 0 where
  pub near12 : d12-1 ≡ near f w1 w2
  pub far12 : d12-2 ≡ far f w1 w2
  pub near13 : d13-1 ≡ near f w1 w3
  pub far13 : d13-2 ≡ far f w1 w3
  pub near23 : d23-1 ≡ near f w2 w3
  pub far23 : d23-2 ≡ far f w2 w3
  pub opposite1 : d123-1 ≡ opposite f w1 w2 w3 w2 w3
  pub opposite2 : d123-2 ≡ opposite f w1 w2 w3 w3 w1
  pub opposite3 : d123-3 ≡ opposite f w1 w2 w3 w1 w2

module _ (f : Format) where
  abbrev behind : Float → Float → Bool
  behind x y = le x (Ground.zero f) && le y (Ground.zero f)

  abbrev between : Float → Float → Float → Bool
  between x y z = lt (Ground.zero f) x && lt (Ground.zero f) y && le z (Ground.zero f)

  -- the regions in their order, by the nine numbers
  unfoldable pub by_numbers : Float → Float → Float → Float → Float → Float → Float → Float → Float → Region
  by_numbers d12-1 d12-2 d13-1 d13-2 d23-1 d23-2 d123-1 d123-2 d123-3 =
      cond (behind d12-2 d13-2) at1
      (cond (between d12-1 d12-2 d123-3) on12
      (cond (between d13-1 d13-2 d123-2) on13
      (cond (behind d12-1 d23-2) at2
      (cond (behind d13-1 d23-1) at3
      (cond (between d23-1 d23-2 d123-1) on23 inside)))))

  module _ {w1 w2 w3 : Vector} {d12-1 d12-2 d13-1 d13-2 d23-1 d23-2 d123-1 d123-2 d123-3 : Float}
      (t : Told f w1 w2 w3 d12-1 d12-2 d13-1 d13-2 d23-1 d23-2 d123-1 d123-2 d123-3) where
    pub region-told : region3 f w1 w2 w3 ≡ by_numbers d12-1 d12-2 d13-1 d13-2 d23-1 d23-2 d123-1 d123-2 d123-3
    unfolding region3 by_numbers
    region-told = rw (t.near12, t.far12, t.near13, t.far13, t.near23, t.far23, t.opposite1, t.opposite2, t.opposite3)

    pub at_1 : behind d12-2 d13-2 ≡ true → region3 f w1 w2 w3 ≡ at1
    unfolding by_numbers
    at_1 y = rw (region-told, y)

    module _ (n1 : behind d12-2 d13-2 ≡ false) where
      pub on-12 : between d12-1 d12-2 d123-3 ≡ true → region3 f w1 w2 w3 ≡ on12
      unfolding by_numbers
      on-12 y = rw (region-told, n1, y)

      module _ (n2 : between d12-1 d12-2 d123-3 ≡ false) where
        pub on-13 : between d13-1 d13-2 d123-2 ≡ true → region3 f w1 w2 w3 ≡ on13
        unfolding by_numbers
        on-13 y = rw (region-told, n1, n2, y)

        module _ (n3 : between d13-1 d13-2 d123-2 ≡ false) where
          pub at-2 : behind d12-1 d23-2 ≡ true → region3 f w1 w2 w3 ≡ at2
          unfolding by_numbers
          at-2 y = rw (region-told, n1, n2, n3, y)

          module _ (n4 : behind d12-1 d23-2 ≡ false) where
            pub at-3 : behind d13-1 d23-1 ≡ true → region3 f w1 w2 w3 ≡ at3
            unfolding by_numbers
            at-3 y = rw (region-told, n1, n2, n3, n4, y)

            module _ (n5 : behind d13-1 d23-1 ≡ false) where
              pub on-23 : between d23-1 d23-2 d123-1 ≡ true → region3 f w1 w2 w3 ≡ on23
              unfolding by_numbers
              on-23 y = rw (region-told, n1, n2, n3, n4, n5, y)

              pub within : between d23-1 d23-2 d123-1 ≡ false → region3 f w1 w2 w3 ≡ inside
              unfolding by_numbers
              within y = rw (region-told, n1, n2, n3, n4, n5, y)

-- ---- what is kept in a region
module _ (f : Format) (s : List SimplexVertex) (r : Region) where
  -- a store of the weight x times the reciprocal of the sum
  abbrev share : Float → Float → Float
  share x sum = mul f x (div f (one f) sum)

  pub keep-1 : r ≡ at1 → (d : Vector) → d ≡ negate (slot s 0).w → solved (weigh s 0 (one f)) 1 d ≡ kept f s r
  unfolding kept
  keep-1 e d ed = rw (e, ed)

  pub keep-2 : r ≡ at2 → (d : Vector) → d ≡ negate (slot s 1).w → solved (moved (weigh s 1 (one f)) 0 1) 1 d ≡ kept f s r
  unfolding kept
  keep-2 e d ed = rw (e, ed)

  pub keep-3 : r ≡ at3 → (d : Vector) → d ≡ negate (slot s 2).w → solved (moved (weigh s 2 (one f)) 0 2) 1 d ≡ kept f s r
  unfolding kept
  keep-3 e d ed = rw (e, ed)

  pub keep-12 : r ≡ on12 → (x y : Float) → x ≡ near f (slot s 0).w (slot s 1).w → y ≡ far f (slot s 0).w (slot s 1).w →
      (d : Vector) → d ≡ off_edge f (slot s 0).w (slot s 1).w →
      solved (weigh (weigh s 0 (share x (add f x y))) 1 (share y (add f x y))) 2 d ≡ kept f s r
  unfolding kept
  keep-12 e x y ex ey d ed = rw (e, ex, ey, ed)

  pub keep-13 : r ≡ on13 → (x y : Float) → x ≡ near f (slot s 0).w (slot s 2).w → y ≡ far f (slot s 0).w (slot s 2).w →
      (d : Vector) → d ≡ off_edge f (slot s 0).w (slot s 2).w →
      solved (moved (weigh (weigh s 0 (share x (add f x y))) 2 (share y (add f x y))) 1 2) 2 d ≡ kept f s r
  unfolding kept
  keep-13 e x y ex ey d ed = rw (e, ex, ey, ed)

  pub keep-23 : r ≡ on23 → (x y : Float) → x ≡ near f (slot s 1).w (slot s 2).w → y ≡ far f (slot s 1).w (slot s 2).w →
      (d : Vector) → d ≡ off_edge f (slot s 1).w (slot s 2).w →
      solved (moved (weigh (weigh s 1 (share x (add f x y))) 2 (share y (add f x y))) 0 2) 2 d ≡ kept f s r
  unfolding kept
  keep-23 e x y ex ey d ed = rw (e, ex, ey, ed)

  pub keep_all : r ≡ inside → (x y z : Float) →
      x ≡ opposite f (slot s 0).w (slot s 1).w (slot s 2).w (slot s 1).w (slot s 2).w →
      y ≡ opposite f (slot s 0).w (slot s 1).w (slot s 2).w (slot s 2).w (slot s 0).w →
      z ≡ opposite f (slot s 0).w (slot s 1).w (slot s 2).w (slot s 0).w (slot s 1).w →
      let sum = add f (add f x y) z in
      solved (weigh (weigh (weigh s 0 (share x sum)) 1 (share y sum)) 2 (share z sum)) 3 (origin f) ≡ kept f s r
  unfolding kept
  keep_all e x y z ex ey ez = rw (e, ex, ey, ez)
