-- Written by tests/written/wide.py from model, in f64.
-- What a solve keeps: of the vertices that it was given one, two or three, each as it was but for its weight. Assumes nothing.
use Prim.Native.Nat.{ℕ, ◌+◌, ◌≤◌, ◌<◌}
use native.Mathlib.Omega.{arith}
use mathlib.Core.Bool.{Bool, true, false, ◌&&◌, cond}
use mathlib.Core.List.{List, [], ◌∷◌}
use mathlib.Core.Path.{◌≡◌, refl}
use lib.Dec.{eqb}
use lib.ListN.{get_or, set, length}
use lib.Ieee.{Float, Format, lt, le}
use Rattle.model64.specs.declared.Vector.{Vector}
use Rattle.model64.specs.declared.SimplexVertex.{SimplexVertex}
use Rattle.model64.specs.declared.Solved.{Solved}
use Rattle.model64.specs.Ground as Ground
use Rattle.model.specs.Simplex.{Region, at1, at2, at3, on12, on13, on23, inside}
use Rattle.model64.specs.Simplex.{slot, weighted, solved, near, far, region2, region3, kept}
use Rattle.model64.specs.Simplex.{solve_simplex2, solve_simplex3, solve}

-- ---- by cases on a test
pub by-test : {A : Type 0} (P : A → Type 0) (t : Bool) {x y : A} → P x → P y → P (cond t x y)
by-test P true p q = p
by-test P false p q = q

pub by-known-test : {A : Type 0} (P : A → Type 0) (t : Bool) {x y : A} → (t ≡ true → P x) → (t ≡ false → P y) → P (cond t x y)
by-known-test P true p q = p refl
by-known-test P false p q = q refl

-- ---- how many are kept
pub record Few (r : Solved) : Type 0 where
  pub some : 1 ≤ r.count
  pub most : r.count ≤ 3

kept-few : (f : Format) (s : List SimplexVertex) (r : Region) → Few (kept f s r)
unfolding kept
kept-few f s at1 = record { some = omega arith; most = omega arith }
kept-few f s at2 = record { some = omega arith; most = omega arith }
kept-few f s at3 = record { some = omega arith; most = omega arith }
kept-few f s on12 = record { some = omega arith; most = omega arith }
kept-few f s on13 = record { some = omega arith; most = omega arith }
kept-few f s on23 = record { some = omega arith; most = omega arith }
kept-few f s inside = record { some = omega arith; most = omega arith }

one-few : (s : List SimplexVertex) (d : Vector) → Few (solved s 1 d)
one-few s d = record { some = omega arith; most = omega arith }

pub solve-few : (f : Format) (s : List SimplexVertex) (n : ℕ) → Few (solve f s n)
unfolding solve solve_simplex2 solve_simplex3
solve-few f s n = by-test Few (eqb n 1) (one-few _ _) (by-test Few (eqb n 2) (kept-few f s _) (kept-few f s _))

-- the regions of two vertices
data OfTwo : Region → Type 0 where
  first : OfTwo at1
  second : OfTwo at2
  edge : OfTwo on12

region-of-two : (f : Format) (w1 w2 : Vector) → OfTwo (region2 f w1 w2)
unfolding region2
region-of-two f w1 w2 = by-test OfTwo (le (far f w1 w2) (Ground.zero f)) first (by-test OfTwo (le (near f w1 w2) (Ground.zero f)) second edge)

-- ---- which are kept: P says of a vertex what no weight changes
module _ (P : SimplexVertex → Type 0) where
  -- three slots, of which the first one, two or three are held and have P
  pub data Held : List SimplexVertex → ℕ → Type 0 where
    single : {v1 v2 v3 : SimplexVertex} → P v1 → Held (v1 ∷ v2 ∷ v3 ∷ []) 1
    pair : {v1 v2 v3 : SimplexVertex} → P v1 → P v2 → Held (v1 ∷ v2 ∷ v3 ∷ []) 2
    triple : {v1 v2 v3 : SimplexVertex} → P v1 → P v2 → P v3 → Held (v1 ∷ v2 ∷ v3 ∷ []) 3

  pub held-some : {s : List SimplexVertex} {n : ℕ} → Held s n → 1 ≤ n
  held-some (single p) = omega arith
  held-some (pair p q) = omega arith
  held-some (triple p q r) = omega arith

  pub held-most : {s : List SimplexVertex} {n : ℕ} → Held s n → n ≤ 3
  held-most (single p) = omega arith
  held-most (pair p q) = omega arith
  held-most (triple p q r) = omega arith

  abbrev pub HeldBy : Solved → Type 0
  HeldBy r = Held r.simplex r.count

  module _ (f : Format) (stays : (v : SimplexVertex) (x : Float) → P v → P (weighted v x)) where
    abbrev Kept : List SimplexVertex → Region → Type 0
    Kept s r = HeldBy (kept f s r)

    kept-of-three : {v1 v2 v3 : SimplexVertex} → P v1 → P v2 → P v3 → (r : Region) → Kept (v1 ∷ v2 ∷ v3 ∷ []) r
    unfolding kept
    kept-of-three p q r at1 = single (stays _ _ p)
    kept-of-three p q r at2 = single (stays _ _ q)
    kept-of-three p q r at3 = single (stays _ _ r)
    kept-of-three p q r on12 = pair (stays _ _ p) (stays _ _ q)
    kept-of-three p q r on13 = pair (stays _ _ p) (stays _ _ r)
    kept-of-three p q r on23 = pair (stays _ _ r) (stays _ _ q)
    kept-of-three p q r inside = triple (stays _ _ p) (stays _ _ q) (stays _ _ r)

    kept-of-two : {v1 v2 : SimplexVertex} (v3 : SimplexVertex) → P v1 → P v2 → {r : Region} → OfTwo r → Kept (v1 ∷ v2 ∷ v3 ∷ []) r
    unfolding kept
    kept-of-two v3 p q first = single (stays _ _ p)
    kept-of-two v3 p q second = single (stays _ _ q)
    kept-of-two v3 p q edge = pair (stays _ _ p) (stays _ _ q)

    pub solve-held : {s : List SimplexVertex} {n : ℕ} → Held s n → HeldBy (solve f s n)
    unfolding solve solve_simplex2 solve_simplex3
    solve-held (single p) = single p
    solve-held (pair p q) = kept-of-two _ p q (region-of-two f _ _)
    solve-held (triple p q r) = kept-of-three p q r _
