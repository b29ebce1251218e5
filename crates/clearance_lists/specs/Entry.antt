-- What a look at a planned move answers by a number, and what it leaves in the lists that it was lent. A list of the wrong length is told by 255, and
-- nothing is written.
use Rattle.std.specs.Prelude.{◌≡◌, ℕ, ◌≤◌, Bool, true, false, ◌&&◌, List, [], ◌∷◌, eqb, length, Float}
use Rattle.std.specs.Float.{binary32}
use Rattle.std.specs.Float.Ieee.{of_bits}
use Rattle.model.specs.Support.{point}
use Rattle.places.specs.Place.{place_bits}
use Rattle.clearance_call.specs.declared.Cleared.{Cleared}
use Rattle.clearance_call.specs.declared.Cleared.TheVariants.{Refused, Clear, Touch, Open}
use Rattle.clearance_call.specs.Call.{Told}

abbrev pub cleared_number : Cleared → ℕ
cleared_number (Refused k) = k
cleared_number (Clear n) = 32
cleared_number (Touch u t n) = 33
cleared_number (Open u n) = 34

-- a place on the way as an f32: k / 2^24, which is not rounded
abbrev pub fraction_at : ℕ → Float
fraction_at k = of_bits binary32 (place_bits k)

-- the end twice of CLEAR, u and t of TOUCH, u and the end of OPEN; a refusal leaves the list
abbrev pub fractions_after : (end : Float) → Cleared → List Float → List Float
fractions_after end (Refused k) out = out
fractions_after end (Clear n) out = end ∷ end ∷ []
fractions_after end (Touch u t n) out = fraction_at u ∷ fraction_at t ∷ []
fractions_after end (Open u n) out = fraction_at u ∷ end ∷ []

-- the pieces that were tried
abbrev pub pieces_after : Cleared → List ℕ → List ℕ
pieces_after (Refused k) out = out
pieces_after (Clear n) out = n ∷ []
pieces_after (Touch u t n) out = n ∷ []
pieces_after (Open u n) out = n ∷ []

abbrev pub Few : Cleared → Type 0
Few (Refused k) = 0 ≤ 0
Few (Clear n) = n ≤ 4096
Few (Touch u t n) = n ≤ 4096
Few (Open u n) = n ≤ 4096

abbrev pub clearance_fits : List Float → List Float → List ℕ → Bool
clearance_fits numbers out pieces = eqb (length numbers) 24 && eqb (length out) 2 && eqb (length pieces) 1

module _ (points_a points_b numbers : List Float) (from : Float) (out : List Float) (pieces : List ℕ) (out' : List Float) (pieces' : List ℕ) (r : ℕ) where
  -- an answer that holds, told by its number and in the lists
  pub record Reported : Type 0 where
    pub answer : Cleared
    pub holds : Told points_a points_b numbers from answer
    pub number : r ≡ cleared_number answer
    pub fractions : out' ≡ fractions_after (point numbers 1).x answer out
    pub tried : pieces' ≡ pieces_after answer pieces

  pub record Misfit : Type 0 where
    pub number : r ≡ 255
    pub fractions : out' ≡ out
    pub tried : pieces' ≡ pieces

  pub record ClearanceTold : Type 0 where
    pub told : clearance_fits numbers out pieces ≡ true → Reported
    pub misfit : clearance_fits numbers out pieces ≡ false → Misfit
