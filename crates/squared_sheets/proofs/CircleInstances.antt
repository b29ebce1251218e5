-- Both cases of `NoCircles` are real: a call whose kept place gets shorter at each of its four rounds, and one where it stays and the next round settles. The checker
-- computes the states and the lengths. Assumes nothing.
use mathlib.Core.Path.{◌≡◌, refl}
use mathlib.Core.Bool.{false}
use mathlib.Core.List.{[], ◌∷◌}
use Prim.Native.Nat.{ℕ, zero, suc, ◌<◌}
use lib.Dec.{lit<, lit≤}
use lib.IntN.{pos}
use lib.Ieee.{binary32, of_bits, of_int, add, sub, mul, div, neg, lt, le, eq, round}
use Rattle.std.proofs.Common.{Ok}
use Rattle.integers.specs.Signed.{of_nat, ◌⊠◌, ◌≼◌}
use Rattle.model.specs.declared.Solved.{Solved}
use Rattle.model.specs.declared.Rounds.{Rounds}
use Rattle.model.specs.declared.Ending.{Ending}
use Rattle.model.specs.declared.Ending.TheVariants.{Settled}
use Rattle.model.specs.declared.ProxyDistanceOutput.{ProxyDistanceOutput}
use Rattle.model.specs.Ground.{abs}
use Rattle.model.specs.Ground as Ground
use Rattle.model.specs.Root.{root}
use Rattle.model.specs.Domain.{bad_parts}
use Rattle.model.specs.Support.{support_from}
use Rattle.model.specs.Simplex.{slot, region2, region3, kept, solve_simplex2, solve_simplex3, solve}
use Rattle.model.specs.Distance.{all_below, replaced, held, vertex, start_simplex, rounds_from, witness_points, measure, proxy_distance}
use Rattle.plane.specs.Plane.{Point, difference, scaled, dot, total, weighted_sum}
use Rattle.squared_sheets.specs.Sheet.{Sheet, corner_of, drawn, drawn_pose, every, posed_corner, OnPaper}
use Rattle.plane.specs.Fraction.{Fraction, ◌≃ᶠ◌}
use Rattle.circles.specs.NoCircles.{squared_length, NearestOf, State, GoesOn, start, next, rounds_of, Reaches, first, then, Nearer}
use Rattle.exact.proofs.Below.{below1, below2}
use Rattle.exact.proofs.Kept.{two}
use Rattle.squared_sheets.proofs.Sheets.{on-squared-paper}
use Rattle.circles.proofs.NoCircles.{no-circles-on-squared-paper}
use Rattle.circles.proofs.Shorter.{least-by-level}
use Rattle.squared_sheets.proofs.Instances.{none, ours, call}

-- ---- the sheets: two segments each
abbrev pub falling : Sheet
falling = record {
  a = pos 4 ∷ pos 1 ∷ pos 4 ∷ pos 2 ∷ [];
  b = pos 9 ∷ pos 1 ∷ pos 8 ∷ pos 4 ∷ [];
  cosine = pos 1;
  sine = pos 0;
  shift_x = pos 0;
  shift_y = pos 0;
}

abbrev pub staying : Sheet
staying = record {
  a = pos 0 ∷ pos 0 ∷ pos 1 ∷ pos 3 ∷ [];
  b = pos 6 ∷ pos 2 ∷ pos 4 ∷ pos 2 ∷ [];
  cosine = pos 1;
  sine = pos 0;
  shift_x = pos 0;
  shift_y = pos 0;
}

pub falling-on-paper : OnPaper falling 16
unfolding every ◌⊠◌
falling-on-paper = record { numbers_a = tt; numbers_b = tt; quarter_turn = tt; shifted = tt; near = tt }

pub staying-on-paper : OnPaper staying 16
unfolding every ◌⊠◌
staying-on-paper = record { numbers_a = tt; numbers_b = tt; quarter_turn = tt; shifted = tt; near = tt }

-- ---- the states of a sheet's call from no cache
module _ (s : Sheet) where
  abbrev pub at : ℕ → State
  at zero = start binary32 (drawn binary32 s.a) (drawn binary32 s.b) (drawn_pose binary32 s) none
  at (suc n) = next binary32 (drawn binary32 s.a) (drawn binary32 s.b) (drawn_pose binary32 s) (at n)

  abbrev pub On : ℕ → Type 0
  On n = GoesOn binary32 (drawn binary32 s.a) (drawn binary32 s.b) (drawn_pose binary32 s) (at n)

  abbrev pub whole : Rounds
  whole = rounds_of binary32 (drawn binary32 s.a) (drawn binary32 s.b) (drawn_pose binary32 s) 20 (at 0)

pub falling-on : On falling 0 × On falling 1 × On falling 2 × ((whole falling).ending ≡ Settled) × ((whole falling).iterations ≡ 4)
unfolding rounds_from start_simplex vertex held solve solve_simplex2 solve_simplex3 region2 region3 kept support_from all_below of_bits of_int round add sub mul div
    neg lt le eq
falling-on = (record { apart = refl; new = refl }, record { apart = refl; new = refl }, record { apart = refl; new = refl }, refl, refl)

-- ---- the lengths
abbrev pub fraction : ℕ → ℕ → Fraction
fraction t n = record { top = of_nat t; bottom = of_nat n }

module _ (s : Sheet) where
  abbrev solved_at : ℕ → Solved
  solved_at n = solve binary32 (at s n).simplex (at s n).count

  abbrev place_of : ℕ → ℕ → Point
  place_of n i = let v = slot (solved_at n).simplex i in difference (corner_of s.a v.index_a) (posed_corner s v.index_b)

  -- the nearest place of what the solve at state n keeps has the squared length r
  abbrev pub Length : ℕ → Fraction → Type 0
  Length n r = (u : NearestOf (solved_at n).count (place_of n)) × (squared_length (solved_at n).count (place_of n) u.weight ≃ᶠ r)

  -- by weights: the solve is computed, and so are the three facts
  by_weights : (n : ℕ) (r : Fraction) (weight : ℕ → ℕ) → 0 < total (solved_at n).count weight
      → let u = weighted_sum (solved_at n).count weight (place_of n) in
      ((i : ℕ) → i < (solved_at n).count → dot u u ≼ dot (scaled (of_nat (total (solved_at n).count weight)) u) (place_of n i))
      → squared_length (solved_at n).count (place_of n) weight ≃ᶠ r → Length n r
  by_weights n r weight some behind is =
      (record { weight = weight; some = some; least = λ other h. least-by-level (solved_at n).count (place_of n) weight behind other }, is)

pub falling-lengths : Length falling 0 (fraction 25 1) × Length falling 1 (fraction 45 2) × Length falling 2 (fraction 361 17)
    × Length falling 3 (fraction 98 5)
unfolding rounds_from start_simplex vertex held solve solve_simplex2 solve_simplex3 region2 region3 kept support_from all_below of_bits of_int round add sub mul div
    neg lt le eq ◌⊠◌
falling-lengths = (
  by_weights falling 0 (fraction 25 1) (λ i. 1) (lit< tt) (below1 _ (lit≤ tt)) refl,
  by_weights falling 1 (fraction 45 2) (two 1 1) (lit< tt) (below2 _ (lit≤ tt) (lit≤ tt)) refl,
  by_weights falling 2 (fraction 361 17) (two 8 9) (lit< tt) (below2 _ (lit≤ tt) (lit≤ tt)) refl,
  by_weights falling 3 (fraction 98 5) (two 1 4) (lit< tt) (below2 _ (lit≤ tt) (lit≤ tt)) refl,
)

-- ---- it stays, and settles
pub staying-on : On staying 0 × On staying 1 × ((whole staying).ending ≡ Settled) × ((whole staying).iterations ≡ 3)
unfolding rounds_from start_simplex vertex held solve solve_simplex2 solve_simplex3 region2 region3 kept support_from all_below of_bits of_int round add sub mul div
    neg lt le eq
staying-on = (record { apart = refl; new = refl }, record { apart = refl; new = refl }, refl, refl)

pub staying-lengths : Length staying 0 (fraction 40 1) × Length staying 1 (fraction 10 1) × Length staying 2 (fraction 10 1)
unfolding rounds_from start_simplex vertex held solve solve_simplex2 solve_simplex3 region2 region3 kept support_from all_below of_bits of_int round add sub mul div
    neg lt le eq ◌⊠◌
staying-lengths = (
  by_weights staying 0 (fraction 40 1) (λ i. 1) (lit< tt) (below1 _ (lit≤ tt)) refl,
  by_weights staying 1 (fraction 10 1) (λ i. 1) (lit< tt) (below1 _ (lit≤ tt)) refl,
  by_weights staying 2 (fraction 10 1) (λ i. 1) (lit< tt) (below1 _ (lit≤ tt)) refl,
)

-- ---- what the theorem says of the last round that goes on in each: the ending and the rounds are those that the calls tell
module _ (s : Sheet) where
  abbrev CallReaches : ℕ → ℕ → Type 0
  CallReaches k n = Reaches binary32 (drawn binary32 s.a) (drawn binary32 s.b) (drawn_pose binary32 s) none 20 k (at s n)

  abbrev NearerAt : OnPaper s 16 → Ending → ℕ → ℕ → Type 0
  NearerAt paper ending rounds n = Nearer binary32 (on-squared-paper binary32 s 16 paper) ending rounds (at s n)

  says : (paper : OnPaper s 16) (o : ProxyDistanceOutput) → (call s none).answer ≡ Ok o → (k n : ℕ) → CallReaches (suc (suc k)) n → On s n
      → NearerAt paper o.ending o.iterations n
  says paper o answered k n r g =
      no-circles-on-squared-paper binary32 (drawn_pose binary32 s) (drawn binary32 s.a) (Ground.zero binary32) (drawn binary32 s.b)
      (Ground.zero binary32) false ours none
      (on-squared-paper binary32 s 16 paper) o answered k (at s n) r g

pub falling-nearer : NearerAt falling falling-on-paper Settled 4 2
unfolding proxy_distance measure rounds_from start_simplex vertex held solve solve_simplex2 solve_simplex3 region2 region3 kept support_from witness_points all_below
    replaced bad_parts abs of_bits of_int round add sub mul div neg lt le eq root
falling-nearer = says falling falling-on-paper _ refl 16 2 (then (then first falling-on.0) falling-on.1) falling-on.2

pub staying-nearer : NearerAt staying staying-on-paper Settled 3 1
unfolding proxy_distance measure rounds_from start_simplex vertex held solve solve_simplex2 solve_simplex3 region2 region3 kept support_from witness_points all_below
    replaced bad_parts abs of_bits of_int round add sub mul div neg lt le eq root
staying-nearer = says staying staying-on-paper _ refl 17 1 (then first staying-on.0) staying-on.1
