-- Calls of the f64 code's own that need more than 16, and more than f32 has: a plate in a hall with -0, a repeated corner on either side and radii; and a thin
-- triangle of which f32 names corners that are not the nearest, and f64 those that are. The checker computes the calls. Assumes nothing.
use mathlib.Core.Path.{◌≡◌, refl, sym, ◌∙◌, subst}
use mathlib.Core.Bool.{Bool, true, false}
use mathlib.Core.List.{List, [], ◌∷◌}
use Prim.Native.Nat.{ℕ, zero, suc}
use native.Mathlib.Omega.{arith}
use lib.Dec.{lit≤, lit<}
use lib.IntN.{pos, negsuc}
use lib.Ieee.{Float, binary64, of_bits, of_int, add, sub, mul, div, neg, lt, le, eq, round, is_nan}
use Rattle.std.proofs.Common.{Result, Ok, Err}
use Rattle.integers.specs.Signed.{◌⊠◌}
use Rattle.model.specs.declared.SimplexCache.{SimplexCache}
use Rattle.model.specs.declared.Ending.{Ending}
use Rattle.model.specs.declared.Ending.TheVariants.{Touching, Settled, RoundLimit}
use Rattle.model.specs.declared.Refusal.{Refusal}
use Rattle.model64.specs.declared.ProxyDistanceOutput.{ProxyDistanceOutput}
use Rattle.model.specs.Ground.{abs}
use Rattle.model.specs.Root.{root}
use Rattle.model.specs.Domain as Domain
use Rattle.model.specs.Support as Support
use Rattle.model.specs.Simplex as Simplex
use Rattle.model.specs.Distance.{cache, all_below, replaced}
use Rattle.model.specs.Distance as Narrow
use Rattle.model64.specs.declared.Pose.{Pose as Pose64}
use Rattle.model64.specs.declared.Distance.{Distance as Distance64}
use Rattle.model64.specs.Ground as Ground64
use Rattle.model64.specs.Domain.{bad_parts}
use Rattle.model64.specs.Support.{support_from}
use Rattle.model64.specs.Simplex.{region2, region3, kept, solve_simplex2, solve_simplex3, solve}
use Rattle.model64.specs.Distance.{held, vertex, start_simplex, rounds_from, witness_points, measure, proxy_distance}
use Rattle.bridge.specs.Wide.{pose64}
use Rattle.plane.specs.Plane.{Point}
use Rattle.plane.specs.Fraction.{◌<ᶠ◌}
use Rattle.circles.specs.NoCircles.{NearestOf, squared_length}
use Rattle.circles.proofs.Shorter.{least-by-level}
use Rattle.exact.proofs.Below.{below2}
use Rattle.exact.proofs.Kept.{two}
use Rattle.exact.specs.Shared.{SpansNearestPlace}
use Rattle.exact.specs.SquaredPaper.{SquaredPaper, outline_a, posed_b, Fits, InTheDomain}
use Rattle.squared_sheets.specs.Sheet.{Sheet, corner_of, drawn, drawn_marked, drawn_pose, every, OnPaper}
use Rattle.squared_sheets.proofs.Marked.{on-marked-paper, marked-in-domain}
use Rattle.squared_sheets.proofs.Instances.{none, ours}
use Rattle.squared_sheets.proofs.Instances as Sheets
use Rattle.exact64.specs.Call.{bound, read, call}
use Rattle.exact64.specs.Rounds.{State, GoesOn, start, next, first, then, Nearer}
use Rattle.exact64.proofs.Exact.{exact-wide, no-circles-wide}

-- ---- the sheets
-- a plate of 1,200 by 800, and a triangle that stands to its right, turned by a quarter
abbrev pub hall : Sheet
hall = record {
  a = pos 0 ∷ pos 0 ∷ pos 1200 ∷ pos 0 ∷ pos 1200 ∷ pos 0 ∷ pos 1200 ∷ pos 800 ∷ pos 0 ∷ pos 800 ∷ [];
  b = pos 0 ∷ pos 0 ∷ pos 300 ∷ pos 100 ∷ pos 300 ∷ pos 100 ∷ pos 0 ∷ pos 500 ∷ [];
  cosine = pos 0;
  sine = pos 1;
  shift_x = pos 1900;
  shift_y = pos 300;
}

-- -0 for A's first x and its second y, and for three zeros of B
abbrev marks_a : List Bool
marks_a = true ∷ false ∷ false ∷ true ∷ []

abbrev marks_b : List Bool
marks_b = true ∷ true ∷ false ∷ false ∷ false ∷ false ∷ true ∷ []

-- a triangle whose third corner lies beside the edge of the others, by less than 1/5000, on the side of the origin
abbrev pub thin : Sheet
thin = record {
  a = negsuc 1893 ∷ negsuc 1537 ∷ pos 1957 ∷ pos 1831 ∷ pos 415 ∷ pos 482 ∷ [];
  b = pos 0 ∷ pos 0 ∷ [];
  cosine = pos 1;
  sine = pos 0;
  shift_x = pos 0;
  shift_y = pos 0;
}

pub hall-on-paper : OnPaper hall bound
unfolding every ◌⊠◌
hall-on-paper = record { numbers_a = tt; numbers_b = tt; quarter_turn = tt; shifted = tt; near = tt }

pub thin-on-paper : OnPaper thin bound
unfolding every ◌⊠◌
thin-on-paper = record { numbers_a = tt; numbers_b = tt; quarter_turn = tt; shifted = tt; near = tt }

-- ---- the calls, computed
abbrev radius_a : Float
radius_a = of_int binary64 (pos 20)

abbrev radius_b : Float
radius_b = of_int binary64 (pos 30)

abbrev pose_of : Sheet → Pose64
pose_of s = pose64 (drawn_pose binary64 s)

abbrev pub hall_call : Distance64
hall_call =
    call (pose_of hall) (drawn_marked binary64 marks_a hall.a) radius_a (drawn_marked binary64 marks_b hall.b) radius_b true ours none

abbrev pub thin_call : Distance64
thin_call =
    call (pose_of thin) (drawn_marked binary64 [] thin.a) (Ground64.zero binary64) (drawn_marked binary64 [] thin.b) (Ground64.zero binary64) false ours none

abbrev endings : Result ProxyDistanceOutput Refusal → List Ending
endings (Ok o) = o.ending ∷ []
endings (Err r) = []

abbrev distances : Result ProxyDistanceOutput Refusal → List Float
distances (Ok o) = o.distance ∷ []
distances (Err r) = []

-- the plate's right side, corners 1 and 3, against the triangle's corner 3 at (1400, 300); 200 apart, and 150 less the radii
abbrev pub from_hall : SimplexCache
from_hall = cache ours 2 (1 ∷ 3 ∷ 0 ∷ []) (3 ∷ 3 ∷ 0 ∷ [])

-- the edge from the thin triangle's corner 0 to corner 2
abbrev pub from_thin : SimplexCache
from_thin = cache ours 2 (0 ∷ 2 ∷ 0 ∷ []) (0 ∷ 0 ∷ 0 ∷ [])

pub record Computed : Type 0 where
  pub hall_ends : endings hall_call.answer ≡ (Settled ∷ [])
  pub hall_cache : hall_call.cache ≡ from_hall
  pub hall_distance : distances hall_call.answer ≡ (of_int binary64 (pos 150) ∷ [])
  pub thin_ends : endings thin_call.answer ≡ (Settled ∷ [])
  pub thin_cache : thin_call.cache ≡ from_thin

pub computed : Computed
unfolding proxy_distance measure rounds_from start_simplex vertex held solve solve_simplex2 solve_simplex3 region2 region3 kept support_from witness_points all_below
    replaced bad_parts abs of_bits of_int round add sub mul div neg lt le eq root is_nan
computed = record { hall_ends = refl; hall_cache = refl; hall_distance = refl; thin_ends = refl; thin_cache = refl }

-- the same thin sheet in f32, for which 2,048 leaves no room: it names the edge from corner 0 to corner 1
pub thin-in-f32 : (Sheets.call thin none).cache ≡ cache ours 2 (0 ∷ 1 ∷ 0 ∷ []) (0 ∷ 0 ∷ 0 ∷ [])
unfolding Narrow.proxy_distance Narrow.measure Narrow.rounds_from Narrow.start_simplex Narrow.vertex Narrow.held Simplex.solve Simplex.solve_simplex2
    Simplex.solve_simplex3 Simplex.region2 Simplex.region3 Simplex.kept Support.support_from Narrow.witness_points all_below replaced Domain.bad_parts abs of_bits
    of_int round add sub mul div neg lt le eq root
thin-in-f32 = refl

-- which is not the nearest: of corners 0 and 2 the nearest place has a smaller squared length, 75426031044/9411881 and not 104903985152/13090181
abbrev whole_edge : ℕ → Point
whole_edge i = corner_of thin.a (two 0 1 i)

abbrev near_edge : ℕ → Point
near_edge i = corner_of thin.a (two 0 2 i)

pub record LongerInF32 : Type 0 where
  pub named : NearestOf 2 whole_edge
  pub nearest : NearestOf 2 near_edge
  pub longer : squared_length 2 near_edge nearest.weight <ᶠ squared_length 2 whole_edge named.weight

pub longer-in-f32 : LongerInF32
unfolding ◌⊠◌
longer-in-f32 =
    let w = two 6852523 6237658 in
    let v = two 1931875 7480006 in
    record {
      named = record {
        weight = w;
        some = lit< tt;
        least = λ other h. least-by-level 2 whole_edge w (below2 _ (lit≤ tt) (lit≤ tt)) other;
      };
      nearest = record {
        weight = v;
        some = lit< tt;
        least = λ other h. least-by-level 2 near_edge v (below2 _ (lit≤ tt) (lit≤ tt)) other;
      };
      longer = lit< tt;
    }

-- ---- what the theorem says of them
module _ (p : Pose64) (a : List Float) (ra : Float) (b : List Float) (rb : Float) (radii : Bool) (paper : SquaredPaper bound (read p) a b) where
  tells : endings (call p a ra b rb radii ours none).answer ≡ (Settled ∷ [])
      → SpansNearestPlace (outline_a paper) (posed_b paper) (call p a ra b rb radii ours none).cache
  tells h = go (call p a ra b rb radii ours none).answer refl h
    where
      not-limit : Settled ≡ RoundLimit → ⊥
      not-limit e = let z : ◌≡◌ {A = ℕ} 0 1 = cc in omega arith

      not-touching : Settled ≡ Touching → ⊥
      not-touching e = let z : ◌≡◌ {A = ℕ} 0 1 = cc in omega arith

      go : (x : Result ProxyDistanceOutput Refusal) → (call p a ra b rb radii ours none).answer ≡ x → endings x ≡ (Settled ∷ [])
          → SpansNearestPlace (outline_a paper) (posed_b paper) (call p a ra b rb radii ours none).cache
      go (Ok o) is h =
          let ends : o.ending ≡ Settled = cc in
          (exact-wide p a ra b rb radii ours none paper o (record { a = refl; b = refl }) is (λ l. not-limit (sym ends ∙ l))).otherwise_nearest
          (λ t. not-touching (sym ends ∙ t))
      go (Err r) is h = absurd (refused h)
        where
          refused : ◌≡◌ {A = List Ending} [] (Settled ∷ []) → ⊥
          refused h = let z : ◌≡◌ {A = ℕ} 0 1 = cc in omega arith

abbrev pub hall_paper : SquaredPaper bound (drawn_pose binary64 hall) (drawn_marked binary64 marks_a hall.a) (drawn_marked binary64 marks_b hall.b)
hall_paper = on-marked-paper binary64 hall bound marks_a marks_b hall-on-paper

abbrev pub thin_paper : SquaredPaper bound (drawn_pose binary64 thin) (drawn_marked binary64 [] thin.a) (drawn_marked binary64 [] thin.b)
thin_paper = on-marked-paper binary64 thin bound [] [] thin-on-paper

pub hall-nearest : SpansNearestPlace (outline_a hall_paper) (posed_b hall_paper) from_hall
hall-nearest =
    subst (λ (c : SimplexCache). SpansNearestPlace (outline_a hall_paper) (posed_b hall_paper) c) computed.hall_cache
    (tells _ _ _ _ _ true hall_paper computed.hall_ends)

pub thin-nearest : SpansNearestPlace (outline_a thin_paper) (posed_b thin_paper) from_thin
thin-nearest =
    subst (λ (c : SimplexCache). SpansNearestPlace (outline_a thin_paper) (posed_b thin_paper) c) computed.thin_cache
    (tells _ _ _ _ _ false thin_paper computed.thin_ends)

-- and the hall's inputs are in the domain, radii, repeated corners and -0 and all
pub hall-in-domain : InTheDomain binary64 hall_paper radius_a radius_b
unfolding of_int of_bits round lt le eq
hall-in-domain =
    let a : Fits (drawn_marked binary64 marks_a hall.a) = record { even = refl; some = lit< tt; few = lit≤ tt } in
    let b : Fits (drawn_marked binary64 marks_b hall.b) = record { even = refl; some = lit< tt; few = lit≤ tt } in
    marked-in-domain binary64 hall bound marks_a marks_b hall-on-paper a b radius_a radius_b refl refl

-- ---- no circles in the thin triangle's call: its second round goes on, and the third is the last, as the call tells
abbrev at : ℕ → State
at zero = start (drawn binary64 thin.a) (drawn binary64 thin.b) (pose_of thin) none
at (suc n) = next (drawn binary64 thin.a) (drawn binary64 thin.b) (pose_of thin) (at n)

abbrev On : ℕ → Type 0
On n = GoesOn (drawn binary64 thin.a) (drawn binary64 thin.b) (pose_of thin) (at n)

pub thin-on : On 0 × On 1
unfolding rounds_from start_simplex vertex held solve solve_simplex2 solve_simplex3 region2 region3 kept support_from all_below of_bits of_int round add sub mul div
    neg lt le eq
thin-on = (record { apart = refl; new = refl }, record { apart = refl; new = refl })

pub thin-nearer : Nearer thin_paper Settled 3 (at 1)
unfolding proxy_distance measure rounds_from start_simplex vertex held solve solve_simplex2 solve_simplex3 region2 region3 kept support_from witness_points all_below
    replaced bad_parts abs of_bits of_int round add sub mul div neg lt le eq root
thin-nearer =
    let o = Ground64.zero binary64 in
    no-circles-wide (pose_of thin) (drawn binary64 thin.a) o (drawn binary64 thin.b) o false ours none thin_paper _ refl 17 (at 1)
    (then first thin-on.0) thin-on.1
