-- The job on the first page of docs/SQUARED-PAPER.md, worked: the call is computed, and the nearest difference, (12/5, -16/5) of length 4, is shown by the
-- corners as one does it with a pencil. Assumes nothing.
use mathlib.Core.Path.{◌≡◌, refl}
use mathlib.Core.Bool.{false}
use mathlib.Core.List.{List, [], ◌∷◌}
use Prim.Native.Nat.{ℕ, zero, suc}
use lib.Dec.{lit<, lit≤}
use lib.IntN.{pos, negsuc}
use lib.Ieee.{Float, binary32, of_bits, of_int, add, sub, mul, div, neg, lt, le, eq, round}
use Rattle.std.proofs.Common.{Result, Ok, Err}
use Rattle.integers.specs.Signed.{of_nat, ◌⊠◌}
use Rattle.model.specs.declared.Ending.TheVariants.{Settled}
use Rattle.model.specs.declared.Refusal.{Refusal}
use Rattle.model.specs.declared.ProxyDistanceOutput.{ProxyDistanceOutput}
use Rattle.model.specs.Ground.{abs}
use Rattle.model.specs.Ground as Ground
use Rattle.model.specs.Root.{root}
use Rattle.model.specs.Domain.{bad_parts}
use Rattle.model.specs.Support.{support_from}
use Rattle.model.specs.Simplex.{region2, region3, kept, solve_simplex2, solve_simplex3, solve}
use Rattle.model.specs.Distance.{cache, all_below, replaced, held, vertex, start_simplex, rounds_from, witness_points, measure, proxy_distance}
use Rattle.plane.specs.Fraction.{Place}
use Rattle.exact.specs.SquaredPaper.{Fits}
use Rattle.exchange.specs.Exchange.{NearestDifference}
use Rattle.round_limit.specs.RoundLimit.{ExactAnswer}
use Rattle.squared_sheets.specs.Sheet.{Sheet, int, drawn, drawn_pose, every, OnPaper}
use Rattle.exact.proofs.Below.{below3}
use Rattle.exact.proofs.Kept.{two}
use Rattle.exchange.proofs.Places.{nearest-by-corners}
use Rattle.round_limit.proofs.InTime.{always-exact-on-squared-paper}
use Rattle.squared_sheets.proofs.Sheets.{on-squared-paper, drawn-in-domain, sheet_a, sheet_b}
use Rattle.squared_sheets.proofs.Instances.{none, ours, call, endings}

-- a triangle with the side from (0, 0) to (4, 3), and one that stands, turned by a quarter and shifted by (0, 5), with a corner at (0, 5)
abbrev pub pencil : Sheet
pencil = record {
  a = pos 0 ∷ pos 0 ∷ pos 4 ∷ pos 3 ∷ pos 6 ∷ negsuc 1 ∷ [];
  b = pos 0 ∷ pos 0 ∷ pos 3 ∷ pos 1 ∷ pos 2 ∷ negsuc 1 ∷ [];
  cosine = pos 0;
  sine = pos 1;
  shift_x = pos 0;
  shift_y = pos 5;
}

pub pencil-on-paper : OnPaper pencil 16
unfolding every ◌⊠◌
pencil-on-paper = record { numbers_a = tt; numbers_b = tt; quarter_turn = tt; shifted = tt; near = tt }

-- What the call tells: corners 0 and 1 of A against corner 0 of B, after two rounds; and the points and the distance as floats, which are off by a few last
-- digits, since the weights 2/5 and 3/5 are rounded: 2.3999999, 1.8, 0, 4.9999995 and 3.9999995.
abbrev rounds : Result ProxyDistanceOutput Refusal → ℕ
rounds (Ok o) = o.iterations
rounds (Err r) = 0

abbrev floats : Result ProxyDistanceOutput Refusal → List Float
floats (Ok o) = o.point_a.x ∷ o.point_a.y ∷ o.point_b.x ∷ o.point_b.y ∷ o.distance ∷ []
floats (Err r) = []

pub record Computed : Type 0 where
  pub ends : endings (call pencil none).answer ≡ (Settled ∷ [])
  pub corners : (call pencil none).cache ≡ cache ours 2 (0 ∷ 1 ∷ 0 ∷ []) (0 ∷ 0 ∷ 0 ∷ [])
  pub few : rounds (call pencil none).answer ≡ 2
  pub told : floats (call pencil none).answer
      ≡ (of_bits binary32 0x4019_9999 ∷ of_bits binary32 0x3fe6_6666 ∷ of_bits binary32 0 ∷ of_bits binary32 0x409f_ffff ∷ of_bits binary32 0x407f_fffe ∷ [])

pub computed : Computed
unfolding proxy_distance measure rounds_from start_simplex vertex held solve solve_simplex2 solve_simplex3 region2 region3 kept support_from witness_points all_below
    replaced bad_parts abs of_bits of_int round add sub mul div neg lt le eq root
computed = record { ends = refl; corners = refl; few = refl; told = refl }

-- ---- with a pencil: 3/5 of the side from corner 0 to corner 1 of A, less corner 0 of B
abbrev pub four_long : Place
four_long = record { over = record { x = int (pos 12); y = int (negsuc 15) }; under = of_nat 5 }

abbrev of_five : ℕ → ℕ
of_five zero = 2
of_five (suc n) = two 3 0 n

pub pencil-nearest : NearestDifference (sheet_a binary32 pencil) (sheet_b binary32 pencil) four_long
unfolding ◌⊠◌
pencil-nearest =
    nearest-by-corners (sheet_a binary32 pencil) (sheet_b binary32 pencil) four_long (lit< tt) (record { weight = of_five; some = lit< tt })
    (record { weight = two 1 0; some = lit< tt }) (refl, refl) 0 0
    (below3 _ (lit≤ tt) (lit≤ tt) (lit≤ tt)) (below3 _ (lit≤ tt) (lit≤ tt) (lit≤ tt)) (lit≤ tt)

-- and what the theorem says of the call
pub pencil-exact :
    let o = Ground.zero binary32 in
    ExactAnswer binary32 (drawn_pose binary32 pencil) (drawn binary32 pencil.a) o (drawn binary32 pencil.b) o false ours none
    (on-squared-paper binary32 pencil 16 pencil-on-paper)
pencil-exact =
    let a : Fits (drawn binary32 pencil.a) = record { even = refl; some = lit< tt; few = lit≤ tt } in
    let b : Fits (drawn binary32 pencil.b) = record { even = refl; some = lit< tt; few = lit≤ tt } in
    always-exact-on-squared-paper binary32 _ _ _ _ _ false ours none _ (drawn-in-domain binary32 pencil 16 pencil-on-paper a b) (record { a = refl; b = refl })
    refl
