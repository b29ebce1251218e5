-- Either one may be called A, on sheets: a turn by a quarter with a nearest difference of fractions, the same with B shifted, and a touching pair. The checker computes the
-- calls; the nearest differences are shown by their corners. Assumes nothing.
use mathlib.Core.Path.{◌≡◌, refl}
use mathlib.Core.Bool.{false}
use mathlib.Core.List.{[], ◌∷◌}
use lib.Dec.{lit<, lit≤}
use lib.IntN.{pos, negsuc}
use lib.Ieee.{binary32, of_bits, of_int, add, sub, mul, div, neg, lt, le, eq, round}
use Rattle.integers.specs.Signed.{of_nat, ◌⊠◌}
use Rattle.model.specs.declared.Ending.TheVariants.{Touching, Settled}
use Rattle.model.specs.Ground.{abs}
use Rattle.model.specs.Ground as Ground
use Rattle.model.specs.Root.{root}
use Rattle.model.specs.Domain.{bad_parts}
use Rattle.model.specs.Support.{support_from}
use Rattle.model.specs.Simplex.{region2, region3, kept, solve_simplex2, solve_simplex3, solve}
use Rattle.model.specs.Distance.{all_below, replaced, held, vertex, start_simplex, rounds_from, witness_points, measure, proxy_distance}
use Rattle.plane.specs.Plane.{Point, opposite, turned}
use Rattle.plane.specs.Fraction.{Place, ◌≈◌}
use Rattle.exact.specs.SquaredPaper.{SquaredPaper, IsCache, Fits, InTheDomain}
use Rattle.squared_sheets.specs.Sheet.{Sheet, int, drawn, drawn_pose, every, OnPaper}
use Rattle.exchange.specs.Exchange.{NearestDifference, IsInverse, Exchanged, IsShifted, Alike}
use Rattle.exact.proofs.Below.{below2}
use Rattle.exact.proofs.Kept.{two}
use Rattle.exchange.proofs.Places.{nearest-by-corners}
use Rattle.squared_sheets.proofs.Sheets.{on-squared-paper, sheet_a, sheet_b, is-near, inverse-drawn, shifted-drawn, drawn-in-domain}
use Rattle.squared_sheets.proofs.Instances.{none, ours, call, endings, joined, joined-on-paper, paper_joined, settled-is-not-limit, touching-is-not-limit}
use Rattle.exchange.proofs.Exchange.{exchange-on-squared-paper}
use Rattle.exchange.proofs.Shift.{shift-on-squared-paper}
use Rattle.exchange_always.specs.Always.{Accepted, ExchangedAnswers, StaysInTheDomain, ShiftedAnswers}
use Rattle.exchange_always.proofs.Always.{exchange-always-on-squared-paper, shift-always-on-squared-paper}

-- ---- the sheets
-- two segments, the second turned by a quarter
abbrev pub slanted : Sheet
slanted = record {
  a = pos 4 ∷ pos 1 ∷ pos 4 ∷ pos 2 ∷ [];
  b = pos 1 ∷ pos 1 ∷ pos 4 ∷ pos 2 ∷ [];
  cosine = pos 0;
  sine = pos 1;
  shift_x = pos 10;
  shift_y = pos 0;
}

-- the segments exchanged, under the inverse pose
abbrev pub slanted_back : Sheet
slanted_back = record {
  a = slanted.b;
  b = slanted.a;
  cosine = pos 0;
  sine = negsuc 0;
  shift_x = pos 0;
  shift_y = pos 10;
}

-- the second segment moved by (2, -3), which turned is (3, 2)
abbrev pub slanted_moved : Sheet
slanted_moved = record {
  a = slanted.a;
  b = pos 3 ∷ negsuc 1 ∷ pos 6 ∷ negsuc 0 ∷ [];
  cosine = pos 0;
  sine = pos 1;
  shift_x = pos 7;
  shift_y = negsuc 1;
}

-- the two squares of `joined` exchanged
abbrev pub joined_back : Sheet
joined_back = record {
  a = joined.b;
  b = joined.a;
  cosine = pos 0;
  sine = negsuc 0;
  shift_x = negsuc 0;
  shift_y = pos 7;
}

pub slanted-on-paper : OnPaper slanted 16
unfolding every ◌⊠◌
slanted-on-paper = record { numbers_a = tt; numbers_b = tt; quarter_turn = tt; shifted = tt; near = tt }

pub slanted-back-on-paper : OnPaper slanted_back 16
unfolding every ◌⊠◌
slanted-back-on-paper = record { numbers_a = tt; numbers_b = tt; quarter_turn = tt; shifted = tt; near = tt }

pub slanted-moved-on-paper : OnPaper slanted_moved 16
unfolding every ◌⊠◌
slanted-moved-on-paper = record { numbers_a = tt; numbers_b = tt; quarter_turn = tt; shifted = tt; near = tt }

pub joined-back-on-paper : OnPaper joined_back 16
unfolding every ◌⊠◌
joined-back-on-paper = record { numbers_a = tt; numbers_b = tt; quarter_turn = tt; shifted = tt; near = tt }

-- ---- the calls, computed
pub record Computed : Type 0 where
  pub slanted_ends : endings (call slanted none).answer ≡ (Settled ∷ [])
  pub slanted_back_ends : endings (call slanted_back none).answer ≡ (Settled ∷ [])
  pub slanted_moved_ends : endings (call slanted_moved none).answer ≡ (Settled ∷ [])
  pub joined_ends : endings (call joined none).answer ≡ (Touching ∷ [])
  pub joined_back_ends : endings (call joined_back none).answer ≡ (Touching ∷ [])

pub computed : Computed
unfolding proxy_distance measure rounds_from start_simplex vertex held solve solve_simplex2 solve_simplex3 region2 region3 kept support_from witness_points all_below
    replaced bad_parts abs of_bits of_int round add sub mul div neg lt le eq root
computed = record { slanted_ends = refl; slanted_back_ends = refl; slanted_moved_ends = refl; joined_ends = refl; joined_back_ends = refl }

-- ---- the nearest differences: (-21/5, -7/5), seen from the other side (7/5, -21/5), and moved the same as at first
abbrev pub over5 : Point → Place
over5 z = record { over = z; under = of_nat 5 }

abbrev pub here : Place
here = over5 (record { x = int (negsuc 20); y = int (negsuc 6) })

abbrev pub there : Place
there = over5 (record { x = int (pos 7); y = int (negsuc 20) })

pub slanted-nearest : NearestDifference (sheet_a binary32 slanted) (sheet_b binary32 slanted) here
unfolding ◌⊠◌
slanted-nearest =
    nearest-by-corners (sheet_a binary32 slanted) (sheet_b binary32 slanted) here (lit< tt) (record { weight = two 0 1; some = lit< tt })
    (record { weight = two 1 4; some = lit< tt }) (refl, refl) 1 0
    (below2 _ (lit≤ tt) (lit≤ tt)) (below2 _ (lit≤ tt) (lit≤ tt)) (lit≤ tt)

pub slanted-back-nearest : NearestDifference (sheet_a binary32 slanted_back) (sheet_b binary32 slanted_back) there
unfolding ◌⊠◌
slanted-back-nearest =
    nearest-by-corners (sheet_a binary32 slanted_back) (sheet_b binary32 slanted_back) there (lit< tt) (record { weight = two 1 4; some = lit< tt })
    (record { weight = two 0 1; some = lit< tt }) (refl, refl) 0 1
    (below2 _ (lit≤ tt) (lit≤ tt)) (below2 _ (lit≤ tt) (lit≤ tt)) (lit≤ tt)

pub slanted-moved-nearest : NearestDifference (sheet_a binary32 slanted_moved) (sheet_b binary32 slanted_moved) here
unfolding ◌⊠◌
slanted-moved-nearest =
    nearest-by-corners (sheet_a binary32 slanted_moved) (sheet_b binary32 slanted_moved) here (lit< tt) (record { weight = two 0 1; some = lit< tt })
    (record { weight = two 1 4; some = lit< tt }) (refl, refl) 1 0
    (below2 _ (lit≤ tt) (lit≤ tt)) (below2 _ (lit≤ tt) (lit≤ tt)) (lit≤ tt)

-- the one is the other, negated and turned by the quarter
pub negated-and-turned : here ≈ over5 (opposite (turned (int slanted.cosine) (int slanted.sine) there.over))
unfolding ◌⊠◌
negated-and-turned = (refl, refl)

-- ---- what the theorems say of them
abbrev paper_slanted : SquaredPaper 16 (drawn_pose binary32 slanted) (drawn binary32 slanted.a) (drawn binary32 slanted.b)
paper_slanted = on-squared-paper binary32 slanted 16 slanted-on-paper

slanted-inverse : IsInverse paper_slanted (drawn_pose binary32 slanted_back)
unfolding ◌⊠◌
slanted-inverse = inverse-drawn binary32 slanted slanted_back slanted-on-paper slanted-back-on-paper refl refl refl refl

joined-inverse : IsInverse paper_joined (drawn_pose binary32 joined_back)
unfolding ◌⊠◌
joined-inverse = inverse-drawn binary32 joined joined_back joined-on-paper joined-back-on-paper refl refl refl refl

abbrev by : Point
by = record { x = int (pos 2); y = int (negsuc 2) }

slanted-shifted : IsShifted paper_slanted by (drawn_pose binary32 slanted_moved) (drawn binary32 slanted_moved.b)
unfolding ◌⊠◌
slanted-shifted = shifted-drawn binary32 slanted slanted_moved slanted-on-paper slanted-moved-on-paper by refl refl refl refl refl
    (below2 _ (refl, refl) (refl, refl))

none-is-cache : IsCache none
none-is-cache = record { a = refl; b = refl }

pub slanted-exchanged : Exchanged paper_slanted Settled Settled (call slanted none).cache (call slanted_back none).cache
unfolding proxy_distance measure rounds_from start_simplex vertex held solve solve_simplex2 solve_simplex3 region2 region3 kept support_from witness_points all_below
    replaced bad_parts abs of_bits of_int round add sub mul div neg lt le eq root
slanted-exchanged =
    exchange-on-squared-paper binary32 (drawn_pose binary32 slanted) (drawn_pose binary32 slanted_back) (drawn binary32 slanted.a) (Ground.zero binary32)
    (drawn binary32 slanted.b) (Ground.zero binary32) false false ours ours none none paper_slanted _ _ slanted-inverse none-is-cache none-is-cache refl refl
    settled-is-not-limit settled-is-not-limit

pub slanted-alike : Alike paper_slanted by (drawn binary32 slanted_moved.b) Settled Settled (call slanted none).cache (call slanted_moved none).cache
unfolding proxy_distance measure rounds_from start_simplex vertex held solve solve_simplex2 solve_simplex3 region2 region3 kept support_from witness_points all_below
    replaced bad_parts abs of_bits of_int round add sub mul div neg lt le eq root
slanted-alike =
    shift-on-squared-paper binary32 (drawn_pose binary32 slanted) (drawn_pose binary32 slanted_moved) (drawn binary32 slanted.a) (Ground.zero binary32)
    (drawn binary32 slanted.b) (drawn binary32 slanted_moved.b) (Ground.zero binary32) false false ours ours none none paper_slanted by _ _ slanted-shifted
    none-is-cache none-is-cache refl refl settled-is-not-limit settled-is-not-limit

pub joined-exchanged : Exchanged paper_joined Touching Touching (call joined none).cache (call joined_back none).cache
unfolding proxy_distance measure rounds_from start_simplex vertex held solve solve_simplex2 solve_simplex3 region2 region3 kept support_from witness_points all_below
    replaced bad_parts abs of_bits of_int round add sub mul div neg lt le eq root
joined-exchanged =
    exchange-on-squared-paper binary32 (drawn_pose binary32 joined) (drawn_pose binary32 joined_back) (drawn binary32 joined.a) (Ground.zero binary32)
    (drawn binary32 joined.b) (Ground.zero binary32) false false ours ours none none paper_joined _ _ joined-inverse none-is-cache none-is-cache refl refl
    touching-is-not-limit touching-is-not-limit

-- ---- and with nothing computed: from the domain and empty caches alone, the calls are answered and tell the one nearest difference
slanted-in-domain : InTheDomain binary32 paper_slanted (Ground.zero binary32) (Ground.zero binary32)
slanted-in-domain =
    let a : Fits (drawn binary32 slanted.a) = record { even = refl; some = lit< tt; few = lit≤ tt } in
    let b : Fits (drawn binary32 slanted.b) = record { even = refl; some = lit< tt; few = lit≤ tt } in
    drawn-in-domain binary32 slanted 16 slanted-on-paper a b

none-accepted : Accepted ours none
none-accepted = record { arrays = none-is-cache; own = refl }

slanted-stays : StaysInTheDomain paper_slanted by
unfolding on-squared-paper ◌⊠◌
slanted-stays = record { near_b = below2 _ (is-near 1048576 _ tt) (is-near 1048576 _ tt); near_shift = is-near 1048576 _ tt }

pub slanted-exchanged-always :
    let o = Ground.zero binary32 in
    ExchangedAnswers binary32 (drawn_pose binary32 slanted) (drawn_pose binary32 slanted_back) (drawn binary32 slanted.a) o (drawn binary32 slanted.b) o
    false false ours ours none none paper_slanted
slanted-exchanged-always =
    exchange-always-on-squared-paper binary32 _ _ _ _ _ _ false false ours ours none none paper_slanted slanted-in-domain slanted-inverse none-accepted
    none-accepted

pub slanted-alike-always :
    let o = Ground.zero binary32 in
    ShiftedAnswers binary32 (drawn_pose binary32 slanted) (drawn_pose binary32 slanted_moved) (drawn binary32 slanted.a) o (drawn binary32 slanted.b)
    (drawn binary32 slanted_moved.b) o false false ours ours none none paper_slanted by
slanted-alike-always =
    shift-always-on-squared-paper binary32 _ _ _ _ _ _ _ false false ours ours none none paper_slanted by slanted-in-domain slanted-shifted slanted-stays
    none-accepted none-accepted
