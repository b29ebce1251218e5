-- Long calls, computed by the checker. Within 16 the longest that was met takes nine rounds, and the theorem says that it is exact. At 2,048, which leaves the
-- room in f64, a call reaches the round limit: so the bound stands in the statement. Assumes nothing.
use mathlib.Core.Path.{◌≡◌, refl}
use mathlib.Core.Bool.{false}
use mathlib.Core.List.{List, [], ◌∷◌}
use Prim.Native.Nat.{ℕ}
use native.Mathlib.Omega.{arith}
use lib.Dec.{lit≤, lit<}
use lib.IntN.{ℤ, pos, negsuc}
use lib.Ieee.{Format, binary32, binary64, of_bits, of_int, add, sub, mul, div, neg, lt, le, eq, round}
use Rattle.std.proofs.Common.{Result, Ok, Err}
use Rattle.integers.specs.Signed.{◌⊠◌}
use Rattle.model.specs.declared.Ending.TheVariants.{Settled, RoundLimit}
use Rattle.model.specs.declared.Distance.{Distance}
use Rattle.model.specs.declared.Rounds.{Rounds}
use Rattle.model.specs.declared.Refusal.{Refusal}
use Rattle.model.specs.declared.ProxyDistanceOutput.{ProxyDistanceOutput}
use Rattle.model.specs.Ground.{abs}
use Rattle.model.specs.Ground as Ground
use Rattle.model.specs.Root.{root}
use Rattle.model.specs.Domain.{bad_parts}
use Rattle.model.specs.Support.{support_from}
use Rattle.model.specs.Simplex.{region2, region3, kept, solve_simplex2, solve_simplex3, solve}
use Rattle.model.specs.Distance.{all_below, replaced, held, vertex, start_simplex, rounds_from, witness_points, measure, proxy_distance}
use Rattle.exact.specs.SquaredPaper.{Fits}
use Rattle.squared_sheets.specs.Sheet.{Sheet, drawn, drawn_pose, every, OnPaper}
use Rattle.round_limit.specs.RoundLimit.{rounds_within, LimitNeverReached, ExactAnswer}
use Rattle.squared_sheets.proofs.Sheets.{on-squared-paper, drawn-in-domain}
use Rattle.squared_sheets.proofs.Instances.{none, ours, endings}
use Rattle.round_limit.proofs.InTime.{always-exact-on-squared-paper}

-- corners, and the origin
abbrev beside_origin : List ℤ → Sheet
beside_origin a = record { a = a; b = pos 0 ∷ pos 0 ∷ []; cosine = pos 1; sine = pos 0; shift_x = pos 0; shift_y = pos 0 }

-- the rounds of a call from an empty cache
abbrev rounds_on : Format → ℕ → Sheet → Rounds
rounds_on f k s = rounds_within f k (drawn_pose f s) (drawn f s.a) (drawn f s.b) none

-- nine corners, most of them on a flat arc that passes close by the origin
abbrev nine : Sheet
nine = beside_origin (
    pos 2 ∷ pos 0 ∷ negsuc 2 ∷ pos 2 ∷ negsuc 15 ∷ pos 16 ∷ pos 15 ∷ negsuc 4 ∷ pos 12 ∷ negsuc 3
    ∷ negsuc 0 ∷ pos 1 ∷ pos 4 ∷ negsuc 0 ∷ negsuc 7 ∷ pos 5 ∷ negsuc 15 ∷ pos 11 ∷ []
    )

-- a flat arc of 21 corners that passes close by the origin
abbrev flat : Sheet
flat = beside_origin (
    pos 0 ∷ negsuc 1 ∷ pos 44 ∷ pos 34 ∷ pos 2030 ∷ pos 1074 ∷ negsuc 6 ∷ negsuc 7 ∷ pos 18 ∷ pos 13 ∷ pos 332 ∷ pos 260
    ∷ negsuc 455 ∷ negsuc 409 ∷ pos 209 ∷ pos 165 ∷ pos 7 ∷ pos 4 ∷ pos 1089 ∷ pos 770 ∷ negsuc 826 ∷ negsuc 750 ∷ negsuc 102 ∷ negsuc 92
    ∷ pos 104 ∷ pos 82 ∷ pos 1600 ∷ pos 1042 ∷ negsuc 39 ∷ negsuc 36 ∷ negsuc 206 ∷ negsuc 185 ∷ pos 1 ∷ negsuc 0 ∷ negsuc 2028 ∷ negsuc 1908
    ∷ pos 536 ∷ pos 406 ∷ negsuc 1505 ∷ negsuc 1388 ∷ negsuc 14 ∷ negsuc 14 ∷ []
    )

pub nine-on-paper : OnPaper nine 16
unfolding every ◌⊠◌
nine-on-paper = record { numbers_a = tt; numbers_b = tt; quarter_turn = tt; shifted = tt; near = tt }

flat-on-paper : OnPaper flat 2048
unfolding every ◌⊠◌
flat-on-paper = record { numbers_a = tt; numbers_b = tt; quarter_turn = tt; shifted = tt; near = tt }

abbrev call : Distance
call =
    let o = Ground.zero binary64 in
    proxy_distance binary64 (drawn_pose binary64 flat) (drawn binary64 flat.a) o (drawn binary64 flat.b) o false ours none

-- of the one call eight rounds run out and the ninth settles; of the other the 20 run out
pub record Computed : Type 0 where
  pub eight : (rounds_on binary32 8 nine).ending ≡ RoundLimit
  pub ninth : (rounds_on binary32 9 nine).ending ≡ Settled
  pub limit : endings call.answer ≡ (RoundLimit ∷ [])

pub computed : Computed
unfolding proxy_distance measure rounds_from start_simplex vertex held solve solve_simplex2 solve_simplex3 region2 region3 kept support_from witness_points all_below
    replaced bad_parts abs of_bits of_int round add sub mul div neg lt le eq root
computed = record { eight = refl; ninth = refl; limit = refl }

-- what the theorem says of the one
pub nine-exact :
    let o = Ground.zero binary32 in
    ExactAnswer binary32 (drawn_pose binary32 nine) (drawn binary32 nine.a) o (drawn binary32 nine.b) o false ours none
    (on-squared-paper binary32 nine 16 nine-on-paper)
nine-exact =
    let a : Fits (drawn binary32 nine.a) = record { even = refl; some = lit< tt; few = lit≤ tt } in
    let b : Fits (drawn binary32 nine.b) = record { even = refl; some = lit< tt; few = lit≤ tt } in
    always-exact-on-squared-paper binary32 _ _ _ _ _ false ours none _ (drawn-in-domain binary32 nine 16 nine-on-paper a b) (record { a = refl; b = refl }) refl

-- and what it cannot say of the other's bound
pub not-at-2048 : LimitNeverReached binary64 2048 → ⊥
not-at-2048 never = go call.answer refl computed.limit
  where
    go : (x : Result ProxyDistanceOutput Refusal) → call.answer ≡ x → endings x ≡ (RoundLimit ∷ []) → ⊥
    go (Ok o) is h = never _ _ _ _ _ _ _ _ (on-squared-paper binary64 flat 2048 flat-on-paper) o is cc
    go (Err r) is h = let z : ◌≡◌ {A = ℕ} 0 1 = cc in omega arith
