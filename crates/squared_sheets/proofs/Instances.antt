-- Demand 3 is not empty: calls with real outlines, computed by the checker, and what the theorem says of each. Assumes nothing.
-- No call on squared paper within 16 ends at the round limit (`RoundLimit`), so that ending is shown off the paper.
use mathlib.Core.Path.{◌≡◌, refl, sym, ◌∙◌, subst}
use native.Mathlib.Omega.{arith}
use mathlib.Core.Bool.{false}
use mathlib.Core.List.{List, [], ◌∷◌, map}
use Prim.Native.Nat.{ℕ}
use lib.ListN.{length}
use lib.IntN.{pos, negsuc}
use lib.Ieee.{Float, Format, binary32, binary64, of_bits, of_int, add, sub, mul, div, neg, lt, le, eq, round}
use Rattle.std.proofs.Common.{Result, Ok, Err}
use Rattle.integers.specs.Signed.{◌⊠◌}
use Rattle.model.specs.declared.SimplexCache.{SimplexCache}
use Rattle.model.specs.declared.Ending.{Ending}
use Rattle.model.specs.declared.Ending.TheVariants.{Touching, Settled, RoundLimit}
use Rattle.model.specs.declared.Distance.{Distance}
use Rattle.model.specs.declared.Refusal.{Refusal}
use Rattle.model.specs.declared.ProxyDistanceOutput.{ProxyDistanceOutput}
use Rattle.model.specs.Ground.{abs}
use Rattle.model.specs.Ground as Ground
use Rattle.model.specs.Root.{root}
use Rattle.model.specs.Domain.{bad_parts, numbered}
use Rattle.model.specs.Support.{support_from}
use Rattle.model.specs.Simplex.{region2, region3, kept, solve_simplex2, solve_simplex3, solve}
use Rattle.model.specs.Distance.{cache, all_below, replaced, held, vertex, start_simplex, rounds_from, witness_points, measure, proxy_distance}
use Rattle.exact.specs.Shared.{SharesPoint, SpansNearestPlace}
use Rattle.exact.specs.SquaredPaper.{SquaredPaper, outline_a, posed_b, IsCache, bound_of, Exact}
use Rattle.squared_sheets.specs.Sheet.{Sheet, drawn, drawn_pose, every, OnPaper}
use Rattle.squared_sheets.proofs.Sheets.{on-squared-paper}
use Rattle.exact.proofs.Demand3.{exact-on-squared-paper}

-- an empty cache with no number yet, and the caller's number
abbrev pub none : SimplexCache
none = cache 0 0 (0 ∷ 0 ∷ 0 ∷ []) (0 ∷ 0 ∷ 0 ∷ [])

abbrev pub ours : ℕ
ours = 7

abbrev pub call_at : Format → Sheet → SimplexCache → Distance
call_at f s c = proxy_distance f (drawn_pose f s) (drawn f s.a) (Ground.zero f) (drawn f s.b) (Ground.zero f) false ours c

abbrev pub call : Sheet → SimplexCache → Distance
call = call_at binary32

abbrev pub endings : Result ProxyDistanceOutput Refusal → List Ending
endings (Ok o) = o.ending ∷ []
endings (Err r) = []

-- ---- the sheets
-- a square, and a triangle to its right with a corner toward it
abbrev pub apart : Sheet
apart = record {
  a = pos 0 ∷ pos 0 ∷ pos 2 ∷ pos 0 ∷ pos 2 ∷ pos 2 ∷ pos 0 ∷ pos 2 ∷ [];
  b = pos 5 ∷ pos 1 ∷ pos 8 ∷ negsuc 0 ∷ pos 8 ∷ pos 4 ∷ [];
  cosine = pos 1;
  sine = pos 0;
  shift_x = pos 0;
  shift_y = pos 0;
}

-- two squares, the second turned by a quarter and shifted so that it shares part of an edge with the first
abbrev pub joined : Sheet
joined = record {
  a = pos 0 ∷ pos 0 ∷ pos 4 ∷ pos 0 ∷ pos 4 ∷ pos 4 ∷ pos 0 ∷ pos 4 ∷ [];
  b = pos 0 ∷ pos 0 ∷ pos 3 ∷ pos 0 ∷ pos 3 ∷ pos 3 ∷ pos 0 ∷ pos 3 ∷ [];
  cosine = pos 0;
  sine = pos 1;
  shift_x = pos 7;
  shift_y = pos 1;
}

pub apart-on-paper : (f : Format) → OnPaper apart (bound_of f)
unfolding every ◌⊠◌
apart-on-paper binary32 = record { numbers_a = tt; numbers_b = tt; quarter_turn = tt; shifted = tt; near = tt }
apart-on-paper binary64 = record { numbers_a = tt; numbers_b = tt; quarter_turn = tt; shifted = tt; near = tt }

pub joined-on-paper : OnPaper joined 16
unfolding every ◌⊠◌
joined-on-paper = record { numbers_a = tt; numbers_b = tt; quarter_turn = tt; shifted = tt; near = tt }

-- ---- a call off the paper, by bit patterns: six corners and one
abbrev pub turning : Distance
turning =
    let points : List ℕ → List Float = map (of_bits binary32) in
    proxy_distance binary32 (Ground.pose (Ground.rotation (Ground.one binary32) (Ground.zero binary32)) (Ground.origin binary32))
    (points (0xc5ac_70da ∷ 0xc604_2da4 ∷ 0x445d_2f0c ∷ 0xc306_bbe0 ∷ 0x445d_302e ∷ 0xc306_b385 ∷ 0xc56b_a61c ∷ 0xc5c2_c875 ∷ 0xc56b_a615 ∷ 0xc5c2_c873 ∷
    0x445d_2f6c ∷ 0xc306_b9ff ∷ [])) (Ground.zero binary32)
    (points (0x445d_2f4e ∷ 0xc306_bc0f ∷ [])) (Ground.zero binary32) false ours none

-- ---- the calls, computed: apart, from no cache, from a stale one and from the same filed under another pair, and joined. The edge from (2, 2) to
-- (2, 0) is nearest to the triangle's corner 0
abbrev pub stale : SimplexCache
stale = cache ours 3 (3 ∷ 0 ∷ 3 ∷ []) (1 ∷ 2 ∷ 2 ∷ [])

abbrev pub misfiled : SimplexCache
misfiled = cache 8 3 (3 ∷ 0 ∷ 3 ∷ []) (1 ∷ 2 ∷ 2 ∷ [])

abbrev pub from_none : SimplexCache
from_none = cache ours 2 (2 ∷ 1 ∷ 0 ∷ []) (0 ∷ 0 ∷ 0 ∷ [])

abbrev pub from_stale : SimplexCache
from_stale = cache ours 2 (1 ∷ 2 ∷ 3 ∷ []) (0 ∷ 0 ∷ 2 ∷ [])

-- at either format a stale cache of this pair is accepted, and one of another pair is refused and handed back
pub record ComputedAt (f : Format) : Type 0 where
  pub stale_ends : endings (call_at f apart stale).answer ≡ (Settled ∷ [])
  pub stale_cache : (call_at f apart stale).cache ≡ from_stale
  pub misfiled_refused : call_at f apart misfiled ≡ record { answer = Err (numbered 12); cache = misfiled }

pub computed-at : (f : Format) → ComputedAt f
unfolding proxy_distance measure rounds_from start_simplex vertex held solve solve_simplex2 solve_simplex3 region2 region3 kept support_from witness_points all_below
    replaced bad_parts abs of_bits of_int round add sub mul div neg lt le eq root
computed-at binary32 = record { stale_ends = refl; stale_cache = refl; misfiled_refused = refl }
computed-at binary64 = record { stale_ends = refl; stale_cache = refl; misfiled_refused = refl }

pub record Computed : Type 0 where
  pub apart_ends : endings (call apart none).answer ≡ (Settled ∷ [])
  pub apart_cache : (call apart none).cache ≡ from_none
  pub joined_ends : endings (call joined none).answer ≡ (Touching ∷ [])
  pub joined_cache : (call joined none).cache ≡ none
  pub turning_ends : endings turning.answer ≡ (RoundLimit ∷ [])

pub computed : Computed
unfolding proxy_distance measure rounds_from start_simplex vertex held solve solve_simplex2 solve_simplex3 region2 region3 kept support_from witness_points all_below
    replaced bad_parts abs of_bits of_int round add sub mul div neg lt le eq root
computed = record { apart_ends = refl; apart_cache = refl; joined_ends = refl; joined_cache = refl; turning_ends = refl }

-- what the theorem says of a computed call
tells : (f : Format) (s : Sheet) (paper : OnPaper s (bound_of f)) (c : SimplexCache) → IsCache c → (e : Ending)
    → endings (call_at f s c).answer ≡ (e ∷ []) → (e ≡ RoundLimit → ⊥)
    → let drawing = on-squared-paper f s (bound_of f) paper in
    Exact (outline_a drawing) (posed_b drawing) e (call_at f s c).cache
tells f s paper c arrays e h n = go (call_at f s c).answer refl h
  where
    go : (x : Result ProxyDistanceOutput Refusal) → (call_at f s c).answer ≡ x → endings x ≡ (e ∷ [])
        → let drawing = on-squared-paper f s (bound_of f) paper in
        Exact (outline_a drawing) (posed_b drawing) e (call_at f s c).cache
    go (Ok o) is h =
        let drawing = on-squared-paper f s (bound_of f) paper in
        let ends : o.ending ≡ e = cc in
        subst (λ (x : Ending). Exact (outline_a drawing) (posed_b drawing) x (call_at f s c).cache) ends
        (exact-on-squared-paper f (drawn_pose f s) (drawn f s.a) (Ground.zero f) (drawn f s.b) (Ground.zero f) false ours c drawing o arrays is
        (λ x. n (sym ends ∙ x)))
    go (Err r) is h = absurd (refused h)
      where
        refused : ◌≡◌ {A = List Ending} [] (e ∷ []) → ⊥
        refused h = let z : ◌≡◌ {A = ℕ} 0 1 = cc in omega arith

settled-is-not-touching : Settled ≡ Touching → ⊥
settled-is-not-touching e = let z : ◌≡◌ {A = ℕ} 0 1 = cc in omega arith

pub settled-is-not-limit : Settled ≡ RoundLimit → ⊥
settled-is-not-limit e = let z : ◌≡◌ {A = ℕ} 0 1 = cc in omega arith

pub touching-is-not-limit : Touching ≡ RoundLimit → ⊥
touching-is-not-limit e = let z : ◌≡◌ {A = ℕ} 0 1 = cc in omega arith

-- ---- and so
abbrev pub paper_apart : (f : Format) → SquaredPaper (bound_of f) (drawn_pose f apart) (drawn f apart.a) (drawn f apart.b)
paper_apart f = on-squared-paper f apart (bound_of f) (apart-on-paper f)

abbrev pub SpannedApart : Format → SimplexCache → Type 0
SpannedApart f c = SpansNearestPlace (outline_a (paper_apart f)) (posed_b (paper_apart f)) c

abbrev pub paper_joined : SquaredPaper 16 (drawn_pose binary32 joined) (drawn binary32 joined.a) (drawn binary32 joined.b)
paper_joined = on-squared-paper binary32 joined 16 joined-on-paper

three : {l m : List ℕ} {k n : ℕ} → length l ≡ 3 → length m ≡ 3 → IsCache (cache k n l m)
three h k = record { a = h; b = k }

pub apart-nearest : SpannedApart binary32 from_none
apart-nearest =
    subst (SpannedApart binary32) computed.apart_cache
    ((tells binary32 apart (apart-on-paper binary32) none (three refl refl) Settled computed.apart_ends settled-is-not-limit).otherwise_nearest
    settled-is-not-touching)

pub stale-nearest : (f : Format) → SpannedApart f from_stale
stale-nearest f =
    subst (SpannedApart f) (computed-at f).stale_cache
    ((tells f apart (apart-on-paper f) stale (three refl refl) Settled (computed-at f).stale_ends settled-is-not-limit).otherwise_nearest
    settled-is-not-touching)

pub apart-share-nothing : SharesPoint (outline_a (paper_apart binary32)) (posed_b (paper_apart binary32)) → ⊥
apart-share-nothing h =
    settled-is-not-touching
    ((tells binary32 apart (apart-on-paper binary32) none (three refl refl) Settled computed.apart_ends settled-is-not-limit).sharing_touches h)

pub joined-share : SharesPoint (outline_a paper_joined) (posed_b paper_joined)
joined-share = (tells binary32 joined joined-on-paper none (three refl refl) Touching computed.joined_ends touching-is-not-limit).touching_shares refl
