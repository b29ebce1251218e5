-- Demand 3, over either format and every bound that leaves the room, and at the bound of each format: 16 for f32, 2,048 for f64. Assumes nothing.
use mathlib.Core.Path.{◌≡◌, refl, sym, ap, ◌∙◌, subst}
use mathlib.Core.Bool.{Bool, true, false}
use mathlib.Core.List.{List, [], ◌∷◌}
use Prim.Native.Nat.{ℕ, zero, suc, ◌/◌, ◌≤◌}
use native.Mathlib.Omega.{arith}
use lib.Dec.{lit≤}
use lib.ListN.{length}
use lib.Ieee.{Float, Format, binary32, binary64}
use Rattle.std.proofs.Common.{Ok, Err}
use Rattle.model.specs.declared.Pose.{Pose}
use Rattle.model.specs.declared.SimplexVertex.{SimplexVertex}
use Rattle.model.specs.declared.SimplexCache.{SimplexCache}
use Rattle.model.specs.declared.Ending.{Ending}
use Rattle.model.specs.declared.Ending.TheVariants.{Touching, Settled, RoundLimit}
use Rattle.model.specs.declared.Rounds.{Rounds}
use Rattle.model.specs.declared.ProxyDistanceOutput.{ProxyDistanceOutput}
use Rattle.model.specs.declared.WitnessPoints.{WitnessPoints}
use Rattle.model.specs.Domain.{numbered}
use Rattle.model.specs.Distance.{cache, replaced, written, measured_by, cache_by, measure, rounds, witness_points, distance_by, distance_refusal, proxy_distance}
use Rattle.exact.specs.Shared.{SpansNearestPlace}
use Rattle.exact.specs.SquaredPaper.{SquaredPaper, outline_a, posed_b, IsCache, Room, bound_of, Exact, Demand3, Answered}
use Rattle.exact.proofs.Below.{below1, below2, below3}
use Rattle.exact.proofs.Paper.{InDomain}
use Rattle.exact.proofs.Solved.{one, two, three}
use Rattle.exact.proofs.Entries.{valid-by-entries}
use Rattle.exact.proofs.Rounds.{Slots, Spanned, RightEnd, Right, call-right}
use Rattle.exact.proofs.Answered.{answered-in-domain}
use Rattle.exact.proofs.Accepted.{accepted}

-- ---- the cache that a settled call returns
data Three : List ℕ → Type 0 where
  these : {x y z : ℕ} → Three (x ∷ y ∷ z ∷ [])

of_three : (l : List ℕ) → length l ≡ 3 → Three l
of_three [] h = absurd (clash h)
  where
    clash : ◌≡◌ {A = ℕ} 0 3 → ⊥
    clash h = omega arith
of_three (x ∷ []) h = absurd (clash h)
  where
    clash : ◌≡◌ {A = ℕ} 1 3 → ⊥
    clash h = omega arith
of_three (x ∷ y ∷ []) h = absurd (clash h)
  where
    clash : ◌≡◌ {A = ℕ} 2 3 → ⊥
    clash h = omega arith
of_three (x ∷ y ∷ z ∷ []) h = these
of_three (x ∷ y ∷ z ∷ w ∷ l) h = absurd (clash (length l) h)
  where
    clash : (n : ℕ) → suc (suc (suc (suc n))) ≡ 3 → ⊥
    clash n h = omega arith

module _ (f : Format) {bound : ℕ} (room : Room f bound) {p : Pose} {a b : List Float} (paper : SquaredPaper bound p a b) (domain : InDomain paper) where
  -- its entries before the count are the slots' corners
  spans-written : {la lb : List ℕ} (pair n : ℕ) → Three la → Three lb → {s : List SimplexVertex} {m : ℕ}
      → Slots f room paper domain s m → Spanned f room paper domain s m
      → SpansNearestPlace (outline_a paper) (posed_b paper) (written pair (cache 0 n la lb) s m)
  unfolding replaced
  spans-written pair n these these (one x) S = record {
    corners = valid-by-entries 1 _ _ (length a / 2) (length b / 2) tt (below1 _ x.in_a) (below1 _ x.in_b);
    weight = S.weight;
    some = S.some;
    nearest = S.nearest;
  }
  spans-written pair n these these (two x y) S = record {
    corners = valid-by-entries 2 _ _ (length a / 2) (length b / 2) tt (below2 _ x.in_a y.in_a) (below2 _ x.in_b y.in_b);
    weight = S.weight;
    some = S.some;
    nearest = S.nearest;
  }
  spans-written pair n these these (three x y z) S = record {
    corners = valid-by-entries 3 _ _ (length a / 2) (length b / 2) tt (below3 _ x.in_a y.in_a z.in_a) (below3 _ x.in_b y.in_b z.in_b);
    weight = S.weight;
    some = S.some;
    nearest = S.nearest;
  }

  -- ---- from the rounds to the answer
  exact-end : (pair : ℕ) (c : SimplexCache) → IsCache c → (r : Rounds) → Right f room paper domain r → (r.ending ≡ RoundLimit → ⊥)
      → Exact (outline_a paper) (posed_b paper) r.ending (cache_by r.ending pair c r)
  exact-end pair c arrays r h n = go r.ending h n
    where
      go : (e : Ending) → RightEnd f room paper domain e r.simplex r.count → (e ≡ RoundLimit → ⊥)
          → Exact (outline_a paper) (posed_b paper) e (cache_by e pair c r)
      go Touching h n = record { touching_shares = λ e. h; sharing_touches = λ s. refl; otherwise_nearest = λ k. absurd (k refl) }
      go Settled h n = record {
        touching_shares = λ e. absurd (not-both e);
        sharing_touches = λ s. absurd (h.0 s);
        otherwise_nearest = λ k. spans-written pair c.count (of_three c.index_a arrays.a) (of_three c.index_b arrays.b) h.1.slots h.1;
      }
        where
          not-both : Settled ≡ Touching → ⊥
          not-both e = let z : ◌≡◌ {A = ℕ} 0 1 = cc in omega arith
      go RoundLimit h n = absurd (n refl)

-- the answer tells the ending of the rounds
pub ending-told : (f : Format) (e : Ending) (radii : Bool) (ra rb : Float) (w : WitnessPoints) (r : Rounds) → (measured_by f e radii ra rb w r).ending ≡ r.ending
ending-told f Touching radii ra rb w r = refl
ending-told f Settled true ra rb w r = refl
ending-told f Settled false ra rb w r = refl
ending-told f RoundLimit true ra rb w r = refl
ending-told f RoundLimit false ra rb w r = refl

pub demand3 : (f : Format) (bound : ℕ) → Room f bound → Demand3 f bound
unfolding proxy_distance measure
demand3 f bound room p a ra b rb radii pair c paper o arrays answered not_limit = go (distance_refusal f p a ra b rb pair c) (λ h. h) answered
  where
    go : (n : ℕ) → (n ≡ 0 → distance_refusal f p a ra b rb pair c ≡ 0) → (distance_by f p a ra b rb radii pair c n).answer ≡ Ok o
        → Exact (outline_a paper) (posed_b paper) o.ending (distance_by f p a ra b rb radii pair c n).cache
    go zero none is =
        let r = rounds f a b p c in
        let domain = answered-in-domain f ra rb paper pair c (none refl) in
        let told : (measure f p a ra b rb radii pair c).output ≡ o = cc in
        let ends : r.ending ≡ o.ending = sym (ending-told f r.ending radii ra rb (witness_points f r.simplex r.count) r)
        ∙ ap (λ (x : ProxyDistanceOutput). x.ending) told in
        subst (λ (e : Ending). Exact (outline_a paper) (posed_b paper) e (cache_by r.ending pair c r)) ends
        (exact-end f room paper domain pair c arrays r (call-right f room paper domain c) (λ e. not_limit (sym ends ∙ e)))
    go (suc n) none is = absurd (refused is)
      where
        refused : Err (numbered (suc n)) ≡ Ok o → ⊥
        refused e = let z : ◌≡◌ {A = ℕ} 0 1 = cc in omega arith

-- ---- the bounds of the formats
pub room_of : (f : Format) → Room f (bound_of f)
room_of binary32 = (lit≤ tt, lit≤ tt)
room_of binary64 = (lit≤ tt, lit≤ tt)

pub exact-on-squared-paper : (f : Format) → Demand3 f (bound_of f)
exact-on-squared-paper f = demand3 f (bound_of f) (room_of f)

pub answered-on-squared-paper : (f : Format) → Answered f (bound_of f)
answered-on-squared-paper f = accepted f (bound_of f)
