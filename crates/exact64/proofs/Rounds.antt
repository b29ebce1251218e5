-- The f64 call's own rounds go as `model`'s do, state by state (`bridge`), so what `circles` proves of those holds of these. Assumes nothing.
use mathlib.Core.Path.{◌≡◌, refl, sym, ap, ◌∙◌, subst}
use mathlib.Core.Logic.{inl, inr}
use mathlib.Core.List.{List}
use Prim.Native.Nat.{ℕ, suc, ◌+◌}
use lib.Ieee.{Float, binary64}
use Rattle.model.specs.declared.SimplexCache.{SimplexCache}
use Rattle.model.specs.declared.Ending.{Ending}
use Rattle.model.specs.declared.Ending.TheVariants.{Settled}
use Rattle.model.specs.declared.Solved.{Solved}
use Rattle.model.specs.Ground as Ground
use Rattle.model.specs.Simplex.{slot}
use Rattle.model.specs.Distance.{support_a, support_b, vertex, max_iterations}
use Rattle.model64.specs.declared.Pose.{Pose as Pose64}
use Rattle.model64.specs.declared.Solved.{Solved as Solved64}
use Rattle.model64.specs.declared.Rounds.{Rounds as Rounds64}
use Rattle.model64.specs.Simplex.{slot as slot64}
use Rattle.model64.specs.Distance.{rounds_from as rounds_from64}
use Rattle.plane.specs.Plane.{Point}
use Rattle.bridge.specs.Wide.{vector64, vertex64, simplex64, solved64}
use Rattle.bridge.proofs.Domain.{support-same}
use Rattle.bridge.proofs.Simplex.{set-map, slot_same, solve-same}
use Rattle.bridge.proofs.Distance.{held_same, vertex-same, start-same}
use Rattle.exact.specs.SquaredPaper.{SquaredPaper}
use Rattle.circles.specs.NoCircles as C
use Rattle.circles.proofs.Shorter.{Descent}
use Rattle.exact64.specs.Call.{read}
use Rattle.exact64.specs.Rounds.{State, kept, GoesOn, start, next, Reaches, first, then, place, Nearer}

-- ---- the states are those of the call
module _ (a b : List Float) (p : Pose64) where
  abbrev rounds_of : ℕ → State → Rounds64
  rounds_of k x = rounds_from64 binary64 a b p k x.simplex x.count x.direction x.made

  handed-on : (k : ℕ) (x : State) → GoesOn a b p x → rounds_of (suc k) x ≡ rounds_of k (next a b p x)
  unfolding rounds_from64
  handed-on k x g = rw (g.apart, g.new)

  pub left-to-do : {c : SimplexCache} {k : ℕ} {x : State} → Reaches a b p c k x → rounds_of max_iterations (start a b p c) ≡ rounds_of k x
  left-to-do first = refl
  left-to-do {k = k} (then {x = x} r g) = left-to-do r ∙ handed-on k x g

-- ---- a state of `model`'s call as one of this
abbrev pub state64 : C.State → State
state64 y = record { simplex = simplex64 y.simplex; count = y.count; direction = vector64 y.direction; made = y.made }

kept_same : (y : C.State) → kept (state64 y) ≡ solved64 (C.kept binary64 y)
kept_same y = solve-same binary64 y.simplex y.count

module _ (a b : List Float) (p : Pose64) where
  abbrev i : C.State → ℕ
  i y = support_a binary64 a (C.kept binary64 y).direction

  abbrev j : C.State → ℕ
  j y = support_b binary64 b (read p) (C.kept binary64 y).direction

  pub goes_on : (y : C.State) → GoesOn a b p (state64 y) → C.GoesOn binary64 a b (read p) y
  goes_on y g =
      let r = C.kept binary64 y in
      record {
        apart = rw (kept_same y) at g.apart;
        new = rw (
          kept_same y,
          support-same binary64 a r.direction,
          support-same binary64 b
              (Ground.inverse_rotate binary64 (read p).rotation (Ground.negate r.direction)),
          held_same y.simplex y.count (i y) (j y),
        ) at g.new;
      }

  next-same : (y : C.State) → next a b p (state64 y) ≡ state64 (C.next binary64 a b (read p) y)
  next-same y =
      let r = C.kept binary64 y in
      let v = vertex binary64 a b (read p) (i y) (j y) (slot r.simplex r.count).a in
      rw (
        kept_same y,
        slot_same r.simplex r.count,
        support-same binary64 a r.direction,
        support-same binary64 b
            (Ground.inverse_rotate binary64 (read p).rotation (Ground.negate r.direction)),
        vertex-same binary64 a b (read p) (i y) (j y),
        set-map vertex64 r.simplex r.count v,
      )

  start_is : (c : SimplexCache) → start a b p c ≡ state64 (C.start binary64 a b (read p) c)
  start_is c = rw (start-same binary64 a b (read p) c)

  pub record Reached (c : SimplexCache) (k : ℕ) (x : State) : Type 0 where
    pub state : C.State
    pub is : x ≡ state64 state
    pub reached : C.Reaches binary64 a b (read p) c max_iterations k state

  pub reached-there : {c : SimplexCache} {k : ℕ} {x : State} → Reaches a b p c k x → Reached c k x
  reached-there {c} first = record { state = C.start binary64 a b (read p) c; is = start_is c; reached = C.first }
  reached-there {c} {k} (then {x = x} r g) =
      let R = reached-there r in
      let y = R.state in
      record {
        state = C.next binary64 a b (read p) y;
        is = ap (λ (z : State). next a b p z) R.is ∙ next-same y;
        reached = C.then R.reached (goes_on y (subst (GoesOn a b p) R.is g));
      }

-- ---- nearer there is nearer here
module _ {bound : ℕ} {p : Pose64} {a b : List Float} (paper : SquaredPaper bound (read p) a b) where
  abbrev narrow_places : Solved → ℕ → Point
  narrow_places r i = C.place paper (slot r.simplex i)

  abbrev places : Solved64 → ℕ → Point
  places r i = place paper (slot64 r.simplex i)

  places_same : (r : Solved) → narrow_places r ≡ places (solved64 r)
  places_same r = λ t n. place paper (sym (slot_same r.simplex n) t)

  abbrev Falls : Solved64 → Solved64 → Type 0 → Type 0
  Falls r r' Else = Descent r.count (places r) r'.count (places r') Else

  pub nearer-here : (e : Ending) (n : ℕ) (y : C.State) → C.Nearer binary64 paper e n y → Nearer paper e n (state64 y)
  nearer-here e n y N =
      let Else : Type 0 = (e ≡ Settled) × (n ≡ y.made + 2) in
      let r = C.kept binary64 y in
      let z = C.next binary64 a b (read p) y in
      let r' = C.kept binary64 z in
      let D : Descent r.count (narrow_places r) r'.count (narrow_places r') Else = record
      { before = N.before; after = N.after; falls = elim N.smaller-or-settles [ inl h ↦ inl h | inr h ↦ inr (h.0, (h.1, h.2)) ] } in
      let D' : Falls (solved64 r) (solved64 r') Else =
      subst (λ (g : ℕ → Point). Descent r.count g r'.count (places (solved64 r')) Else) (places_same r)
      (subst (λ (g : ℕ → Point). Descent r.count (narrow_places r) r'.count g Else) (places_same r') D) in
      let F : Falls (kept (state64 y)) (kept (next a b p (state64 y))) Else =
      subst (λ (u : Solved64). Falls u (kept (next a b p (state64 y))) Else) (sym (kept_same y))
      (subst (λ (x : State). Falls (solved64 r) (kept x) Else) (sym (next-same a b p y))
      (subst (λ (u : Solved64). Falls (solved64 r) u Else) (sym (kept_same z)) D')) in
      record {
        before = F.before;
        after = F.after;
        smaller-or-settles = elim F.falls [ inl h ↦ inl h | inr h ↦ inr (h.0, h.1.0, h.1.1) ];
      }
