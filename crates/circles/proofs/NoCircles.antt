-- No going round in circles, over either format and every bound that leaves the room, and at the bound of each format. Assumes nothing.
use mathlib.Core.Path.{◌≡◌, refl, ap, ◌∙◌, subst}
use mathlib.Core.Logic.{inl, inr}
use mathlib.Core.Bool.{Bool, true, false, ◌&&◌, ◌||◌, cond}
use mathlib.Core.List.{List, [], ◌∷◌}
use Prim.Native.Nat.{ℕ, suc, ◌+◌, ◌/◌, ◌<◌}
use native.Mathlib.Omega.{arith}
use lib.Dec.{T, eqb, eqb_refl, lit<}
use lib.ListN.{length}
use lib.Ieee.{Float, Format}
use lib.Ieee as I
use Rattle.integers.specs.Signed.{Int, 0Int, neg, ◌⊞◌, ◌⊟◌, ◌⊠◌, ◌≼◌, ◌≺◌, ◌≃◌}
use Rattle.integers.specs.Whole.{Test}
use Rattle.integers.specs.Polynomial.{var, ◌:+◌, ◌:-◌, ◌:*◌, negated}
use Rattle.integers.proofs.Signed.{⊠-cong-r}
use Rattle.integers.proofs.Ring.{ring}
use Rattle.model.specs.declared.Vector.{Vector}
use Rattle.model.specs.declared.Pose.{Pose}
use Rattle.model.specs.declared.SimplexVertex.{SimplexVertex}
use Rattle.model.specs.declared.SimplexCache.{SimplexCache}
use Rattle.model.specs.declared.Solved.{Solved}
use Rattle.model.specs.declared.Ending.TheVariants.{Touching, Settled}
use Rattle.model.specs.declared.Rounds.{Rounds}
use Rattle.model.specs.Ground.{epsilon, origin}
use Rattle.model.specs.Ground as Ground
use Rattle.model.specs.Simplex.{slot, solved, solve}
use Rattle.model.specs.Distance.{held, vertex, touches, ended, support_a, support_b, extended, max_iterations, rounds_from}
use Rattle.plane.specs.Plane.{Point, opposite, turned_back, dot}
use Rattle.exact.specs.SquaredPaper.{SquaredPaper, Room, bound_of}
use Rattle.circles.specs.NoCircles.{State, GoesOn, start, next, rounds_of, Reaches, first, then, Nearer, NoCircles, NoCirclesWithin, MadeAreCounted}
use Rattle.exact.proofs.Below.{below1, below2}
use Rattle.exact.proofs.Vectors.{SizedPoint, weaken-point}
use Rattle.exact.proofs.Kept.{Kept}
use Rattle.exact.proofs.Solved.{places, two, three, Outcome, vertex_left, edge_left, covers, solves}
use Rattle.exact.proofs.Paper.{InDomain, across_a, across_b, turned-back, supports}
use Rattle.circles.proofs.Along.{Along, both_some, support-same}
use Rattle.circles.proofs.Shorter.{Descent, shorter-or-same-way, shorter-at-origin}
use Rattle.circles.proofs.Told.{told-by-rounds}
use Rattle.exact.proofs.Rounds.{places_of, Slots, vertex-stands, start-slots, tiny-direction}
use Rattle.exact.proofs.Answered.{answered-in-domain}
use Rattle.exact.proofs.Demand3.{room_of}

-- ---- the states are those of the call
module _ (f : Format) (a b : List Float) (p : Pose) where
  -- a round that goes on hands its state on
  handed-on : (k : ℕ) (x : State) → GoesOn f a b p x → rounds_of f a b p (suc k) x ≡ rounds_of f a b p k (next f a b p x)
  unfolding rounds_from
  handed-on k x g = rw (g.apart, g.new)

  -- what the call from c does is what is left to do from any state that it reaches
  pub left-to-do : {c : SimplexCache} {limit k : ℕ} {x : State} → Reaches f a b p c limit k x → rounds_of f a b p limit (start f a b p c) ≡ rounds_of f a b p k x
  left-to-do first = refl
  left-to-do {k = k} (then {x = x} r g) = left-to-do r ∙ handed-on k x g

pub made-are-counted : (f : Format) → MadeAreCounted f
made-are-counted f p a b c limit k x first = omega arith
made-are-counted f p a b c limit k x (then {x = y} r g) = let before = made-are-counted f p a b c limit (suc k) y r in omega (arith, before)

-- ---- the same supports
module _ (f : Format) {bound : ℕ} (room : Room f bound) {p : Pose} {a b : List Float} (paper : SquaredPaper bound p a b) (domain : InDomain paper) where
  turned-back-along : {e e' : Point} → Along e e' → Along (turned_back paper.cosine paper.sine (opposite e))
      (turned_back paper.cosine paper.sine (opposite e'))
  turned-back-along {e} {e'} A =
      let c = paper.cosine in
      let s = paper.sine in
      let k = A.ours in
      let l = A.theirs in
      let across : (k : Int) (e : Point) → k ⊠ (c ⊠ neg e.x ⊞ s ⊠ neg e.y) ≃ neg (c ⊠ (k ⊠ e.x) ⊞ s ⊠ (k ⊠ e.y)) = λ k e.
      ring (var 0 :* (var 1 :* negated (var 3) :+ var 2 :* negated (var 4))) (negated (var 1 :* (var 0 :* var 3) :+ var 2 :* (var 0 :* var 4)))
      (k ∷ c ∷ s ∷ e.x ∷ e.y ∷ []) tt in
      let up : (k : Int) (e : Point) → k ⊠ (c ⊠ neg e.y ⊟ s ⊠ neg e.x) ≃ neg (c ⊠ (k ⊠ e.y) ⊟ s ⊠ (k ⊠ e.x)) = λ k e.
      ring (var 0 :* (var 1 :* negated (var 4) :- var 2 :* negated (var 3))) (negated (var 1 :* (var 0 :* var 4) :- var 2 :* (var 0 :* var 3)))
      (k ∷ c ∷ s ∷ e.x ∷ e.y ∷ []) tt in
      let cx = ⊠-cong-r c (k ⊠ e.x) (l ⊠ e'.x) A.equal-x in
      let cy = ⊠-cong-r c (k ⊠ e.y) (l ⊠ e'.y) A.equal-y in
      let sx = ⊠-cong-r s (k ⊠ e.x) (l ⊠ e'.x) A.equal-x in
      let sy = ⊠-cong-r s (k ⊠ e.y) (l ⊠ e'.y) A.equal-y in
      record {
        ours = k;
        theirs = l;
        ours-some = A.ours-some;
        theirs-some = A.theirs-some;
        equal-x = omega (arith, across k e, across l e');
        equal-y = omega
            (arith, up k e, up l e');
      }

  module _ {d d' : Vector} {e e' : Point} (i : SizedPoint bound d e 16 3) (i' : SizedPoint bound d' e' 16 3) (A : Along e e') where
    pub same_A : support_a f a d ≡ support_a f a d'
    same_A = support-same f bound room (weaken-point f bound room 32 3 i tt tt) (weaken-point f bound room 32 3 i' tt tt) A paper.corner_a a
        (across_a f room paper domain)

    pub same-B : support_b f b p d ≡ support_b f b p d'
    same-B =
        support-same f bound room (turned-back f room paper domain i) (turned-back f room paper domain i') (turned-back-along A) paper.corner_b b
        (across_b f room paper domain)

  -- ---- one round after the other
  abbrev spots : List SimplexVertex → ℕ → Point
  spots = places bound (length a / 2) (length b / 2) (places_of f room paper domain)

  abbrev Left : List SimplexVertex → ℕ → List SimplexVertex → ℕ → Vector → Type 0
  Left = Outcome bound (length a / 2) (length b / 2) (places_of f room paper domain)

  -- a round that starts from n slots s, with `made` before it and k after it, when its solve leaves r
  abbrev pub round_by : ℕ → List SimplexVertex → ℕ → ℕ → Solved → Rounds
  round_by k s n made r =
      cond (touches f r) (ended Touching r.simplex r.count (origin f) made)
      (cond (held s n (support_a f a r.direction) (support_b f b p r.direction)) (ended Settled (extended f a b p r) r.count r.direction (made + 1))
      (rounds_from f a b p k (extended f a b p r) (r.count + 1) r.direction (made + 1)))

  abbrev SettlesAt : ℕ → Rounds → Type 0
  SettlesAt n r = (r.ending ≡ Settled) × (r.iterations ≡ n)

  pub held-still : (s : List SimplexVertex) (n i j i' j' : ℕ) → i ≡ i' → j ≡ j' → held s n i j ≡ true → held s n i' j' ≡ true
  held-still s n i j i' j' ei ej h = rw (← ei, ← ej) h

  -- the next round, from n slots s that hold what K kept and the pair found along its direction d
  module _ {d : Vector} {e : Point} {m : ℕ} {kept : ℕ → Point} {n' : ℕ} {held' : ℕ → Point} (K : Kept e m kept n' held') (i : SizedPoint bound d e 16 3)
      (far : 0Int ≺ dot e e)
      (s : List SimplexVertex) (n : ℕ) (still : (F : Point → Type 0) → ((j : ℕ) → j < n → F (spots s j)) → (j : ℕ) → j < m → F (kept j))
      (known : held s n (support_a f a d) (support_b f b p d) ≡ true) (k made : ℕ) where
    -- along a multiple of the direction the pair is found again
    settles : (t' : List SimplexVertex) (m' : ℕ) {d' : Vector} {e' : Point} → eqb m' 3 ≡ false → SizedPoint bound d' e' 16 3 → Along e e'
        → SettlesAt (made + 2) (round_by k s n (made + 1) (solved t' m' d'))
    settles t' m' {d'} {e'} few i' A = go (I.lt (Ground.dot f d' d') (I.mul f (epsilon f) (epsilon f))) (tiny-direction f room paper domain i')
      where
        again : held s n (support_a f a d') (support_b f b p d') ≡ true
        again = held-still s n _ _ _ _ (same_A i i' A) (same-B i i' A) known

        go : (tiny : Bool) → Test tiny ((e'.x ≃ 0Int) × (e'.y ≃ 0Int)) (0Int ≺ dot e' e')
            → SettlesAt (made + 2) (cond (eqb m' 3 || tiny) (ended Touching t' m' (origin f) (made + 1))
            (cond (held s n (support_a f a d') (support_b f b p d')) (ended Settled (extended f a b p (solved t' m' d')) m' d' (made + 1 + 1))
            (rounds_from f a b p k (extended f a b p (solved t' m' d')) (m' + 1) d' (made + 1 + 1))))
        go true h = absurd (both_some A far h.0 h.1)
        go false h = rw (few, again) (refl, omega arith)

    or-else : {m' : ℕ} {kept' : ℕ → Point} {Here There : Type 0} → (Here → There) → Descent m kept m' kept' Here → Descent m kept m' kept' There
    or-else turn D = record { before = D.before; after = D.after; falls = elim D.falls [ inl h ↦ inl h | inr h ↦ inr (h.0, turn h.1) ] }

    second : {t' : List SimplexVertex} {m' : ℕ} {d' : Vector} → Left s n t' m' d' → Descent m kept m' (spots t')
        (SettlesAt (made + 2) (round_by k s n (made + 1) (solved t' m' d')))
    second (vertex_left e' x i' K') = or-else (settles _ 1 refl i') (shorter-or-same-way K K' (still (λ u. dot e' u ≼ K'.level) K'.top))
    second (edge_left e' x y i' K') = or-else (settles _ 2 refl i') (shorter-or-same-way K K' (still (λ u. dot e' u ≼ K'.level) K'.top))
    second (covers x y z c) = shorter-at-origin K far c

  -- the pair that was added last is held
  pub last-held : (s : List SimplexVertex) (n i j : ℕ) → (slot s n).index_a ≡ i → (slot s n).index_b ≡ j → held s (suc n) i j ≡ true
  unfolding held
  last-held s n i j ei ej = rw (ei, ej) (go (held s n i j) (eqb i i) (eqb j j) (eqb_refl i) (eqb_refl j))
    where
      go : (r t t' : Bool) → T t → T t' → (r || (t && t')) ≡ true
      go true t t' h h' = refl
      go false true true h h' = refl
      go false false t' h h' = elim h [ ]
      go false true false h h' = elim h' [ ]

  -- there is a direction where the solve does not touch
  pub direction-left : {d : Vector} {e : Point} → SizedPoint bound d e 16 3 → I.lt (Ground.dot f d d) (I.mul f (epsilon f) (epsilon f)) ≡ false → 0Int ≺ dot e e
  direction-left {d} {e} i h = subst (λ (t : Bool). Test t ((e.x ≃ 0Int) × (e.y ≃ 0Int)) (0Int ≺ dot e e)) h (tiny-direction f room paper domain i)

  -- the slots that a round hands on, and what the next one does
  abbrev Onward : List SimplexVertex → ℕ → Vector → ℕ → ℕ → Type 0
  Onward t m d k made =
      let s = extended f a b p (solved t m d) in
      let r = solve f s (m + 1) in
      Slots f room paper domain s (m + 1) × Descent m (spots t) r.count (spots r.simplex) (SettlesAt (made + 2) (round_by k s (m + 1) (made + 1) r))

  onward : {s : List SimplexVertex} {n : ℕ} {t : List SimplexVertex} {m : ℕ} {d : Vector} (k made : ℕ) → Left s n t m d → touches f (solved t m d) ≡ false
      → Onward t m d k made
  unfolding vertex
  onward {d = d} k made (vertex_left e x i K) h =
      let found = supports f room paper domain i in
      let slots = two x (vertex-stands f room paper domain _ _ _ found.in_a found.in_b) in
      (slots, second K i (direction-left i h) _ 2 (λ F all. below1 _ (all 0 (lit< tt))) (last-held _ 1 _ _ refl refl) k made (solves bound _ _ _ f room slots))
  onward {d = d} k made (edge_left e x y i K) h =
      let found = supports f room paper domain i in
      let slots = three x y (vertex-stands f room paper domain _ _ _ found.in_a found.in_b) in (
        slots,
        second K i (direction-left i h) _ 3 (λ F all. below2 _ (all 0 (lit< tt)) (all 1 (lit< tt))) (last-held _ 2 _ _ refl refl) k made
            (solves bound _ _ _ f room slots),
      )
  onward k made (covers x y z c) h = absurd (clash h)
    where
      clash : true ≡ false → ⊥
      clash e = let z : ◌≡◌ {A = ℕ} 0 1 = cc in omega arith

  -- ---- all rounds
  slots-of : {c : SimplexCache} {limit k : ℕ} {x : State} → Reaches f a b p c limit k x → Slots f room paper domain x.simplex x.count
  slots-of {c} first = start-slots f room paper domain c
  slots-of {k = k} (then {x = x} r g) = (onward k x.made (solves bound _ _ _ f room (slots-of r)) g.apart).0

  nearer : (c : SimplexCache) (limit k : ℕ) (x : State) → Reaches f a b p c limit (suc (suc k)) x → GoesOn f a b p x
      → let whole = rounds_of f a b p limit (start f a b p c) in Nearer f paper whole.ending whole.iterations x
  unfolding rounds_from
  nearer c limit k x r g =
      let D = (onward k x.made (solves bound _ _ _ f room (slots-of r)) g.apart).1 in
      let same = left-to-do f a b p (then r g) in
      record {
        before = D.before;
        after = D.after;
        smaller-or-settles = elim D.falls
            [ inl h ↦ inl h | inr h ↦ inr (h.0, ap (λ (r : Rounds). r.ending) same ∙ h.1.0, ap (λ (r : Rounds). r.iterations) same ∙ h.1.1) ];
      }

pub no-circles-within : (f : Format) (bound : ℕ) → Room f bound → NoCirclesWithin f bound
no-circles-within f bound room p a ra b rb radii pair c paper o answered limit k x r g =
    let passed = (told-by-rounds f p a ra b rb radii pair c o answered).passed in
    nearer f room paper (answered-in-domain f ra rb paper pair c passed) c limit k x r g

pub no-circles : (f : Format) (bound : ℕ) → Room f bound → NoCircles f bound
no-circles f bound room p a ra b rb radii pair c paper o answered k x r g =
    let told = told-by-rounds f p a ra b rb radii pair c o answered in
    rw (told.ending, told.iterations) (no-circles-within f bound room p a ra b rb radii pair c paper o answered max_iterations k x r g)

pub no-circles-on-squared-paper : (f : Format) → NoCircles f (bound_of f)
no-circles-on-squared-paper f = no-circles f (bound_of f) (room_of f)
