-- The rounds of the distance call on squared paper end before the round limit, if there are enough of them: from any slots the states lead down, a round
-- at a time. Assumes nothing.
use mathlib.Core.Path.{◌≡◌, refl, sym, ap, ◌∙◌, subst}
use mathlib.Core.Logic.{◌⊎◌, inl, inr}
use mathlib.Core.Bool.{Bool, true, false, cond, true≢false}
use mathlib.Core.List.{List, [], ◌∷◌}
use Prim.Native.Nat.{ℕ, zero, suc, ◌+◌, ◌/◌, ◌^◌, ◌≤◌, ◌<◌}
use native.Mathlib.Omega.{arith}
use lib.ListN.{length}
use lib.Ieee.{Float, Format}
use Rattle.integers.specs.Signed.{Int, 0Int, of_nat, ◌⊟◌, ◌≼◌, ◌≺◌, ◌≃◌}
use Rattle.integers.specs.Polynomial.{var, ◌:+◌, ◌:-◌, ◌:*◌}
use Rattle.integers.proofs.Signed.{le-or-lt, ⊠-cong-r}
use Rattle.integers.proofs.Ring.{ring}
use Rattle.model.specs.declared.Vector.{Vector}
use Rattle.model.specs.declared.Pose.{Pose}
use Rattle.model.specs.declared.SimplexVertex.{SimplexVertex}
use Rattle.model.specs.declared.SimplexCache.{SimplexCache}
use Rattle.model.specs.declared.Solved.{Solved}
use Rattle.model.specs.declared.Ending.{Ending}
use Rattle.model.specs.declared.Ending.TheVariants.{Touching, Settled, RoundLimit}
use Rattle.model.specs.declared.Rounds.{Rounds}
use Rattle.model.specs.Ground.{origin, negate}
use Rattle.model.specs.Simplex.{Region, at1, at2, at3, on12, on13, on23, inside, weighted, solved, kept, solve, solve_simplex2, solve_simplex3, region2, region3}
use Rattle.model.specs.Simplex as Simplex
use Rattle.model.specs.Distance.{held, vertex, start_simplex, start_count, support_a, support_b, ended, touches, extended, rounds_from}
use Rattle.plane.specs.Plane.{Point, difference, opposite, dot}
use Rattle.exact.specs.Regions.{toward}
use Rattle.exact.specs.SquaredPaper.{Near, SquaredPaper, Room, posed_b}
use Rattle.round_limit.specs.RoundLimit.{largest_area, rounds_for}
use Rattle.exact.proofs.Vectors.{SizedPoint}
use Rattle.exact.proofs.Origin.{region2-lies, region3-lies, region2-stays, region3-stays}
use Rattle.exact.proofs.Kept.{off_edge}
use Rattle.exact.proofs.Solved.{place, Stands, one, two, three, reweighed, off_edge-sized, negated-sized}
use Rattle.exact.proofs.Paper.{InDomain, Extreme, supports}
use Rattle.circles.proofs.Along.{Along}
use Rattle.exact.proofs.Rounds.{places_of, Slots, vertex-stands, start-slots}
use Rattle.circles.proofs.NoCircles.{same_A, same-B, round_by, held-still, last-held, direction-left}
use Rattle.round_limit.proofs.Turning.{Sense, turn, ahead}
use Rattle.round_limit.proofs.Edge.{Edge, edge-not-side, ahead-off-vertex}
use Rattle.round_limit.proofs.States.{Certified, AtVertex, two-left-at-vertex, two-left-at-edge}
use Rattle.round_limit.proofs.Triangles.{no-larger}
use Rattle.round_limit.proofs.Regions.{KnownVertex, EitherWay, KnownEdge, Known2, Known3, free-vertex, start2, start3, next2, next3}

-- not at the round limit
abbrev pub InTime : Ending → Type 0
InTime Touching = Unit {0}
InTime Settled = Unit {0}
InTime RoundLimit = ⊥

-- the differences of two outlines: the places of pairs of corners
pub data Difference (na nb : ℕ) (place : ℕ → ℕ → Point) : Point → Type 0 where
  pair_of : (i j : ℕ) → i < na → j < nb → Difference na nb place (place i j)

module _ (f : Format) {bound : ℕ} (room : Room f bound) {p : Pose} {a b : List Float} (paper : SquaredPaper bound p a b) (domain : InDomain paper)
    (J : ℕ) (enough : largest_area bound < 4 ^ J) where
  abbrev na : ℕ
  na = length a / 2

  abbrev nb : ℕ
  nb = length b / 2

  abbrev spot : ℕ → ℕ → Point
  spot = places_of f room paper domain

  abbrev at : SimplexVertex → Point
  at = place bound na nb spot

  abbrev Corner : SimplexVertex → Type 0
  Corner = Stands bound na nb spot

  abbrev D : Point → Type 0
  D = Difference na nb spot

  in-D : {v : SimplexVertex} → Corner v → D (at v)
  in-D {v} h = pair_of v.index_a v.index_b h.in_a h.in_b

  near-D : {z : Point} → D z → Near bound z
  near-D (pair_of i j h k) = paper.near i j h k

  triangles : (σ : Sense) (a b q : Point) → D a → D b → D q → turn σ (difference b a) (difference q a) ≺ of_nat (4 ^ J)
  triangles σ a b q h i j = no-larger bound J enough σ a b q (near-D h) (near-D i) (near-D j)

  -- the pair that is found along a direction is certified by it
  found-certified : {e : Point} {i j : ℕ} → Extreme f room paper domain e i j → Certified D J e (spot i j)
  found-certified {e} {i} {j} x r (pair_of k l h m) =
      let apart : (u w : Point) → dot e (difference u w) ≃ dot e u ⊟ dot e w = λ u w.
      ring (var 0 :* (var 2 :- var 4) :+ var 1 :* (var 3 :- var 5)) (var 0 :* var 2 :+ var 1 :* var 3 :- (var 0 :* var 4 :+ var 1 :* var 5))
      (e.x ∷ e.y ∷ u.x ∷ u.y ∷ w.x ∷ w.y ∷ []) tt in
      omega (
        arith,
        x.furthest_a k h,
        x.furthest_b l m,
        apart (paper.corner_a i) ((posed_b paper).corner j),
        apart (paper.corner_a k) ((posed_b paper).corner l),
      )

  -- ---- slots before a solve with k rounds left: the start, or what was kept and a pair q that was found further
  data Before (k : ℕ) : List SimplexVertex → ℕ → Type 0 where
    start : {s : List SimplexVertex} {n : ℕ} → rounds_for J ≤ k → Slots f room paper domain s n → Before k s n
    vertex_next : {x q z : SimplexVertex} → Corner x → Corner q → Certified D J (opposite (at x)) (at q) → 0Int ≺ ahead (opposite (at x)) (at q) (at x)
        → AtVertex D J (suc k) (at x) → Before k (x ∷ q ∷ z ∷ []) 2
    edge_next : {x y q : SimplexVertex} {e : Point} → Corner x → Corner y → Corner q → Edge e (at x) (at y) → Certified D J e (at q)
        → 0Int ≺ ahead e (at q) (at x) → EitherWay D J (suc k) e (at x) (at y) → Before k (x ∷ y ∷ q ∷ []) 3

  -- and after it
  data After (k : ℕ) : List SimplexVertex → ℕ → Vector → Type 0 where
    vertex_left : {x y z : SimplexVertex} {d : Vector} → Corner x → SizedPoint bound d (opposite (at x)) 16 3 → KnownVertex D J k (at x)
        → After k (x ∷ y ∷ z ∷ []) 1 d
    edge_left : {x y z : SimplexVertex} {d : Vector} {e : Point} → Corner x → Corner y → SizedPoint bound d e 16 3 → KnownEdge D J k e (at x) (at y)
        → After k (x ∷ y ∷ z ∷ []) 2 d
    enclosed : {t : List SimplexVertex} {d : Vector} → After k t 3 d

  abbrev AfterOf : ℕ → Solved → Type 0
  AfterOf k r = After k r.simplex r.count r.direction

  reweigh : {v : SimplexVertex} {w : Float} → Corner v → Corner (weighted v w)
  reweigh = reweighed bound na nb spot _

  off-vertex : {v : SimplexVertex} → Corner v → SizedPoint bound (negate v.w) (opposite (at v)) 16 3
  off-vertex = negated-sized bound na nb spot f room

  off-edge : {v w : SimplexVertex} → Corner v → Corner w → SizedPoint bound (Simplex.off_edge f v.w w.w) (off_edge (at v) (at w)) 16 3
  off-edge i j = off_edge-sized bound na nb spot f room i.whole j.whole

  after2 : {k : ℕ} {x y : SimplexVertex} (i : Corner x) (j : Corner y) (z : SimplexVertex) (ρ : Region) → Known2 D J k (at x) (at y) ρ
      → AfterOf k (kept f (x ∷ y ∷ z ∷ []) ρ)
  unfolding kept
  after2 i j z at1 h = vertex_left (reweigh i) (off-vertex i) h
  after2 i j z at2 h = vertex_left (reweigh j) (off-vertex j) h
  after2 i j z on12 h = edge_left (reweigh i) (reweigh j) (off-edge i j) h
  after2 i j z at3 h = absurd h
  after2 i j z on13 h = absurd h
  after2 i j z on23 h = absurd h
  after2 i j z inside h = absurd h

  after3 : {k : ℕ} {x y z : SimplexVertex} (i : Corner x) (j : Corner y) (l : Corner z) (ρ : Region) → Known3 D J k (at x) (at y) (at z) ρ
      → AfterOf k (kept f (x ∷ y ∷ z ∷ []) ρ)
  unfolding kept
  after3 i j l at1 h = vertex_left (reweigh i) (off-vertex i) h
  after3 i j l at2 h = vertex_left (reweigh j) (off-vertex j) h
  after3 i j l at3 h = vertex_left (reweigh l) (off-vertex l) h
  after3 i j l on12 h = edge_left (reweigh i) (reweigh j) (off-edge i j) h
  after3 i j l on13 h = edge_left (reweigh i) (reweigh l) (off-edge i l) h
  after3 i j l on23 h = edge_left (reweigh l) (reweigh j) (off-edge j l) h
  after3 i j l inside h = enclosed

  solved-after : {k : ℕ} {s : List SimplexVertex} {n : ℕ} → Before k s n → AfterOf k (solve f s n)
  unfolding solve solve_simplex2 solve_simplex3
  solved-after {k} (start h (one {x} i)) = vertex_left i (off-vertex i) (free-vertex D J k h (at x))
  solved-after {k} (start h (two {z = z} i j)) =
      after2 i j z (region2 f _ _) (start2 D J k h _ _ (region2 f _ _) (region2-lies f bound room i.whole j.whole))
  solved-after {k} (start h (three i j l)) =
      after3 i j l (region3 f _ _ _) (start3 D J k h _ _ _ (region3 f _ _ _) (region3-lies f bound room i.whole j.whole l.whole))
  solved-after {k} (vertex_next {z = z} i j c E s) =
      after2 i j z (region2 f _ _) (next2 D J k triangles s (in-D i) (in-D j) c E (region2 f _ _) (region2-lies f bound room i.whole j.whole))
  solved-after {k} (edge_next i j l edge c E s) =
      after3 i j l (region3 f _ _ _)
      (next3 D J k triangles edge s (in-D i) (in-D j) (in-D l) c E (region3 f _ _ _) (region3-lies f bound room i.whole j.whole l.whole))

  -- ---- a tie: what was found lies no further than what was kept, so the next solve keeps the same, and the round after it finds what is held
  abbrev Finishes : ℕ → List SimplexVertex → ℕ → Vector → ℕ → Type 0
  Finishes k s n d it = InTime (rounds_from f a b p k s n d it).ending

  abbrev round_of : ℕ → List SimplexVertex → ℕ → ℕ → Solved → Rounds
  round_of = round_by f room paper domain

  -- a round touches, or settles, or goes on
  goes_on : (k : ℕ) (s : List SimplexVertex) (n it : ℕ) (r : Solved)
      → (touches f r ≡ false → held s n (support_a f a r.direction) (support_b f b p r.direction) ≡ false
      → Finishes k (extended f a b p r) (r.count + 1) r.direction (it + 1))
      → InTime (round_of k s n it r).ending
  goes_on k s n it r on = go (touches f r) (held s n (support_a f a r.direction) (support_b f b p r.direction)) on
    where
      next : Rounds
      next = rounds_from f a b p k (extended f a b p r) (r.count + 1) r.direction (it + 1)

      go : (touching known : Bool) → (touching ≡ false → known ≡ false → InTime next.ending)
          → InTime (cond touching (ended Touching r.simplex r.count (origin f) it)
          (cond known (ended Settled (extended f a b p r) r.count r.direction (it + 1)) next)).ending
      go true known on = tt
      go false true on = tt
      go false false on = on refl refl

  -- a round whose slots hold what is found along its direction
  ends-by-held : {d d' : Vector} {e e' : Point} → SizedPoint bound d e 16 3 → SizedPoint bound d' e' 16 3 → e.x ≃ e'.x → e.y ≃ e'.y
      → (s : List SimplexVertex) (n : ℕ) → held s n (support_a f a d) (support_b f b p d) ≡ true
      → (k it : ℕ) (t' : List SimplexVertex) (m' : ℕ) → InTime (round_of k s n it (solved t' m' d')).ending
  ends-by-held {d} {d'} {e} {e'} i i' same-x same-y s n known k it t' m' =
      goes_on k s n it (solved t' m' d') (λ apart new. absurd (true≢false (sym again ∙ new)))
    where
      along : Along e e'
      along = record {
        ours = of_nat 1;
        theirs = of_nat 1;
        ours-some = omega arith;
        theirs-some = omega arith;
        equal-x = ⊠-cong-r (of_nat 1) e.x e'.x same-x;
        equal-y = ⊠-cong-r (of_nat 1) e.y e'.y same-y;
      }

      again : held s n (support_a f a d') (support_b f b p d') ≡ true
      again = held-still f room paper domain s n _ _ _ _ (same_A f room paper domain i i' along) (same-B f room paper domain i i' along) known

  abbrev fresh : Vector → Float → SimplexVertex
  fresh d w = vertex f a b p (support_a f a d) (support_b f b p d) w

  vertex-tie : {x : SimplexVertex} {d : Vector} (z : SimplexVertex) (w : Float) (k it : ℕ) → Corner x → Corner (fresh d w)
      → SizedPoint bound d (opposite (at x)) 16 3 → ahead (opposite (at x)) (at (fresh d w)) (at x) ≼ 0Int → Finishes (suc k) (x ∷ fresh d w ∷ z ∷ []) 2 d it
  unfolding rounds_from vertex solve solve_simplex2 kept
  vertex-tie {x} {d} z w k it i j sized level =
      let s = x ∷ fresh d w ∷ z ∷ [] in
      let behind : toward (at x) (at (fresh d w)) ≼ 0Int = omega (arith, level, ahead-off-vertex (at x) (at (fresh d w))) in
      let stays : solve f s 2 ≡ kept f s at1 = ap (kept f s) (region2-stays f bound room i.whole j.whole behind) in
      subst (λ (r : Solved). InTime (round_of k s 2 it r).ending) (sym stays)
      (ends-by-held sized (off-vertex i) refl refl s 2 (last-held f room paper domain s 1 _ _ refl refl) k it _ 1)

  edge-tie : {x y : SimplexVertex} {d : Vector} {e : Point} (w : Float) (k it : ℕ) → Corner x → Corner y → Corner (fresh d w) → SizedPoint bound d e 16 3
      → Edge e (at x) (at y) → ahead e (at (fresh d w)) (at x) ≼ 0Int → Finishes (suc k) (x ∷ y ∷ fresh d w ∷ []) 3 d it
  unfolding rounds_from vertex solve solve_simplex3 kept
  edge-tie {x} {y} {d} {e} w k it i j l sized edge level =
      let s = x ∷ y ∷ fresh d w ∷ [] in
      let off = edge-not-side edge (at (fresh d w)) level in
      let stays : solve f s 3 ≡ kept f s on12 =
      ap (kept f s) (region3-stays f bound room i.whole j.whole l.whole edge.ahead-of-x edge.ahead-of-y off) in
      subst (λ (r : Solved). InTime (round_of k s 3 it r).ending) (sym stays)
      (ends-by-held sized (off-edge i j) edge.same-x edge.same-y s 3 (last-held f room paper domain s 2 _ _ refl refl) k it _ 2)

  -- ---- one round with k more after it: it ends, or what it finds lies further, or there is a tie
  abbrev AllFinish : ℕ → Type 0
  AllFinish k = (s : List SimplexVertex) (n : ℕ) (d : Vector) (it : ℕ) → Before k s n → Finishes k s n d it

  -- a tie needs one more
  one_more : (F : ℕ → Type 0) (k : ℕ) → 2 ≤ suc k → ((k : ℕ) → F (suc k)) → F k
  one_more F zero h then = let none : ⊥ = omega arith in absurd none
  one_more F (suc k) h then = then k

  further-or-tie : (z : Int) → (z ≼ 0Int) ⊎ (0Int ≺ z)
  further-or-tie z = elim (le-or-lt z.plus z.minus) [ inl h ↦ inl (omega arith) | inr h ↦ inr (omega arith) ]

  round-ends : (k : ℕ) → AllFinish k → (s : List SimplexVertex) (n it : ℕ) {t : List SimplexVertex} {m : ℕ} {d : Vector} → After (suc k) t m d
      → InTime (round_of k s n it (solved t m d)).ending
  unfolding vertex
  round-ends k finish s n it {d = d} (vertex_left {x} {y} {z} i sized known) =
      goes_on k s n it (solved (x ∷ y ∷ z ∷ []) 1 d)
      (λ apart new. on (known (direction-left f room paper domain sized apart)) (further-or-tie (ahead e (at q) (at x))))
    where
      e : Point
      e = opposite (at x)

      q : SimplexVertex
      q = fresh d y.a

      found : Extreme f room paper domain e (support_a f a d) (support_b f b p d)
      found = supports f room paper domain sized

      stands : Corner q
      stands = vertex-stands f room paper domain _ _ _ found.in_a found.in_b

      on : AtVertex D J (suc k) (at x) → (ahead e (at q) (at x) ≼ 0Int) ⊎ (0Int ≺ ahead e (at q) (at x)) → Finishes k (x ∷ q ∷ z ∷ []) 2 d (it + 1)
      on state (inl tie) =
          one_more (λ k. Finishes k (x ∷ q ∷ z ∷ []) 2 d (it + 1)) k (two-left-at-vertex D J state) (λ k. vertex-tie z y.a k (it + 1) i stands sized tie)
      on state (inr further) = finish _ 2 d (it + 1) (vertex_next i stands (found-certified found) further state)
  round-ends k finish s n it {d = d} (edge_left {x} {y} {z} {e = e} i j sized (edge, known)) =
      goes_on k s n it (solved (x ∷ y ∷ z ∷ []) 2 d)
      (λ apart new. on (known (direction-left f room paper domain sized apart)) (further-or-tie (ahead e (at q) (at x))))
    where
      q : SimplexVertex
      q = fresh d z.a

      found : Extreme f room paper domain e (support_a f a d) (support_b f b p d)
      found = supports f room paper domain sized

      stands : Corner q
      stands = vertex-stands f room paper domain _ _ _ found.in_a found.in_b

      two-left : EitherWay D J (suc k) e (at x) (at y) → 2 ≤ suc k
      two-left (inl state) = two-left-at-edge D J state
      two-left (inr state) = two-left-at-edge D J state

      on : EitherWay D J (suc k) e (at x) (at y) → (ahead e (at q) (at x) ≼ 0Int) ⊎ (0Int ≺ ahead e (at q) (at x)) → Finishes k (x ∷ y ∷ q ∷ []) 3 d (it + 1)
      on state (inl tie) =
          one_more (λ k. Finishes k (x ∷ y ∷ q ∷ []) 3 d (it + 1)) k (two-left state) (λ k. edge-tie z.a k (it + 1) i j stands sized edge tie)
      on state (inr further) = finish _ 3 d (it + 1) (edge_next i j stands edge (found-certified found) further state)
  round-ends k finish s n it enclosed = tt

  -- ---- all rounds
  none_left : {s : List SimplexVertex} {n : ℕ} → Before 0 s n → ⊥
  none_left (start h slots) = omega arith
  none_left (vertex_next i j c E s) = omega (arith, two-left-at-vertex D J s)
  none_left (edge_next i j l edge c E (inl s)) = omega (arith, two-left-at-edge D J s)
  none_left (edge_next i j l edge c E (inr s)) = omega (arith, two-left-at-edge D J s)

  rounds-end : (k : ℕ) → AllFinish k
  unfolding rounds_from
  rounds-end zero s n d it before = none_left before
  rounds-end (suc k) s n d it before = round-ends k (rounds-end k) s n it (solved-after before)

  pub call_ends : (k : ℕ) → rounds_for J ≤ k → (c : SimplexCache) → Finishes k (start_simplex f a b p c) (start_count c (length a / 2) (length b / 2)) (origin f) 0
  call_ends k h c = rounds-end k _ _ _ 0 (start h (start-slots f room paper domain c))
