-- The rounds of the distance call on squared paper, from any cache: each round either ends rightly or hands on slots that stand for corners. Assumes nothing.
use mathlib.Core.Path.{◌≡◌, refl, sym, subst}
use mathlib.Core.Logic.{◌⊎◌, inl, inr}
use mathlib.Core.Bool.{Bool, true, false, ◌&&◌, ◌||◌, cond}
use mathlib.Core.List.{List, [], ◌∷◌}
use Prim.Native.Nat.{ℕ, zero, suc, ◌+◌, ◌/◌, ◌≤◌, ◌<◌}
use native.Mathlib.Nat.{le_refl, le_step}
use native.Mathlib.Omega.{arith}
use lib.Dec.{T, eqb, ltb, leb, eqb→eq, leb→le, lit<}
use lib.IntN.{negsuc}
use lib.ListN.{length, get_or}
use lib.Ieee.{Float, fin, Format, binary32, binary64, of_bits}
use lib.Ieee as I
use lib.Ieee.Fits.{and_l, and_r}
use Rattle.integers.specs.Signed.{0Int, ◌⊞◌, ◌⊠◌, ◌≼◌, ◌≺◌, ◌≃◌}
use Rattle.integers.specs.Whole.{Test}
use Rattle.integers.proofs.Tiny.{tiny-is-zero}
use Rattle.model.specs.declared.Vector.{Vector}
use Rattle.model.specs.declared.Pose.{Pose}
use Rattle.model.specs.declared.SimplexVertex.{SimplexVertex}
use Rattle.model.specs.declared.SimplexCache.{SimplexCache}
use Rattle.model.specs.declared.Ending.{Ending}
use Rattle.model.specs.declared.Ending.TheVariants.{Touching, Settled, RoundLimit}
use Rattle.model.specs.declared.Rounds.{Rounds}
use Rattle.model.specs.Ground.{epsilon, origin}
use Rattle.model.specs.Ground as Ground
use Rattle.model.specs.Simplex.{slot, solved, solve}
use Rattle.model.specs.Distance.{cache, all_below, held, blank, vertex, cached, from_cache, start_simplex, start_count, support_a, support_b, ended, touches}
use Rattle.model.specs.Distance.{extended, rounds_from, rounds}
use Rattle.plane.specs.Plane.{Point, dot, total}
use Rattle.exact.specs.Shared.{SharesPoint, NoneNearer}
use Rattle.exact.specs.SquaredPaper.{SquaredPaper, Room, outline_a, posed_b}
use Rattle.exact.proofs.Below.{below1, below2, below3}
use Rattle.exact.proofs.Vectors.{SizedPoint}
use Rattle.exact.proofs.Kept.{Kept, Covered}
use Rattle.exact.proofs.Solved.{places, Stands, Held, one, two, three, Outcome, vertex_left, edge_left, covers, solves}
use Rattle.exact.proofs.Entries.{entries_below}
use Rattle.exact.proofs.Nearest.{pair, covered-shares, no-direction, none-nearer, none-shared}
use Rattle.exact.proofs.Paper.{InDomain, pair-sized, Extreme, supports}

-- the square of EPSILON is a power of two below 1
epsilon-squared : (f : Format) → (k : ℕ) × (I.mul f (epsilon f) (epsilon f) ≡ fin false 1 (negsuc k))
unfolding I.mul of_bits
epsilon-squared binary32 = (45, refl)
epsilon-squared binary64 = (103, refl)

-- what holds of the pair in every slot that counts holds of a pair that was found held
holds-of-held : (F : ℕ → ℕ → Type 0) (s : List SimplexVertex) (n i j : ℕ) → T (held s n i j)
    → ((k : ℕ) → k < n → F (slot s k).index_a (slot s k).index_b) → F i j
unfolding held
holds-of-held F s zero i j h all = absurd h
holds-of-held F s (suc n) i j h all =
    elim (either (held s n i j) (eqb (slot s n).index_a i && eqb (slot s n).index_b j) h)
    [ inl r ↦ holds-of-held F s n i j r (λ k l. all k (le_step l)) | inr r ↦ here r ]
  where
    either : (t r : Bool) → T (t || r) → T t ⊎ T r
    either true r h = inl tt
    either false r h = inr h

    here : T (eqb (slot s n).index_a i && eqb (slot s n).index_b j) → F i j
    here h =
        let x = eqb→eq (slot s n).index_a i (and_l (eqb (slot s n).index_a i) (eqb (slot s n).index_b j) h) in
        let y = eqb→eq (slot s n).index_b j (and_r (eqb (slot s n).index_a i) (eqb (slot s n).index_b j) h) in
        subst (λ (k : ℕ). F k j) x (subst (λ (k : ℕ). F (slot s n).index_a k) y (all n (le_refl (suc n))))

module _ (f : Format) {bound : ℕ} (room : Room f bound) {p : Pose} {a b : List Float} (paper : SquaredPaper bound p a b) (domain : InDomain paper) where
  abbrev na : ℕ
  na = length a / 2

  abbrev nb : ℕ
  nb = length b / 2

  abbrev pub places_of : ℕ → ℕ → Point
  places_of = pair (outline_a paper) (posed_b paper)

  abbrev pub Slots : List SimplexVertex → ℕ → Type 0
  Slots = Held bound na nb places_of

  -- ---- the start
  pub vertex-stands : (i j : ℕ) (x : Float) → i < na → j < nb → Stands bound na nb places_of (vertex f a b p i j x)
  unfolding vertex
  vertex-stands i j x h k = record { in_a = h; in_b = k; whole = pair-sized f room paper domain i j h k }

  -- from a valid cache that is not empty: its count is 1, 2 or 3, and its entries name corners
  from-cache : (n : ℕ) (la lb : List ℕ) → T (ltb 0 n) → T (leb n 3) → ((i : ℕ) → i < n → get_or la i 0 < na) → ((i : ℕ) → i < n → get_or lb i 0 < nb)
      → Slots (cached f a b p (cache 0 n la lb) 0 ∷ cached f a b p (cache 0 n la lb) 1 ∷ cached f a b p (cache 0 n la lb) 2 ∷ []) n
  from-cache zero la lb some few in_a in_b = absurd some
  from-cache (suc zero) la lb some few in_a in_b = one (vertex-stands _ _ _ (in_a 0 (lit< tt)) (in_b 0 (lit< tt)))
  from-cache (suc (suc zero)) la lb some few in_a in_b =
      two (vertex-stands _ _ _ (in_a 0 (lit< tt)) (in_b 0 (lit< tt))) (vertex-stands _ _ _ (in_a 1 (lit< tt)) (in_b 1 (lit< tt)))
  from-cache (suc (suc (suc zero))) la lb some few in_a in_b =
      three (vertex-stands _ _ _ (in_a 0 (lit< tt)) (in_b 0 (lit< tt))) (vertex-stands _ _ _ (in_a 1 (lit< tt)) (in_b 1 (lit< tt)))
      (vertex-stands _ _ _ (in_a 2 (lit< tt)) (in_b 2 (lit< tt)))
  from-cache (suc (suc (suc (suc n)))) la lb some few in_a in_b = absurd (clash (leb→le (suc (suc (suc (suc n)))) 3 few))
    where
      clash : suc (suc (suc (suc n))) ≤ 3 → ⊥
      clash h = omega arith

  pub start-slots : (c : SimplexCache) → Slots (start_simplex f a b p c) (start_count c (length a / 2) (length b / 2))
  unfolding start_simplex
  start-slots c = go (from_cache c (length a / 2) (length b / 2)) (λ h. h)
    where
      n : ℕ
      n = c.count

      valid : T (from_cache c (length a / 2) (length b / 2)) → Slots (cached f a b p c 0 ∷ cached f a b p c 1 ∷ cached f a b p c 2 ∷ []) n
      valid h =
          let ok_a = all_below na c.index_a n in
          let ok_b = all_below nb c.index_b n in
          let rest = and_r (ltb 0 n) (leb n 3 && ok_a && ok_b) h in
          let first = and_l (leb n 3 && ok_a) ok_b rest in
          from-cache n c.index_a c.index_b (and_l (ltb 0 n) (leb n 3 && ok_a && ok_b) h) (and_l (leb n 3) ok_a first)
          (entries_below na c.index_a n (and_r (leb n 3) ok_a first)) (entries_below nb c.index_b n (and_r (leb n 3 && ok_a) ok_b rest))

      go : (t : Bool) → (T t → T (from_cache c (length a / 2) (length b / 2)))
          → Slots (cond t (cached f a b p c 0 ∷ cached f a b p c 1 ∷ cached f a b p c 2 ∷ []) (vertex f a b p 0 0 (Ground.one f) ∷ blank f ∷ blank f ∷ []))
          (cond t n 1)
      go true h = valid (h tt)
      go false h = one (vertex-stands 0 0 _ domain.some_a domain.some_b)

  -- ---- the ends
  -- weights on the slots that count give a nearest place
  pub record Spanned (s : List SimplexVertex) (n : ℕ) : Type 0 where
    pub slots : Slots s n
    pub weight : ℕ → ℕ
    pub some : 0 < total n weight
    pub nearest : NoneNearer (outline_a paper) (posed_b paper) n weight (λ i. (outline_a paper).corner (slot s i).index_a)
        (λ i. (posed_b paper).corner (slot s i).index_b)

  abbrev Shares : Type 0
  Shares = SharesPoint (outline_a paper) (posed_b paper)

  abbrev pub RightEnd : Ending → List SimplexVertex → ℕ → Type 0
  RightEnd Touching s n = Shares
  RightEnd Settled s n = (Shares → ⊥) × Spanned s n
  RightEnd RoundLimit s n = Unit {0}

  abbrev pub Right : Rounds → Type 0
  Right r = RightEnd r.ending r.simplex r.count

  -- ---- one round
  abbrev fresh : Vector → Float → SimplexVertex
  fresh d x = vertex f a b p (support_a f a d) (support_b f b p d) x

  -- the test d dot d < EPSILON * EPSILON passes just where there is no direction
  pub tiny-direction : {d : Vector} {e : Point} → SizedPoint bound d e 16 3
      → Test (I.lt (Ground.dot f d d) (I.mul f (epsilon f) (epsilon f))) ((e.x ≃ 0Int) × (e.y ≃ 0Int)) (0Int ≺ e.x ⊠ e.x ⊞ e.y ⊠ e.y)
  tiny-direction {d} {e} i =
      let (k, is) = epsilon-squared f in
      subst (λ (y : Float). Test (I.lt (Ground.dot f d d) y) ((e.x ≃ 0Int) × (e.y ≃ 0Int)) (0Int ≺ e.x ⊠ e.x ⊞ e.y ⊠ e.y)) (sym is)
      (tiny-is-zero f k d.x d.y e.x e.y i.x.int i.y.int)

  stands : {s : List SimplexVertex} {n : ℕ} → Slots s n → (i : ℕ) → i < n → Stands bound na nb places_of (slot s i)
  stands (one x) = below1 _ x
  stands (two x y) = below2 _ x y
  stands (three x y z) = below3 _ x y z

  shares : {s : List SimplexVertex} {n : ℕ} → Slots s n → Covered n (places bound na nb places_of s) → Shares
  shares {s} {n} h = covered-shares (outline_a paper) (posed_b paper) (λ i. (slot s i).index_a) (λ i. (slot s i).index_b) n (λ i l. (stands h i l).in_a)
      (λ i l. (stands h i l).in_b)

  -- m slots t were kept out of n slots s, with a direction d. Without a direction the outlines share a point; where the pair that d finds was held, the kept slots span a
  -- nearest place, also as u, with the new vertex behind them; otherwise the pair stands for corners, and the next round starts with it
  round-ends : (s : List SimplexVertex) {t : List SimplexVertex} {n m : ℕ} {d : Vector} (e : Point) (u : List SimplexVertex) (next : Rounds) (it : ℕ)
      → SizedPoint bound d e 16 3
      → Kept e m (places bound na nb places_of t) n (places bound na nb places_of s) → Slots t m → (Spanned t m → Spanned u m)
      → (Stands bound na nb places_of (fresh d (slot t m).a) → Right next)
      → Right (cond (I.lt (Ground.dot f d d) (I.mul f (epsilon f) (epsilon f))) (ended Touching t m (origin f) it)
      (cond (held s n (support_a f a d) (support_b f b p d)) (ended Settled u m d (it + 1)) next))
  round-ends s {t} {n} {m} {d} e u next it i K slots behind goes_on =
      go (I.lt (Ground.dot f d d) (I.mul f (epsilon f) (epsilon f))) (tiny-direction i) (held s n (support_a f a d) (support_b f b p d)) (λ h. h)
    where
      found : Extreme f room paper domain e (support_a f a d) (support_b f b p d)
      found = supports f room paper domain i

      level : T (held s n (support_a f a d) (support_b f b p d)) → dot e (places_of (support_a f a d) (support_b f b p d)) ≼ K.level
      level h = holds-of-held (λ k l. dot e (places_of k l) ≼ K.level) s n (support_a f a d) (support_b f b p d) h K.top

      go : (tiny : Bool) → Test tiny ((e.x ≃ 0Int) × (e.y ≃ 0Int)) (0Int ≺ e.x ⊠ e.x ⊞ e.y ⊠ e.y) → (known : Bool)
          → (T known → T (held s n (support_a f a d) (support_b f b p d)))
          → Right (cond tiny (ended Touching t m (origin f) it) (cond known (ended Settled u m d (it + 1)) next))
      go true h known k = shares slots (no-direction (outline_a paper) (posed_b paper) (λ i. (slot t i).index_a) (λ i. (slot t i).index_b) K h.0 h.1)
      go false h true k = (
        none-shared (outline_a paper) (posed_b paper) (λ i. (slot t i).index_a) (λ i. (slot t i).index_b) K _ _ found.furthest_a found.furthest_b
            (level (k tt)) h,
        behind (record {
          slots = slots;
          weight = K.weight;
          some = K.some;
          nearest = none-nearer (outline_a paper) (posed_b paper) (λ i. (slot t i).index_a) (λ i. (slot t i).index_b) K _ _ found.furthest_a
              found.furthest_b (level (k tt));
        }),
      )
      go false h false k = goes_on (vertex-stands _ _ _ found.in_a found.in_b)

  -- ---- all rounds
  pub rounds-right : (k : ℕ) (s : List SimplexVertex) (n : ℕ) (d : Vector) (it : ℕ) → Slots s n → Right (rounds_from f a b p k s n d it)
  unfolding rounds_from
  rounds-right zero s n d it h = tt
  rounds-right (suc k) s n d it h =
      go (solve f s n).simplex (solve f s n).count (solve f s n).direction (solves bound na nb places_of f room h) (λ s n d it h. rounds-right k s n d it h)
    where
      go : (t : List SimplexVertex) (m : ℕ) (d : Vector) → Outcome bound na nb places_of s n t m d
          → ((s : List SimplexVertex) (n : ℕ) (d : Vector) (it : ℕ) → Slots s n → Right (rounds_from f a b p k s n d it))
          → let r = solved t m d in
          Right (cond (touches f r) (ended Touching t m (origin f) it)
          (cond (held s n (support_a f a d) (support_b f b p d)) (ended Settled (extended f a b p r) m d (it + 1))
          (rounds_from f a b p k (extended f a b p r) (m + 1) d (it + 1))))
      go t m d (vertex_left e x i K) ih =
          round-ends s e _ _ it i K (one x) (λ S. record { slots = one x; weight = S.weight; some = S.some; nearest = S.nearest })
          (λ y. ih _ 2 d (it + 1) (two x y))
      go t m d (edge_left e x y i K) ih =
          round-ends s e _ _ it i K (two x y) (λ S. record { slots = two x y; weight = S.weight; some = S.some; nearest = S.nearest })
          (λ z. ih _ 3 d (it + 1) (three x y z))
      go t m d (covers x y z c) ih = shares (three x y z) c

  pub call-right : (c : SimplexCache) → Right (rounds f a b p c)
  call-right c = rounds-right _ (start_simplex f a b p c) (start_count c (length a / 2) (length b / 2)) (origin f) 0 (start-slots c)
