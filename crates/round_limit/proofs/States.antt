-- What is known of a kept vertex or edge, and how many rounds are left from there at most. A round that improves, in which q is found further than what was
-- kept, leads to a state with one less. Assumes nothing.
use mathlib.Core.Path.{◌≡◌}
use mathlib.Core.Logic.{◌⊎◌, inl, inr}
use Prim.Native.Nat.{ℕ, suc, ◌+◌, ◌*◌, ◌^◌, ◌≤◌, ◌<◌}
use native.Mathlib.Omega.{arith}
use Rattle.integers.specs.Signed.{Int, 0Int, of_nat, ◌≼◌, ◌≺◌, ◌≃◌}
use Rattle.integers.proofs.Signed.{le-or-lt, ⊠-comm, ⊠-cong-r}
use Rattle.plane.specs.Plane.{Point, difference, opposite, dot}
use Rattle.exact.specs.Regions.{toward}
use Rattle.round_limit.specs.RoundLimit.{rounds_for}
use Rattle.round_limit.proofs.Potential.{Below, u-pos, descend}
use Rattle.round_limit.proofs.Turning.{Sense, other, turn, ahead, turn-back, round-of}
use Rattle.round_limit.proofs.Between.{Between, Properly, between-back, properly, next-between, next-properly}
use Rattle.round_limit.proofs.Edge.{Edge, edge-back, edge-level, edge-turns, below-edge, below-vertex, toward-ahead, ahead-off-vertex}
use Rattle.round_limit.proofs.Edge.{not-both-behind, vertex-turns, between-off-vertex, between-off-edge}

-- above J a level says nothing
no-level : {J : ℕ} {u w κ : Int} → Below J (suc J) u w κ
no-level {J} = record { holds = λ l. absurd (past l) }
  where
    past : suc J ≤ J → ⊥
    past l = omega arith

below-back : {J g : ℕ} {u w κ κ' : Int} → κ' ≃ κ → Below J g u w κ → Below J g w u κ'
below-back {J} {g} {u} {w} {κ} {κ'} e below = record { holds = λ h. omega (arith, below.holds h, ⊠-comm u w, ⊠-cong-r (of_nat (4 ^ g)) κ' κ e) }

-- ---- the states, by the differences D of the outlines and the number J of quarterings
module _ (D : Point → Type 0) (J : ℕ) where
  -- q was found along d: no difference lies further
  abbrev pub Certified : Point → Point → Type 0
  Certified d q = (r : Point) → D r → 0Int ≼ ahead d q r

  -- a and b were found along da and db, the search direction d lies between, and the potential is at level g
  pub record Pair (g : ℕ) (σ : Sense) (a da b db d : Point) : Type 0 where
    pub found_a : Certified da a
    pub found_b : Certified db b
    pub between : Between σ da d db
    pub below : Below J g (ahead da a b) (ahead db b a) (turn σ da db)

  -- a vertex x is kept, with at most k rounds to go
  pub data AtVertex (k : ℕ) (x : Point) : Type 0 where
    -- nothing is known of it
    free_vertex : rounds_for J ≤ k → AtVertex k x
    -- it was found along da, and lies behind the origin along da
    found_vertex : (da : Point) → J + 4 ≤ k → Certified da x → dot da x ≺ 0Int → AtVertex k x
    -- besides, it is one of a pair, and off it the other one, b, lies no further
    paired_vertex : (g : ℕ) (σ : Sense) (da b db : Point) → g + 2 ≤ k → D b → dot da x ≺ 0Int → 0Int ≼ ahead (opposite x) x b → Pair g σ x da b db (opposite x)
        → AtVertex k x

  -- an edge from x to y is kept, with the direction e across it and at most k rounds to go
  pub data AtEdge (k : ℕ) (e x y : Point) : Type 0 where
    -- nothing is known of it
    free_edge : 2 * J + 6 ≤ k → AtEdge k e x y
    -- y was found along dl, and e lies between x and dl: half a pair, with x in place of the direction along which x was found
    half_edge : (g : ℕ) (σ : Sense) (dl : Point) → J + 4 + g ≤ k → Certified dl y → 0Int ≺ ahead dl y x → Properly σ x e dl
        → Below J g (ahead x x y) (ahead dl y x) (turn σ x dl) → AtEdge k e x y
    -- x and y are a pair
    paired_edge : (g : ℕ) (σ : Sense) (da db : Point) → g + 2 ≤ k → Pair g σ x da y db e → AtEdge k e x y

  pub two-left-at-vertex : {k : ℕ} {x : Point} → AtVertex k x → 2 ≤ k
  two-left-at-vertex (free_vertex h) = omega arith
  two-left-at-vertex (found_vertex da h c low) = omega arith
  two-left-at-vertex (paired_vertex g σ da b db h i low lower pair) = omega arith

  pub two-left-at-edge : {k : ℕ} {e x y : Point} → AtEdge k e x y → 2 ≤ k
  two-left-at-edge (free_edge h) = omega arith
  two-left-at-edge (half_edge g σ dl h c w proper below) = omega arith
  two-left-at-edge (paired_edge g σ da db h pair) = omega arith

  -- a pair seen from its other point
  pair-back : {g : ℕ} {σ : Sense} {a da b db d : Point} → Pair g σ a da b db d → Pair g (other σ) b db a da d
  pair-back {σ = σ} {a} {da} {b} {db} {d} p =
      record { found_a = p.found_b; found_b = p.found_a; between = between-back σ da d db p.between; below = below-back (turn-back σ da db) p.below }

-- ---- rounds, where no triangle of differences has a doubled area of 4 ^ J
module _ (D : Point → Type 0) (J : ℕ)
    (triangles : (σ : Sense) (a b q : Point) → D a → D b → D q → turn σ (difference b a) (difference q a) ≺ of_nat (4 ^ J)) where
  -- q takes b's place in a pair, one level lower
  record Renewed (g : ℕ) (σ : Sense) (a da b q d : Point) : Type 0 where
    level : ℕ
    less : g ≡ suc level
    apart : 0Int ≺ turn σ da d
    ahead-of-b : 0Int ≺ ahead da a b
    pair : {e : Point} → Between σ da e d → Pair D J level σ a da q d e

  renew : {g : ℕ} {σ : Sense} {a da b db d q : Point} → Pair D J g σ a da b db d → D a → D b → D q → Certified D J d q → 0Int ≼ ahead d a b → 0Int ≺ ahead d q a
      → Renewed g σ a da b q d
  renew {g} {σ} {a} {da} {b} {db} {d} {q} p in_a in_b in_q c lower E =
      let A = p.found_a q in_q in
      let C = p.found_b q in_q in
      let proper = properly σ a b q da db d p.between A C lower E in
      let round = round-of σ a b q da db d proper.apart proper.before proper.after E A C lower in
      let (level, less, below) = descend round J (triangles (other σ) a b q in_a in_b in_q) g p.below in
      record {
        level = level;
        less = less;
        apart = proper.after;
        ahead-of-b = u-pos round;
        pair = λ between. record { found_a = p.found_a; found_b = c; between = between; below = below };
      }

  -- ---- a vertex x was kept, and q was found off it
  module _ {k : ℕ} {x q : Point} (in_x : D x) (in_q : D q) (c : Certified D J (opposite x) q) (E : 0Int ≺ ahead (opposite x) q x) where
    -- q alone is kept next
    pub vertex-to-vertex : AtVertex D J (suc k) x → toward q x ≼ 0Int → 0Int ≺ dot q q → AtVertex D J k q
    vertex-to-vertex (free_vertex l) h some = found_vertex (opposite x) (omega arith) c (below-vertex x q h some)
    vertex-to-vertex (found_vertex da l cx low) h some =
        let beyond : 0Int ≼ ahead (opposite q) q x = omega (arith, ahead-off-vertex q x) in
        let (σ, apart) = vertex-turns x da q low (cx q in_q) E in
        let between = between-off-vertex x da q low (cx q in_q) E σ apart beyond in
        paired_vertex (suc J) (other σ) (opposite x) x da (omega arith) in_x (below-vertex x q h some) beyond
        (pair-back D J (record { found_a = cx; found_b = c; between = between; below = no-level }))
    vertex-to-vertex (paired_vertex g σ da b db l in_b low lower p) h some =
        let beyond : 0Int ≼ ahead (opposite q) q x = omega (arith, ahead-off-vertex q x) in
        let r = renew p in_x in_b in_q c lower E in
        let is = r.less in
        let between = between-off-vertex x da q low (p.found_a q in_q) E σ r.apart beyond in
        paired_vertex r.level (other σ) (opposite x) x da (omega arith) in_x (below-vertex x q h some) beyond (pair-back D J (r.pair between))

    -- the edge from x to q is kept next
    pub vertex-to-edge : AtVertex D J (suc k) x → {e : Point} → Edge e x q → AtEdge D J k e x q
    vertex-to-edge (free_vertex l) edge = free_edge (omega arith)
    vertex-to-edge (found_vertex da l cx low) edge =
        let (σ, apart) = vertex-turns x da q low (cx q in_q) E in
        let between = between-off-edge x da q low (cx q in_q) E σ apart edge in
        paired_edge (suc J) σ da (opposite x) (omega arith) (record { found_a = cx; found_b = c; between = between; below = no-level })
    vertex-to-edge (paired_vertex g σ da b db l in_b low lower p) edge =
        let r = renew p in_x in_b in_q c lower E in
        let is = r.less in
        paired_edge r.level σ da (opposite x) (omega arith) (r.pair (between-off-edge x da q low (p.found_a q in_q) E σ r.apart edge))

  -- ---- an edge from x to y was kept, and q was found across it
  module _ {e x y q : Point} (edge : Edge e x y) (in_x : D x) (in_y : D y) (in_q : D q) (c : Certified D J e q) (E : 0Int ≺ ahead e q x) where
    from-y : 0Int ≺ ahead e q y
    from-y = omega (arith, E, edge-level edge)

    -- x stays in the pair of x and y, and q takes y's place; e' is the next direction
    renew-with-x : {g : ℕ} {σ : Sense} {da db : Point} → Pair D J g σ x da y db e → {e' : Point} → 0Int ≼ ahead e' x y → 0Int ≼ ahead e' q x
        → (level : ℕ) × (g ≡ suc level) × Pair D J level σ x da q e e'
    renew-with-x {σ = σ} {da} p {e'} behind beyond =
        let r = renew p in_x in_y in_q c (omega (arith, edge-level edge)) E in
        let between = next-between σ x y q da e e' r.apart (edge-level edge) r.ahead-of-b (p.found_a q in_q) E behind beyond in
        (r.level, r.less, r.pair between)

    -- half a pair goes on where x is not ahead of q the other way round
    renew-half : {g : ℕ} {σ : Sense} {dl : Point} → Certified D J dl y → Properly σ x e dl → Below J g (ahead x x y) (ahead dl y x) (turn σ x dl)
        → 0Int ≼ ahead x x q → (level : ℕ) × (g ≡ suc level) × Below J level (ahead x x q) (ahead e q x) (turn σ x e)
    renew-half {g} {σ} {dl} cy proper below A =
        let lower : 0Int ≼ ahead e x y = omega (arith, edge-level edge) in
        let round = round-of σ x y q x dl e proper.apart proper.before proper.after E A (cy q in_q) lower in
        descend round J (triangles (other σ) x y q in_x in_y in_q) g below

    -- e' is across the edge from x to q: it lies properly between x and e
    half-turn : {σ : Sense} {e' : Point} → 0Int ≺ turn σ x e → Edge e' x q → 0Int ≼ ahead e' x y → 0Int ≺ dot e' e' → Properly σ x e' e
    half-turn {σ} {e'} apart next behind some =
        let u : 0Int ≺ ahead x x y = omega (arith, toward-ahead x y, edge.ahead-of-x) in
        let A : 0Int ≺ ahead x x q = omega (arith, toward-ahead x q, next.ahead-of-x) in
        let level : ahead e' q x ≃ 0Int = omega (arith, edge-level next) in
        next-properly σ x y q x e e' apart (edge-level edge) u (omega arith) E behind (omega arith) level A some

    -- the edge from x to q is kept next, with y behind it
    pub edge-to-edge : {k : ℕ} → AtEdge D J (suc k) e x y → {e' : Point} → Edge e' x q → 0Int ≼ ahead e' x y → 0Int ≺ dot e' e' → AtEdge D J k e' x q
    edge-to-edge (free_edge l) next behind some =
        let (σ, apart) = edge-turns q edge E in
        half_edge (suc J) σ e (omega arith) c E (half-turn apart next behind some) no-level
    edge-to-edge (half_edge g σ dl l cy w proper below) next behind some =
        let (level, less, below') = renew-half cy proper below (omega (arith, toward-ahead x q, next.ahead-of-x)) in
        half_edge level σ e (omega arith) c E (half-turn proper.after next behind some) below'
    edge-to-edge (paired_edge g σ da db l p) next behind some =
        let (level, less, p') = renew-with-x p behind (omega (arith, edge-level next)) in
        paired_edge level σ da e (omega arith) p'

    -- q alone is kept next, and x lies no less far off it than y does: x stays in the pair
    pair-to-vertex : {k g : ℕ} {σ : Sense} {da db : Point} → g + 2 ≤ suc k → Pair D J g σ x da y db e → dot e q ≺ 0Int → toward q x ≼ 0Int
        → 0Int ≼ ahead (opposite q) x y → AtVertex D J k q
    pair-to-vertex {σ = σ} {da} l p low h behind =
        let beyond : 0Int ≼ ahead (opposite q) q x = omega (arith, ahead-off-vertex q x) in
        let (level, less, p') = renew-with-x p behind beyond in
        paired_vertex level (other σ) e x da (omega arith) in_x low beyond (pair-back D J p')

  -- ---- the same with y in place of x
  module _ {e x y q : Point} (edge : Edge e x y) (in_x : D x) (in_y : D y) (in_q : D q) (c : Certified D J e q) (E : 0Int ≺ ahead e q x) where
    -- the edge from y to q is kept next, with x behind it
    pub edge-to-other : {k : ℕ} → AtEdge D J (suc k) e x y → {e' : Point} → Edge e' y q → 0Int ≼ ahead e' y x → 0Int ≺ dot e' e' → AtEdge D J k e' y q
    edge-to-other (free_edge l) next behind some = edge-to-edge (edge-back edge) in_y in_x in_q c (from-y edge in_x in_y in_q c E) (free_edge l) next behind some
    edge-to-other (half_edge g σ dl l cy w proper below) {e'} next behind some =
        let apart : 0Int ≺ turn (other σ) dl e = omega (arith, turn-back σ e dl, proper.before) in
        let flat : ahead e y x ≃ 0Int = omega (arith, edge-level edge) in
        let beyond : 0Int ≼ ahead e' q y = omega (arith, edge-level next) in
        let between = next-between (other σ) y x q dl e e' apart flat w (cy q in_q) (from-y edge in_x in_y in_q c E) behind beyond in
        paired_edge (suc J) (other σ) dl e (omega arith) (record { found_a = cy; found_b = c; between = between; below = no-level })
    edge-to-other (paired_edge g σ da db l p) next behind some =
        edge-to-edge (edge-back edge) in_y in_x in_q c (from-y edge in_x in_y in_q c E) (paired_edge g (other σ) db da l (pair-back D J p)) next behind some

    -- q alone is kept next
    pub edge-to-vertex : {k : ℕ} → AtEdge D J (suc k) e x y → toward q x ≼ 0Int → toward q y ≼ 0Int → 0Int ≺ dot q q → AtVertex D J k q
    edge-to-vertex (free_edge l) h i some = found_vertex e (omega arith) c (below-edge edge q h i some)
    edge-to-vertex (half_edge g σ dl l cy w proper below) h i some =
        let (level, less, _) = renew-half edge in_x in_y in_q c E cy proper below (not-both-behind x q h) in
        found_vertex e (omega arith) c (below-edge edge q h i some)
    edge-to-vertex {k} (paired_edge g σ da db l p) h i some = go (le-or-lt off-x.minus off-x.plus)
      where
        off-x : Int
        off-x = ahead (opposite q) x y

        low : dot e q ≺ 0Int
        low = below-edge edge q h i some

        go : (off-x.minus ≤ off-x.plus) ⊎ (off-x.plus < off-x.minus) → AtVertex D J k q
        go (inl m) = pair-to-vertex edge in_x in_y in_q c E l p low h (omega arith)
        go (inr m) = pair-to-vertex (edge-back edge) in_y in_x in_q c (from-y edge in_x in_y in_q c E) l (pair-back D J p) low i (omega arith)
