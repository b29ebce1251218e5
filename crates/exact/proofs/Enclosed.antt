-- Where all six tests of the three-vertex solver fail, the origin lies inside: on each vertex's side of the edge opposite to it.
-- An edge's test fails where the origin lies on the third vertex's side of the edge, or past one of its ends. Past an end it lies on the third vertex's side if it does
-- so at the other edge of that end. So each edge is answered by itself or waits for a neighbour. Two edges cannot wait for each other: the origin would be ahead of
-- their common vertex, and not ahead of it, on one and the same way. Nor can three wait in a circle: the six places along the edges have equal sums either way round.
-- Assumes nothing.
use mathlib.Core.Path.{sym}
use mathlib.Core.Logic.{◌⊎◌, inl, inr}
use Prim.Native.Nat.{◌≤◌, ◌<◌}
use native.Mathlib.Omega.{arith}
use Rattle.integers.specs.Signed.{Int, 0Int, neg, ◌⊞◌, ◌⊟◌, ◌⊠◌, ◌≼◌, ◌≺◌, ◌≃◌}
use Rattle.integers.specs.Polynomial.{◌:+◌, ◌:-◌, ◌:*◌}
use Rattle.integers.proofs.Signed.{⊠-comm, ⊠-neg, ⊠-nonneg, ⊠-pos, ⊠-pos-back, ⊠-square, le-or-lt}
use Rattle.integers.proofs.Ring.{ring}
use Rattle.model.specs.Simplex.{inside}
use Rattle.plane.specs.Plane.{Point, difference, dot, perp}
use Rattle.exact.specs.Regions.{toward, across, Lies3}
use Rattle.exact.proofs.Sketch.{differenceᴱ, dotᴱ, perpᴱ, towardᴱ, acrossᴱ, P, Q, R, parts}

-- ---- a corner with the sides to w and h: x and y are the places along them, A and B the weights of w and h; T is the square of the side to h,
-- g the sides' dot and N the square of their perp
corner : (T N g x y A B : Int) → 0Int ≼ T → 0Int ≼ N → A ≃ T ⊠ x ⊟ g ⊠ y → T ⊠ B ≃ N ⊠ y ⊟ g ⊠ A → x ≼ 0Int → 0Int ≺ y → 0Int ≺ A → 0Int ≺ B
corner T N g x y A B t n i j hx hy h_a = go (le-or-lt g.minus g.plus)
  where
    go : (g.minus ≤ g.plus) ⊎ (g.plus < g.minus) → 0Int ≺ B
    go (inl h) = absurd (clash (⊠-nonneg T (neg x) t (omega arith)) (⊠-neg T x) (⊠-nonneg g y (omega arith) (omega arith)))
      where
        clash : 0Int ≼ T ⊠ neg x → T ⊠ neg x ≃ neg (T ⊠ x) → 0Int ≼ g ⊠ y → ⊥
        clash a b c = omega arith
    go (inr h) = ⊠-pos-back T B t (omega (arith, ⊠-nonneg N y n (omega arith), ⊠-pos A (neg g) h_a (omega arith), ⊠-neg A g, ⊠-comm A g))

pub across-swap : (u w h : Point) → across u w h ≃ across w u h
across-swap u w h = ring (acrossᴱ P Q R) (acrossᴱ Q P R) (parts u w h) tt

-- behind u on the way to w, ahead of it on the way to h, and on w's side of the edge to h: then on h's side of the edge to w
past_end : (u w h : Point) → toward u w ≼ 0Int → 0Int ≺ toward u h → 0Int ≺ across h u w → 0Int ≺ across u w h
past_end u w h =
    let ρ = parts u w h in
    let uw = differenceᴱ Q P in
    let uh = differenceᴱ R P in
    let e = difference h u in
    let g = dotᴱ uw uh in
    let N = perpᴱ uw uh :* perpᴱ uw uh in
    corner (dot e e) (perp (difference w u) e ⊠ perp (difference w u) e) (dot (difference w u) e) (toward u w) (toward u h) (across h u w) (across u w h)
    (omega (arith, ⊠-square e.x, ⊠-square e.y)) (⊠-square (perp (difference w u) e))
    (ring (acrossᴱ R P Q) (dotᴱ uh uh :* towardᴱ P Q :- g :* towardᴱ P R) ρ tt)
    (ring (dotᴱ uh uh :* acrossᴱ P Q R) (N :* towardᴱ P R :- g :* acrossᴱ R P Q) ρ tt)

past-end-mirrored : (u w h : Point) → toward u h ≼ 0Int → 0Int ≺ toward u w → 0Int ≺ across u w h → 0Int ≺ across h u w
past-end-mirrored u w h i j k = omega (arith, past_end u h w i j (omega (arith, across-swap u w h)), across-swap u h w)

-- ---- an edge: on the third vertex's side, or past its first end and so there if at the first end's other edge, or the same at its second end
data Edge (Own First Second : Type 0) (PastFirst PastSecond : Type 0) : Type 0 where
  own : Own → Edge Own First Second PastFirst PastSecond
  first : PastFirst → (First → Own) → Edge Own First Second PastFirst PastSecond
  second : PastSecond → (Second → Own) → Edge Own First Second PastFirst PastSecond

-- past u on the way to w, and ahead of u on the way to h
abbrev Past : Point → Point → Point → Type 0
Past u w h = (toward u w ≼ 0Int) × (0Int ≺ toward u h)

clash : (u : Int) → u ≼ 0Int → 0Int ≺ u → ⊥
clash u h k = omega arith

-- an edge's test that failed
abbrev Failed : Point → Point → Int → Type 0
Failed u w side = (toward w u ≼ 0Int) ⊎ ((toward u w ≼ 0Int) ⊎ (0Int ≺ side))

-- a vertex's test that failed
abbrev Ahead : Point → Point → Point → Type 0
Ahead u w h = (0Int ≺ toward u w) ⊎ (0Int ≺ toward u h)

other : (u w h : Point) → toward u w ≼ 0Int → Ahead u w h → 0Int ≺ toward u h
other u w h i (inl k) = absurd (clash (toward u w) i k)
other u w h i (inr k) = k

flipped : (u w h : Point) → Ahead u w h → Ahead u h w
flipped u w h (inl k) = inr k
flipped u w h (inr k) = inl k

module _ (u w h : Point) where
  abbrev side_u : Type 0
  side_u = 0Int ≺ across w h u

  abbrev side_w : Type 0
  side_w = 0Int ≺ across h u w

  abbrev side_h : Type 0
  side_h = 0Int ≺ across u w h

  abbrev EdgeUW : Type 0
  EdgeUW = Edge side_h side_w side_u (Past u w h) (Past w u h)

  abbrev EdgeUH : Type 0
  EdgeUH = Edge side_w side_h side_u (Past u h w) (Past h u w)

  abbrev EdgeWH : Type 0
  EdgeWH = Edge side_u side_h side_w (Past w h u) (Past h w u)

  -- the sums either way round, and what they rule out
  circle : toward u w ⊞ toward h u ⊞ toward w h ≃ toward w u ⊞ toward u h ⊞ toward h w
  circle = ring (towardᴱ P Q :+ towardᴱ R P :+ towardᴱ Q R) (towardᴱ Q P :+ towardᴱ P R :+ towardᴱ R Q) (parts u w h) tt

  no-circle : (a b c a' b' c' : Int) → a ⊞ b ⊞ c ≃ a' ⊞ b' ⊞ c' → a ≼ 0Int → b ≼ 0Int → c ≼ 0Int → 0Int ≺ a' → 0Int ≺ b' → 0Int ≺ c' → ⊥
  no-circle a b c a' b' c' e i j k i' j' k' = omega arith

  all-answered : EdgeUW → EdgeUH → EdgeWH → Lies3 u w h inside
  all-answered (own uw) (own uh) (own wh) = (wh, uh, uw)
  all-answered (own uw) (own uh) (first p f) = (f uw, uh, uw)
  all-answered (own uw) (own uh) (second p f) = (f uh, uh, uw)
  all-answered (own uw) (first p f) (own wh) = (wh, f uw, uw)
  all-answered (own uw) (first p f) (first q g) = (g uw, f uw, uw)
  all-answered (own uw) (first p f) (second q g) = (g (f uw), f uw, uw)
  all-answered (own uw) (second p f) (own wh) = (wh, f wh, uw)
  all-answered (own uw) (second p f) (first q g) = (g uw, f (g uw), uw)
  all-answered (own uw) (second p f) (second q g) = absurd (clash (toward h u) p.0 q.1)
  all-answered (first p f) (own uh) (own wh) = (wh, uh, f uh)
  all-answered (first p f) (own uh) (first q g) = (g (f uh), uh, f uh)
  all-answered (first p f) (own uh) (second q g) = (g uh, uh, f uh)
  all-answered (first p f) (first q g) e = absurd (clash (toward u w) p.0 q.1)
  all-answered (first p f) (second q g) (own wh) = (wh, g wh, f (g wh))
  all-answered (first p f) (second q g) (first r k) =
      absurd (no-circle (toward u w) (toward h u) (toward w h) (toward w u) (toward u h) (toward h w) circle p.0 q.0 r.0 r.1 p.1 q.1)
  all-answered (first p f) (second q g) (second r k) = absurd (clash (toward h u) q.0 r.1)
  all-answered (second p f) (own uh) (own wh) = (wh, uh, f wh)
  all-answered (second p f) (own uh) (first q g) = absurd (clash (toward w u) p.0 q.1)
  all-answered (second p f) (own uh) (second q g) = (g uh, uh, f (g uh))
  all-answered (second p f) (first q g) (own wh) = (wh, g (f wh), f wh)
  all-answered (second p f) (first q g) (first r k) = absurd (clash (toward w u) p.0 r.1)
  all-answered (second p f) (first q g) (second r k) =
      absurd (no-circle (toward w u) (toward u h) (toward h w) (toward u w) (toward h u) (toward w h) (sym circle) p.0 q.0 r.0 q.1 r.1 p.1)
  all-answered (second p f) (second q g) (own wh) = (wh, g wh, f wh)
  all-answered (second p f) (second q g) (first r k) = absurd (clash (toward w u) p.0 r.1)
  all-answered (second p f) (second q g) (second r k) = absurd (clash (toward h u) q.0 r.1)

  -- every test failed
  pub enclosed : Ahead u w h → Failed u w (across u w h) → Failed u h (across h u w) → Ahead w u h → Ahead h u w → Failed w h (across w h u)
      → Lies3 u w h inside
  enclosed at_u on_uw on_uh at_w at_h on_wh = all-answered (edge_uw on_uw) (edge_uh on_uh) (edge_wh on_wh)
    where
      edge_uw : Failed u w (across u w h) → EdgeUW
      edge_uw (inl i) = let j = other w u h i at_w in second (i, j) (past-end-mirrored w h u i j)
      edge_uw (inr (inl i)) = let j = other u w h i at_u in first (i, j) (past_end u w h i j)
      edge_uw (inr (inr i)) = own i

      edge_uh : Failed u h (across h u w) → EdgeUH
      edge_uh (inl i) = let j = other h u w i at_h in second (i, j) (past_end h u w i j)
      edge_uh (inr (inl i)) = let j = other u h w i (flipped u w h at_u) in first (i, j) (past-end-mirrored u w h i j)
      edge_uh (inr (inr i)) = own i

      edge_wh : Failed w h (across w h u) → EdgeWH
      edge_wh (inl i) = let j = other h w u i (flipped h u w at_h) in second (i, j) (past-end-mirrored h u w i j)
      edge_wh (inr (inl i)) = let j = other w h u i (flipped w u h at_w) in first (i, j) (past_end w h u i j)
      edge_wh (inr (inr i)) = own i
