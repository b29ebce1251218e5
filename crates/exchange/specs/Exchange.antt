-- Either one may be called A. Two outlines have one nearest difference, a point of the plane; a distance call on squared paper that does not end at the
-- round limit tells it. With the outlines exchanged and the inverse pose it is negated and turned; with a shift of B that the pose takes back it stays.
-- Which corners are named is left open: where flat sides face each other, many corners span the same nearest place.
use Rattle.std.specs.Prelude.{◌≡◌, Bool, List, ℕ, ◌/◌, ◌<◌, T, length, get_or, Float, Ok}
use Rattle.std.specs.Float.{Format}
use Rattle.integers.specs.Signed.{0Int, of_nat, neg, ◌⊠◌, ◌≺◌}
use Rattle.integers.specs.Whole.{IsWhole}
use Rattle.model.specs.declared.Pose.{Pose}
use Rattle.model.specs.declared.SimplexCache.{SimplexCache}
use Rattle.model.specs.declared.Ending.{Ending}
use Rattle.model.specs.declared.Ending.TheVariants.{Touching, RoundLimit}
use Rattle.model.specs.declared.ProxyDistanceOutput.{ProxyDistanceOutput}
use Rattle.model.specs.Support.{point}
use Rattle.model.specs.Distance.{cache_is_valid, proxy_distance}
use Rattle.plane.specs.Plane.{Point, sum, difference, opposite, turned, turned_back, total, weighted_sum}
use Rattle.plane.specs.Fraction.{Place, ◌≈◌, ◌≤ᶠ◌, squared}
use Rattle.plane.specs.Outline.{Outline, PointOf, divisor, gap}
use Rattle.exact.specs.SquaredPaper.{IsPoint, SquaredPaper, outline_a, posed_b, IsCache}

-- ---- the nearest difference
module _ (a b : Outline) where
  -- of a point of a and a point of b
  abbrev pub difference_of : PointOf a → PointOf b → Place
  difference_of p q = record { over = gap a b p q; under = divisor a p ⊠ divisor b q }

  -- u is the difference of a point of a and a point of b, and no such difference is shorter
  pub record NearestDifference (u : Place) : Type 0 where
    pub some : 0Int ≺ u.under
    pub p : PointOf a
    pub q : PointOf b
    pub is : u ≈ difference_of p q
    pub least : (p : PointOf a) (q : PointOf b) → squared u ≤ᶠ squared (difference_of p q)

  -- what weights on a cache's counted entries give, put on their corners of a and of b alike
  abbrev pub spanned : SimplexCache → (ℕ → ℕ) → Place
  spanned c weight =
      let on_a = weighted_sum c.count weight (λ i. a.corner (get_or c.index_a i 0)) in
      let on_b = weighted_sum c.count weight (λ i. b.corner (get_or c.index_b i 0)) in
      record { over = difference on_a on_b; under = of_nat (total c.count weight) }

  -- the counted entries name corners, and weights on them give u
  pub record SpannedBy (c : SimplexCache) (u : Place) : Type 0 where
    pub corners : T (cache_is_valid c a.count b.count)
    pub weight : ℕ → ℕ
    pub some : 0 < total c.count weight
    pub is : u ≈ spanned c weight

-- there is only one
abbrev pub OneNearestDifference : Type 0
OneNearestDifference = (a b : Outline) (u v : Place) → NearestDifference a b u → NearestDifference a b v → u ≈ v

abbrev pub origin_place : Place
origin_place = record { over = record { x = 0Int; y = 0Int }; under = of_nat 1 }

-- A call that ends so with the cache c tells the nearest difference u: it touches just where u is the origin, and otherwise its cache's corners span u.
pub record Tells (a b : Outline) (ending : Ending) (c : SimplexCache) (u : Place) : Type 0 where
  pub nearest : NearestDifference a b u
  pub touching_at_origin : ending ≡ Touching → u ≈ origin_place
  pub origin_touches : u ≈ origin_place → ending ≡ Touching
  pub otherwise_spanned : (ending ≡ Touching → ⊥) → SpannedBy a b c u

-- ---- the outlines exchanged
module _ {bound : ℕ} {p : Pose} {a b : List Float} (paper : SquaredPaper bound p a b) where
  -- the inverse pose: the turn transposed, and the shift turned back and negated
  abbrev pub inverse_shift : Point
  inverse_shift = opposite (turned_back paper.cosine paper.sine paper.shift)

  pub record IsInverse (q : Pose) : Type 0 where
    pub cosine : IsWhole q.rotation.c paper.cosine
    pub sine : IsWhole q.rotation.s (neg paper.sine)
    pub shift : IsPoint q.translation inverse_shift

  -- seen from B: its own corners, and those of A under the inverse pose
  abbrev pub own_b : Outline
  own_b = record { count = length b / 2; corner = paper.corner_b }

  abbrev pub posed_a : Outline
  posed_a = record { count = length a / 2; corner = λ i. sum (turned paper.cosine (neg paper.sine) (paper.corner_a i)) inverse_shift }

  -- negated, and turned by the pose
  abbrev pub negated_and_turned : Place → Place
  negated_and_turned u = record { over = opposite (turned paper.cosine paper.sine u.over); under = u.under }

  -- of a call that ends with e and c, and of the exchanged one, with e' and c'
  pub record Exchanged (e e' : Ending) (c c' : SimplexCache) : Type 0 where
    pub touches_too : e ≡ Touching → e' ≡ Touching
    pub touches_back : e' ≡ Touching → e ≡ Touching
    pub theirs : Place
    pub told_there : Tells own_b posed_a e' c' theirs
    pub told_here : Tells (outline_a paper) (posed_b paper) e c (negated_and_turned theirs)

-- of the outlines alone, whatever the calls do
abbrev pub ExchangeTurns : Type 0
ExchangeTurns =
    (bound : ℕ) (p : Pose) (a b : List Float) (paper : SquaredPaper bound p a b) (u : Place)
    → NearestDifference (own_b paper) (posed_a paper) u → NearestDifference (outline_a paper) (posed_b paper) (negated_and_turned paper u)

-- of every two such calls that are answered and do not end at the round limit, whatever their caches
abbrev pub Exchange : Format → ℕ → Type 0
Exchange f bound =
    (p q : Pose) (a : List Float) (ra : Float) (b : List Float) (rb : Float) (radii radii' : Bool) (pair pair' : ℕ) (c c' : SimplexCache)
    (paper : SquaredPaper bound p a b) (o o' : ProxyDistanceOutput) → IsInverse paper q → IsCache c → IsCache c'
    → (proxy_distance f p a ra b rb radii pair c).answer ≡ Ok o → (proxy_distance f q b rb a ra radii' pair' c').answer ≡ Ok o'
    → (o.ending ≡ RoundLimit → ⊥) → (o'.ending ≡ RoundLimit → ⊥)
    → Exchanged paper o.ending o'.ending (proxy_distance f p a ra b rb radii pair c).cache (proxy_distance f q b rb a ra radii' pair' c').cache

-- ---- B shifted
module _ {bound : ℕ} {p : Pose} {a b : List Float} (paper : SquaredPaper bound p a b) (by : Point) where
  -- all of B's points moved, and the same shift, turned by the pose, taken off its translation
  abbrev pub taken_off : Point
  taken_off = difference paper.shift (turned paper.cosine paper.sine by)

  pub record IsShifted (q : Pose) (l : List Float) : Type 0 where
    pub same_length : length l ≡ length b
    pub points : (j : ℕ) → j < length l / 2 → IsPoint (point l j) (sum (paper.corner_b j) by)
    pub cosine : IsWhole q.rotation.c paper.cosine
    pub sine : IsWhole q.rotation.s paper.sine
    pub shift : IsPoint q.translation taken_off

  abbrev pub posed_shifted : List Float → Outline
  posed_shifted l = record { count = length l / 2; corner = λ j. sum (turned paper.cosine paper.sine (sum (paper.corner_b j) by)) taken_off }

  -- one nearest difference, told by both calls
  pub record Alike (l : List Float) (e e' : Ending) (c c' : SimplexCache) : Type 0 where
    pub touches_too : e ≡ Touching → e' ≡ Touching
    pub touches_back : e' ≡ Touching → e ≡ Touching
    pub both : Place
    pub told_here : Tells (outline_a paper) (posed_b paper) e c both
    pub told_there : Tells (outline_a paper) (posed_shifted l) e' c' both

-- of the outlines alone, whatever the calls do
abbrev pub ShiftKeeps : Type 0
ShiftKeeps =
    (bound : ℕ) (p : Pose) (a b : List Float) (paper : SquaredPaper bound p a b) (by : Point) (l : List Float) → length l ≡ length b → (u : Place)
    → (NearestDifference (outline_a paper) (posed_b paper) u → NearestDifference (outline_a paper) (posed_shifted paper by l) u)
    × (NearestDifference (outline_a paper) (posed_shifted paper by l) u → NearestDifference (outline_a paper) (posed_b paper) u)

-- of every two such calls that are answered and do not end at the round limit, whatever their caches
abbrev pub Shift : Format → ℕ → Type 0
Shift f bound =
    (p q : Pose) (a : List Float) (ra : Float) (b l : List Float) (rb : Float) (radii radii' : Bool) (pair pair' : ℕ) (c c' : SimplexCache)
    (paper : SquaredPaper bound p a b) (by : Point) (o o' : ProxyDistanceOutput) → IsShifted paper by q l → IsCache c → IsCache c'
    → (proxy_distance f p a ra b rb radii pair c).answer ≡ Ok o → (proxy_distance f q a ra l rb radii' pair' c').answer ≡ Ok o'
    → (o.ending ≡ RoundLimit → ⊥) → (o'.ending ≡ RoundLimit → ⊥)
    → Alike paper by l o.ending o'.ending (proxy_distance f p a ra b rb radii pair c).cache (proxy_distance f q a ra l rb radii' pair' c').cache
