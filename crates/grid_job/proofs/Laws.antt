-- From patterns to places. Assumes nothing.
use mathlib.Core.Path.{◌≡◌, refl, sym, ap, subst}
use mathlib.Core.Logic.{◌⊎◌, inl, inr}
use mathlib.Core.Bool.{Bool, true, false, not, true≢false}
use mathlib.Core.List.{List}
use Prim.Native.Nat.{ℕ, ◌+◌, ◌-◌, ◌*◌, ◌/◌, ◌%◌, ◌^◌, ◌≤◌, ◌<◌}
use native.Mathlib.Nat.{mul-le-mul_left, mul-le-mul_right, le_of_lt, le_of_eq, lt_of_lt_of_le}
use native.Mathlib.Omega.{arith}
use lib.Dec.{leb, le→leb}
use lib.Ieee.{Float, binary32, to_bits, nan}
use lib.Ieee.Bits.{is_true}
use lib.Pow.{pow_pos, pow_mono}
use borrow.Author.Tests.{lt-leb}
use lib.ListN.{length, get_or, set}
use lib.Seq.{get_or-set_same, get_or-set_other}
use borrow.Author.Count.{below_more}
use Rattle.integers.specs.Signed.{Int, 0Int, of_nat, neg, ◌⊞◌, ◌⊟◌, ◌⊠◌, ◌≼◌, ◌≺◌, ◌≃◌}
use Rattle.integers.specs.Whole.{Within, signed}
use Rattle.integers.proofs.Signed.{⊠-comm, le-or-lt}
use Rattle.plane.specs.Plane.{dot, difference}
use Rattle.whole_move.proofs.Lengths.{products}
use Rattle.whole_move.proofs.Turns.{square-within}
use Rattle.board.specs.declared.Pair.{Pair}
use Rattle.board.specs.Pairs.{int_of, Is}
use Rattle.board.specs.Pairs as pairs
use Rattle.board.specs.Corners.{place, corner_of}
use Rattle.board.specs.declared.GridBody.{GridBody}
use Rattle.board.specs.declared.GridJob.{GridJob}
use Rattle.board.specs.Board.{CloseTo, BodyFits, StandsForBody}
use Rattle.model.specs.declared.Vector.{Vector}
use Rattle.model.specs.Support.{point}
use Rattle.grid.specs.Units.{negative, field, size, value}
use Rattle.grid.specs.Grid.{unit, scaled, steps, Reaches, Close, Above, Below, Small, Gridded, Three, KeptUp, KeptDown}
use Rattle.grid.proofs.Shifts.{unit-pos}
use Rattle.grid.proofs.Sizes.{reached, wider, size_below}
use Rattle.grid.proofs.Laws.{off, difference-off, scaled-less}
use Rattle.planned.specs.Planned.{worth_of, size_of, place_of, body_of, larger_of}
use Rattle.grid_job.specs.Placing.{Asked, Suits, Limits, Joined, OnBoard, AllCornered, PlacedBody, Steady, Near, NearPair, Between, keep_of, UpTo, AllNear}
use Rattle.grid_job.specs.Placing.{Less, Offset, Span, Turned, Cornered, FractionUp, FractionDown}

-- ---- one pattern more
pub pattern-more : (xs : List Float) (from i best new : ℕ) → UpTo xs from i best → best ≤ new → to_bits binary32 (get_or xs i nan) % 2147483648 ≤ new → UpTo
    xs from (i + 1) new
pattern-more xs from i best new h up l k f m =
    below_more (λ (k : ℕ). from ≤ k → to_bits binary32 (get_or xs k nan) % 2147483648 ≤ new) i (λ k l' f'. omega (arith, h k f' l')) (λ f'. l) k m f

-- all of them below 2^28 on the grid
pub all_near : (xs : List Float) (from to a e : ℕ) → UpTo xs from to a → a ≤ e → e / 8388608 ≤ 154 → AllNear xs from to (154 - e / 8388608)
all_near xs from to a e h l m k f t = reached (to_bits binary32 (get_or xs k nan)) e (omega (arith, h k f t)) m

-- ---- a place
pub record Put (x : Float) (g : ℕ) (X : Int) : Type 0 where
  pub near : Close (scaled (to_bits binary32 x) g) X
  pub small : Small 268435456 X

pub put : (x : Float) (b g : ℕ) (X : Int) → b ≡ to_bits binary32 x → Near x g → Gridded Close b g X → Put x g X
put x b g X e h p =
    let q : Gridded Close (to_bits binary32 x) g X = subst (λ (i : ℕ). Gridded Close i g X) e p in
    let w = wider 268435456 4294967296 (to_bits binary32 x) g (omega arith) h in
    record { near = q.is w; small = q.fits 268435456 w (omega (arith, h.small)) }

pub less-law : (x c : Float) (g : ℕ) (X Y : Int) (r : Pair) → Put x g X → Put c g Y → Is (X ⊟ Y) (X.plus + Y.minus + (X.minus + Y.plus)) r → Less x c g r
less-law x c g X Y r h k is =
    let bx = to_bits binary32 x in
    let bc = to_bits binary32 c in
    let d = difference-off (scaled bx g) X (scaled bc g) Y (int_of r) is.is h.near k.near in
    let s = scaled-less bx bc g in
    let m = ⊠-comm (of_nat (2 ^ g)) (value bx ⊟ value bc) in
    let n = ⊠-comm (of_nat unit) (int_of r) in
    record {
      near = record { upper = omega (arith, d.upper, s, m, n); lower = omega (arith, d.lower, s, m, n) };
      small = omega (arith, is.small, h.small, k.small);
    }

shifted : (r : Pair) (n : ℕ) → n + r.m ≡ 536870912 + r.p → of_nat unit ⊠ record { plus = n; minus = 536870912 } ≃ of_nat unit ⊠ int_of r
unfolding ◌⊠◌
shifted r n e =
    let f = ap (λ (i : ℕ). unit * i) e in
    omega (arith, f)

pub offset-law : (x c : Float) (g : ℕ) (r : Pair) (n : ℕ) → Less x c g r → n + r.m ≡ 536870912 + r.p → Offset x c g n
offset-law x c g r n h e =
    let s = shifted r n e in
    record { near = record { upper = omega (arith, h.near.upper, s); lower = omega (arith, h.near.lower, s) }; small = omega (arith, h.small) }

-- ---- how far a corner lies
span-plain : (a b h : ℕ) → a ≤ b → a ≤ 2 * h → of_nat a ⊠ of_nat a ⊞ of_nat b ⊠ of_nat b ≼ of_nat (b + h) ⊠ of_nat (b + h)
unfolding ◌⊠◌
span-plain a b h l m = omega (arith, mul-le-mul_left a l, mul-le-mul_right b m)

abbrev Apart : (x a : ℕ) → Type 0
Apart x a = (a ≤ 536870912) × (x ≤ 536870912 + a) × (536870912 ≤ x + a)

part-square : (x a : ℕ) → Apart x a → (record { plus = x; minus = 536870912 }) ⊠ (record { plus = x; minus = 536870912 }) ≼ of_nat a ⊠ of_nat a
part-square x a h = square-within (record { plus = x; minus = 536870912 }) (of_nat a) (omega arith) (omega arith)

pub span-law : (x y a b h : ℕ) → Apart x a → Apart y b → a ≤ b → a ≤ 2 * h → b + h ≤ 805306368 → Span x y (b + h)
span-law x y a b h hx hy l m small = record { reach = omega (arith, part-square x a hx, part-square y b hy, span-plain a b h l m); small = small }

-- by the squares themselves
pub near-law : (x y a b r : ℕ) → Apart x a → Apart y b → a * a + b * b ≤ r * r → r ≤ 805306368 → Span x y r
unfolding ◌⊠◌
near-law x y a b r hx hy l small = record { reach = omega (arith, part-square x a hx, part-square y b hy, l); small = small }

pub span-law-turned : (x y a b h : ℕ) → Apart x a → Apart y b → b ≤ a → b ≤ 2 * h → a + h ≤ 805306368 → Span x y (a + h)
span-law-turned x y a b h hx hy l m small = record { reach = omega (arith, part-square x a hx, part-square y b hy, span-plain b a h l m); small = small }

-- ---- one corner more
inside-more : (R T x y : ℕ) → R ≤ T → dot (place x y) (place x y) ≼ of_nat R ⊠ of_nat R → dot (place x y) (place x y) ≼ of_nat T ⊠ of_nat T
inside-more R T x y h l = omega (arith, products (of_nat R) (of_nat R) (of_nat T) (of_nat T) (omega arith) (omega arith) (omega arith) (omega arith))

pub corner-more : (points : List Float) (centre : Vector) (g : ℕ) (xs ys : List ℕ) (i best new x y r : ℕ) → Cornered points centre g xs ys i best → i <
    length xs → i < length ys
    → Offset (point points i).x centre.x g x → Offset (point points i).y centre.y g y → Span x y r → best ≤ new → r ≤ new → new ≤ 805306368
    → Cornered points centre g (set xs i x) (set ys i y) (i + 1) new
corner-more points centre g xs ys i best new x y r h hx hy ox oy sp up up' small = record {
  close = below_more (λ (k : ℕ). CloseTo (2 * unit) (of_nat (2 ^ g)) (difference (place_of (point points k)) (place_of centre)) (of_nat unit) (corner_of (set xs
      i x) (set ys i y) k)) i
      (λ k l. rw (old-x k l, old-y k l) (h.close k l)) (rw (new-x, new-y) (record { x = ox.near; y = oy.near }));
  small-x = below_more (λ (k : ℕ). get_or (set xs i x) k 0 ≤ 1073741824) i (λ k l. rw (old-x k l) (h.small-x k l)) (rw new-x ox.small);
  small-y = below_more (λ (k : ℕ). get_or (set ys i y) k 0 ≤ 1073741824) i (λ k l. rw (old-y k l) (h.small-y k l)) (rw new-y oy.small);
  inside = below_more (λ (k : ℕ). dot (corner_of (set xs i x) (set ys i y) k) (corner_of (set xs i x) (set ys i y) k) ≼ of_nat new ⊠ of_nat new) i
      (λ k l. rw (old-x k l, old-y k l) (inside-more best new (get_or xs k 0) (get_or ys k 0) up (h.inside k l))) (rw (new-x, new-y) (inside-more r new x y
      up' sp.reach));
  small = small;
}
  where
    apart : (k i : ℕ) → k < i → k ≡ i → ⊥
    apart k i l e = omega arith

    old-x : (k : ℕ) → k < i → get_or (set xs i x) k 0 ≡ get_or xs k 0
    old-x k l = get_or-set_other xs i k x 0 (λ e. apart k i l e)

    old-y : (k : ℕ) → k < i → get_or (set ys i y) k 0 ≡ get_or ys k 0
    old-y k l = get_or-set_other ys i k y 0 (λ e. apart k i l e)

    new-x : get_or (set xs i x) i 0 ≡ x
    new-x = get_or-set_same xs i x 0 hx

    new-y : get_or (set ys i y) i 0 ≡ y
    new-y = get_or-set_same ys i y 0 hy

-- ---- numbers that are at most 1
one-reaches : (b : ℕ) → b % 2147483648 ≤ 1065353216 → (Reaches 4294967296 b 30) × (Reaches 4294967296 b 24)
one-reaches b h =
    let r : Reaches 268435456 b 27 = reached b 1065353216 h (omega arith) in
    (record { finite = r.finite; small = omega (arith, r.small) }, record { finite = r.finite; small = omega (arith, r.small) })

unit_size : (b : ℕ) → field b ≡ 127 → b % 8388608 ≡ 0 → size b ≡ unit
unfolding size unit
unit_size b f d = rw (f, d) refl

-- a number that is at most 1 is worth no more
pub size-most : (b : ℕ) → b % 2147483648 ≤ 1065353216 → size b ≤ unit
unfolding unit
size-most b h = go (le-or-lt (field b) 126)
  where
    go : (field b ≤ 126) ⊎ (126 < field b) → size b ≤ unit
    go (inl l) = le_of_lt (lt_of_lt_of_le (size_below b) (pow_mono {j = 149} (omega arith)))
    go (inr l) = le_of_eq (unit_size b (omega arith) (omega arith))

pub turned-small : (b : ℕ) (X : Int) → b % 2147483648 ≤ 1065353216 → Gridded Close b 30 X → X.plus + X.minus ≤ 1073741824
turned-small b X h p = p.fits 1073741824 (one-reaches b h).0 (omega (arith, size-most b h))

pub turned-law : (x : Float) (b : ℕ) (X : Int) → b ≡ to_bits binary32 x → b % 2147483648 ≤ 1065353216 → Gridded Close b 30 X
    → Within unit (of_nat 1073741824 ⊠ worth_of x ⊟ of_nat unit ⊠ X)
turned-law x b X e h p =
    let q : Close (scaled (to_bits binary32 x) 30) X = subst (λ (i : ℕ). Close (scaled i 30) X) e (p.is (one-reaches b h).0) in
    let w = off (scaled (to_bits binary32 x) 30) X 0Int 0Int q in
    let m = ⊠-comm (of_nat 1073741824) (worth_of x) in
    let n = ⊠-comm (of_nat unit) X in
    record { upper = omega (arith, w.upper, m, n); lower = omega (arith, w.lower, m, n) }

-- ---- fractions
below_none : (b : ℕ) → 2147483648 ≤ b → value b ≼ 0Int
below_none b h = subst (λ (s : Bool). signed s (size b) ≼ 0Int) (sym (is_true (leb 2147483648 b) (le→leb 2147483648 b h))) (omega arith)

scaled-none : (z : Int) → z ≼ 0Int → z ⊠ of_nat 16777216 ≼ of_nat 16777216 ⊠ of_nat unit
unfolding ◌⊠◌
scaled-none z h = omega arith

zero-below : (z : Int) → 0Int ≼ z → of_nat 0 ⊠ of_nat unit ≼ z ⊠ of_nat 16777216
unfolding ◌⊠◌
zero-below z h = omega arith

times-unit : (X Y : Int) → X ≼ Y → X ⊠ of_nat unit ≼ Y ⊠ of_nat unit
unfolding ◌⊠◌
times-unit X Y h = omega (arith, mul-le-mul_right unit h)

not-below : (x : Float) (b : ℕ) → b ≡ to_bits binary32 x → b ≤ 1065353216 → 0Int ≼ worth_of x
not-below x b e h = rw (lt-leb 2147483648 (to_bits binary32 x) (omega arith)) (omega arith)

none_above : (z : Int) → 0Int ≼ z → of_nat 0 ⊠ of_nat unit ≺ z ⊠ of_nat 16777216 ⊞ of_nat unit
unfolding ◌⊠◌
none_above z h = omega (arith, unit-pos)

pub whole-fraction : (x : Float) (b : ℕ) → b ≡ to_bits binary32 x → 1065353216 < b → FractionUp x 16777216
whole-fraction x b e h = record {
  small = omega arith;
  least = λ l. scaled-none (worth_of x) (below_none (to_bits binary32 x) (omega arith));
  near = λ l. absurd (omega arith);
}

pub no_fraction : (x : Float) (b : ℕ) → b ≡ to_bits binary32 x → 1065353216 < b → FractionDown x 0
no_fraction x b e big = record { small = omega arith; most = λ l h. zero-below (worth_of x) h; near = λ l. absurd (omega arith) }

pub up-law : (x : Float) (b r : ℕ) (X : Int) → b ≡ to_bits binary32 x → b ≤ 1065353216 → Gridded Above b 24 X → X.plus ≤ X.minus + r → r ≤ X.plus
    → (X.minus ≤ X.plus → X.minus + r ≤ X.plus) → (X.plus ≤ X.minus → r ≡ 0) → FractionUp x r
up-law x b r X e h p l s low none =
    let q : Above (scaled (to_bits binary32 x) 24) X = subst (λ (i : ℕ). Above (scaled i 24) X) e (p.is (one-reaches b (omega arith)).1) in
    record {
      small = omega (arith, p.small);
      least = λ n. omega (arith, q.least, times-unit X (of_nat r) (omega arith));
      near = λ n. go (le-or-lt X.plus X.minus) q;
    }
  where
    go : (X.plus ≤ X.minus) ⊎ (X.minus < X.plus) → Above (scaled (to_bits binary32 x) 24) X → of_nat r ⊠ of_nat unit ≺ worth_of x ⊠ of_nat 16777216 ⊞ of_nat
        unit
    go (inl m) q = subst (λ (i : ℕ). of_nat i ⊠ of_nat unit ≺ worth_of x ⊠ of_nat 16777216 ⊞ of_nat unit) (sym (none m)) (none_above (worth_of x) (not-below x b e
        h))
    go (inr m) q = omega (arith, q.near.under, times-unit (of_nat r) X (omega (arith, low (omega arith))))

pub down-law : (x : Float) (b r : ℕ) (X : Int) → b ≡ to_bits binary32 x → b ≤ 1065353216 → Gridded Below b 24 X → X.plus ≤ X.minus + r → r ≤ X.plus
    → (X.minus ≤ X.plus → X.minus + r ≤ X.plus) → (X.plus ≤ X.minus → r ≡ 0) → FractionDown x r
down-law x b r X e h p l s low none =
    let q : Below (scaled (to_bits binary32 x) 24) X = subst (λ (i : ℕ). Below (scaled i 24) X) e (p.is (one-reaches b (omega arith)).1) in
    record {
      small = omega (arith, p.small);
      most = λ n w. go (le-or-lt X.plus X.minus) q w;
      near = λ n. omega (arith, q.near.over, times-unit X (of_nat r) (omega arith));
    }
  where
    go : (X.plus ≤ X.minus) ⊎ (X.minus < X.plus) → Below (scaled (to_bits binary32 x) 24) X → 0Int ≼ worth_of x → of_nat r ⊠ of_nat unit ≼ worth_of x ⊠
        of_nat 16777216
    go (inl m) q w = subst (λ (i : ℕ). of_nat i ⊠ of_nat unit ≼ worth_of x ⊠ of_nat 16777216) (sym (none m)) (zero-below (worth_of x) w)
    go (inr m) q w = omega (arith, q.most, times-unit (of_nat r) X (omega (arith, low (omega arith))))

-- ---- pairs
pub between-law : (numbers : List Float) (i j g : ℕ) (p q : Vector) (x y : Pair) → p ≡ point numbers i → q ≡ point numbers j → Less q.x p.x g x →
    Less q.y p.y g y
    → Between numbers i j g (record { x = x; y = y })
between-law numbers i j g p q x y ep eq hx hy = record {
  close = subst (λ (v : Vector). CloseTo (2 * unit) (of_nat (2 ^ g)) (difference (place_of (point numbers j)) (place_of v)) (of_nat unit) (record {
    x = int_of
        x;
    y = int_of y;
  })) ep
      (subst (λ (v : Vector). CloseTo (2 * unit) (of_nat (2 ^ g)) (difference (place_of v) (place_of p)) (of_nat unit) (record { x = int_of x; y = int_of y }))
      eq (record { x = hx.near; y = hy.near }));
  small = record { x = hx.small; y = hy.small };
}

-- ---- the distance to keep
larger-up : (s t G r : ℕ) → s * G ≤ r → t * G ≤ r → G * larger_of s t ≤ r
larger-up s t G r h k = go (le-or-lt s t)
  where
    go : (s ≤ t) ⊎ (t < s) → G * larger_of s t ≤ r
    go (inl l) = subst (λ (i : ℕ). G * i ≤ r) (is-second l) (omega arith)
      where
        is-second : s ≤ t → t ≡ larger_of s t
        is-second l = omega arith
    go (inr l) = subst (λ (i : ℕ). G * i ≤ r) (is-first l) (omega arith)
      where
        is-first : t < s → s ≡ larger_of s t
        is-first l = omega arith

larger-down : (s t G r : ℕ) → (r ≤ s * G) ⊎ (r ≤ t * G) → r ≤ G * larger_of s t
larger-down s t G r (inl h) =
    let l : s ≤ larger_of s t = omega arith in
    omega (arith, mul-le-mul_left G l)
larger-down s t G r (inr h) =
    let l : t ≤ larger_of s t = omega arith in
    omega (arith, mul-le-mul_left G l)

module _ (numbers : List Float) (g r s a b : ℕ) (es : s ≡ to_bits binary32 (point numbers 1).y) (ea : a ≡ to_bits binary32 (point numbers 0).x) (eb : b ≡
    to_bits binary32 (point numbers 0).y)
    (radii : NearPair numbers 0 g) (slop : Near (point numbers 1).y g) where
  reaches : (x : Float) (k : ℕ) → k ≡ to_bits binary32 x → Near x g → Reaches 4294967296 k g
  reaches x k e h = subst (λ (i : ℕ). Reaches 4294967296 i g) (sym e) (wider 268435456 4294967296 (to_bits binary32 x) g (omega arith) h)

  three : Three s a b g
  three = record {
    slop = reaches (point numbers 1).y s es slop;
    first = reaches (point numbers 0).x a ea radii.x;
    second = reaches (point numbers
        0).y b eb radii.y;
  }

  near : (x : Float) (k : ℕ) → k ≡ to_bits binary32 x → Near x g → size k * 2 ^ g ≤ 268435456 * unit
  near x k e h = subst (λ (i : ℕ). size i * 2 ^ g ≤ 268435456 * unit) (sym e) (omega (arith, h.small))

  pub keep-up-small : (Three s a b g → KeptUp s a b g r) → r ≤ 805306368
  keep-up-small h = (h three).most 268435456 (near (point numbers 1).y s es slop) (near (point numbers 0).x a ea radii.x) (near (point numbers 0).y b
      eb radii.y)

  pub keep-up-law : (Three s a b g → KeptUp s a b g r) → 2 ^ g * keep_of numbers ≤ r * unit
  keep-up-law h =
      subst (λ (i : ℕ). 2 ^ g * larger_of (size i) (size_of (point numbers 0).x + size_of (point numbers 0).y) ≤ r * unit) es
      (subst (λ (i : ℕ). 2 ^ g * larger_of (size s) (size i + size_of (point numbers 0).y) ≤ r * unit) ea
      (subst (λ (i : ℕ). 2 ^ g * larger_of (size s) (size a + size i) ≤ r * unit) eb
      (larger-up (size s) (size a + size b) (2 ^ g) (r * unit) (h three).slop (h three).radii)))

  pub keep-down-law : (Three s a b g → KeptDown s a b g r) → r * unit ≤ 2 ^ g * keep_of numbers
  keep-down-law h =
      subst (λ (i : ℕ). r * unit ≤ 2 ^ g * larger_of (size i) (size_of (point numbers 0).x + size_of (point numbers 0).y)) es
      (subst (λ (i : ℕ). r * unit ≤ 2 ^ g * larger_of (size s) (size i + size_of (point numbers 0).y)) ea
      (subst (λ (i : ℕ). r * unit ≤ 2 ^ g * larger_of (size s) (size a + size i)) eb
      (larger-down (size s) (size a + size b) (2 ^ g) (r * unit) (h three))))

-- ---- bodies
pub recentred : (points : List Float) (v w : Vector) (g : ℕ) (xs ys : List ℕ) (R : ℕ) → v ≡ w → AllCornered points v g xs ys R → AllCornered points w g xs
    ys R
recentred points v w g xs ys R e h = subst (λ (i : Vector). AllCornered points i g xs ys R) e h

pub body-fits : (points numbers : List Float) (i g : ℕ) (xs ys : List ℕ) (r : GridBody) → PlacedBody points numbers i g xs ys r → pairs.Sized 1073741824
    r.q1 → pairs.Sized 1073741824 r.q2 → BodyFits r xs ys
body-fits points numbers i g xs ys r h first last =
    let k = h.corners.corners in
    record {
      first = first;
      last = last;
      near = k.small;
      corners = record { alike = h.corners.alike; small-x = k.small-x; small-y = k.small-y };
      inside = k.inside;
    }

pub body-stands : (points numbers : List Float) (i g : ℕ) (xs ys : List ℕ) (r : GridBody) → PlacedBody points numbers i g xs ys r → pairs.Sized 1073741824
    r.q1 → pairs.Sized 1073741824 r.q2
    → StandsForBody unit (2 ^ g) r xs ys (body_of points numbers i)
body-stands points numbers i g xs ys r h first last = record {
  count = sym h.corners.count;
  corner = h.corners.corners.close;
  heading1 = record { x = h.first.x.near first.x; y = h.first.y.near first.y };
  heading2 = record { x = h.last.x.near last.x; y = h.last.y.near last.y };
}

pub steady : (points numbers : List Float) (i g : ℕ) (xs ys : List ℕ) (r : GridBody) → PlacedBody points numbers i g xs ys r
    → UpTo numbers (2 * (i + 3)) (2 * (i + 5)) 1065353216 → Steady r
steady points numbers i g xs ys r h u = (
  record {
    x = h.first.x.small (u (2 * (i + 3)) (omega arith) (omega arith));
    y = h.first.y.small (u (2 * (i + 3) + 1) (omega arith) (omega arith));
  },
  record {
    x = h.last.x.small (u (2 * (i + 4)) (omega arith) (omega arith));
    y = h.last.y.small (u (2 * (i + 4) + 1) (omega arith) (omega arith));
  },
)

-- ---- the job
module _ (points_a points_b numbers : List Float) (g : ℕ) (h : Suits points_a points_b numbers g) where
  pub asked-a : (xs ys : List ℕ) → length xs ≡ length points_a / 2 → length ys ≡ length xs → Asked points_a (point numbers 2) g xs ys
  asked-a xs ys count alike = record {
    near = h.a;
    near-x = h.move_a 4 (omega arith) (omega arith);
    near-y = h.move_a 5 (omega arith) (omega arith);
    count = count;
    alike = alike;
  }

  pub asked-b : (xs ys : List ℕ) → length xs ≡ length points_b / 2 → length ys ≡ length xs → Asked points_b (point numbers 7) g xs ys
  asked-b xs ys count alike = record {
    near = h.b;
    near-x = h.move_b 14 (omega arith) (omega arith);
    near-y = h.move_b 15 (omega arith) (omega arith);
    count = count;
    alike = alike;
  }

  pub limits-law : Limits numbers g
  limits-law = record {
    radii = record { x = h.radii 0 (omega arith) (omega arith); y = h.radii 1 (omega arith) (omega arith) };
    slop = h.slop 3 (omega arith) (omega arith);
    start_a = record { x = h.move_a 6 (omega arith) (omega arith); y = h.move_a 7 (omega arith) (omega arith) };
    end_a = record { x = h.move_a 8 (omega arith) (omega arith); y = h.move_a 9 (omega arith) (omega arith) };
    start_b = record { x = h.move_b 16 (omega arith) (omega arith); y = h.move_b 17 (omega arith) (omega arith) };
    end_b = record { x = h.move_b 18 (omega arith) (omega arith); y = h.move_b 19 (omega arith) (omega arith) };
  }

some-finer : (g : ℕ) → 0 < 2 ^ g
some-finer g = pow_pos g

pub on-board : (points_a points_b numbers : List Float) (g : ℕ) (axs ays bxs bys : List ℕ) (a b : GridBody) (job : GridJob)
    → PlacedBody points_a numbers 2 g axs ays a → PlacedBody points_b numbers 7 g bxs bys b → Joined numbers g a b job → OnBoard points_a points_b numbers job
    axs ays bxs bys
on-board points_a points_b numbers g axs ays bxs bys a b job ha hb j = record {
  g = g;
  fits = record {
    body_a = subst (λ (o : GridBody). BodyFits o axs ays) (sym j.is_a) (body-fits points_a numbers 2 g axs ays a ha j.first_a j.last_a);
    body_b = subst (λ (o : GridBody). BodyFits o bxs bys) (sym j.is_b) (body-fits points_b numbers 7 g bxs bys b hb j.first_b j.last_b);
    first = j.centre1.small;
    last = j.centre2.small;
    up_small = j.up_small;
  };
  stands = record {
    some_unit = unit-pos;
    some_finer = some-finer g;
    body_a = subst (λ (o : GridBody). StandsForBody unit (2 ^ g) o axs ays (body_of points_a numbers 2)) (sym j.is_a) (body-stands points_a numbers 2 g axs
        ays a ha j.first_a j.last_a);
    body_b = subst (λ (o : GridBody). StandsForBody unit (2 ^ g) o bxs bys (body_of points_b numbers 7)) (sym j.is_b) (body-stands points_b numbers 7 g bxs
        bys b hb j.first_b j.last_b);
    centre1 = j.centre1.close;
    centre2 = j.centre2.close;
    up = j.up;
    down = j.down;
  };
}
