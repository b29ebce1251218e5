-- The order of f32 numbers is that of what they are worth. Assumes nothing.
use mathlib.Core.Path.{◌≡◌, refl, sym, ap, ◌∙◌, subst}
use mathlib.Core.Bool.{Bool, true, false, not, ◌&&◌, ◌||◌, beq, false≢true}
use mathlib.Core.Logic.{◌⊎◌, inl, inr}
use Prim.Native.Nat.{ℕ, ◌+◌, ◌*◌, ◌^◌, ◌≤◌, ◌<◌}
use native.Mathlib.Nat.{mul-le-mul_right, le_of_mul-le-mul_right, mul_right_comm, mul-pos, mul_assoc, mul_comm}
use native.Mathlib.Omega.{arith}
use lib.Dec.{T, ltb, eqb, ltb→lt, eqb→eq}
use lib.IntN.{ℤ, pos}
use lib.Ieee.{Float, nan, inf, fin, binary32, up, down, below, level, lt, eq, le, fits, of_bits, to_bits, of_fields, odd}
use lib.Ieee.Exact.{HasValue}
use lib.Ieee.Fits.{down_pos}
use lib.Pow.{pow_pos}
use Rattle.integers.specs.Signed.{0Int, ◌≼◌}
use Rattle.integers.specs.Whole.{signed}
use Rattle.grid.specs.Units.{Finite, negative, size}
use Rattle.grid.proofs.Worth.{float-worth}
use Rattle.planned.specs.Planned.{worth_of}

as-T : (b : Bool) → b ≡ true → T b
as-T true e = tt
as-T false e = absurd (false≢true e)

either : (s t : Bool) → (s || t) ≡ true → (s ≡ true) ⊎ (t ≡ true)
either true t e = inl refl
either false t e = inr e

pub both : (s t : Bool) → (s && t) ≡ true → (s ≡ true) × (t ≡ true)
both true t e = (refl, e)
both false t e = absurd (false≢true e)

-- X / U is a / K, Y / U is b / K
module _ (X Y U a b K : ℕ) (K0 : 0 < K) (ex : X * U ≡ a * K) (ey : Y * U ≡ b * K) where
  over : X ≤ Y → a ≤ b
  over h = le_of_mul-le-mul_right {m = a} {n = b} {k = K} (omega (arith, mul-le-mul_right U h, ex, ey)) K0

  back : Y ≤ X → b ≤ a
  back h = le_of_mul-le-mul_right {m = b} {n = a} {k = K} (omega (arith, mul-le-mul_right U h, ex, ey)) K0

  none : X ≡ 0 → a ≤ 0
  none e = le_of_mul-le-mul_right {m = a} {n = 0} {k = K} (omega (arith, ap (λ (x : ℕ). x * U) e, ex)) K0

  below-worth : (s t : Bool) → below s X t Y ≡ true → signed s a ≼ signed t b
  below-worth false false e = omega (arith, over (le_of (ltb→lt X Y (as-T (ltb X Y) e))))
    where
      le_of : X < Y → X ≤ Y
      le_of h = omega arith
  below-worth false true e = absurd (false≢true e)
  below-worth true false e = omega arith
  below-worth true true e = omega (arith, back (le_of (ltb→lt Y X (as-T (ltb Y X) e))))
    where
      le_of : Y < X → Y ≤ X
      le_of h = omega arith

  same : X ≡ Y → (a ≤ b) × (b ≤ a)
  same e = (over (omega arith), back (omega arith))

  level-worth : (s t : Bool) → level s X t Y ≡ true → signed s a ≼ signed t b
  level-worth s t e =
      let h = both (eqb X Y) (beq s t || eqb X 0) e in
      go s t (same (eqb→eq X Y (as-T (eqb X Y) h.0))) h.1
    where
      go : (s t : Bool) → (a ≤ b) × (b ≤ a) → (beq s t || eqb X 0) ≡ true → signed s a ≼ signed t b
      go false false h e = omega (arith, h.0)
      go true true h e = omega (arith, h.1)
      go true false h e = omega arith
      go false true h e = omega (arith, h.0, h.1, none (eqb→eq X 0 (as-T (eqb X 0) e)))

crossed : (A U a De Dd : ℕ) → A * U ≡ a * De → A * Dd * U ≡ a * (De * Dd)
crossed A U a De Dd e = mul_right_comm A Dd U ∙ ap (λ (x : ℕ). x * Dd) e ∙ mul_assoc a De Dd

crossed' : (B U b De Dd : ℕ) → B * U ≡ b * Dd → B * De * U ≡ b * (De * Dd)
crossed' B U b De Dd e = crossed B U b Dd De e ∙ ap (λ (x : ℕ). b * x) (mul_comm Dd De)

pub le-values : (x y : Float) (s t : Bool) (a b U : ℕ) → HasValue x s a U → HasValue y t b U → le x y ≡ true → signed s a ≼ signed t b
unfolding le lt eq
le-values nan y s t a b U v w e = absurd v
le-values (inf p) y s t a b U v w e = absurd v
le-values (fin p m i) nan s t a b U v w e = absurd w
le-values (fin p m i) (inf q) s t a b U v w e = absurd w
le-values (fin p m i) (fin q n j) s t a b U v w e =
    let X = m * up i * down j in
    let Y = n * up j * down i in
    let K = down i * down j in
    let K0 = mul-pos (down_pos i) (down_pos j) in
    let ex = crossed (m * up i) U a (down i) (down j) v.1 in
    let ey = crossed' (n * up j) U b (down i) (down j) w.1 in
    subst (λ (z : Bool). signed z a ≼ signed t b) v.0 (subst (λ (z : Bool). signed p a ≼ signed z b) w.0
    (go X Y K K0 ex ey (either (below p X q Y) (level p X q Y) e)))
  where
    go : (X Y K : ℕ) → 0 < K → X * U ≡ a * K → Y * U ≡ b * K → (below p X q Y ≡ true) ⊎ (level p X q Y ≡ true) → signed p a ≼ signed q b
    go X Y K K0 ex ey (inl h) = below-worth X Y U a b K K0 ex ey p q h
    go X Y K K0 ex ey (inr h) = level-worth X Y U a b K K0 ex ey p q h

-- a number that is neither infinite nor a NaN
pub record Some (x : Float) : Type 0 where
  pub sign : Bool
  pub over : ℕ
  pub under : ℕ
  pub value : HasValue x sign over under

pub le-worth : (x y : Float) → T (fits binary32 x) → T (fits binary32 y) → Some x → Some y → le x y ≡ true → worth_of x ≼ worth_of y
le-worth x y fx fy sx sy e =
    let vx = float-worth x sx.sign sx.over sx.under fx sx.value in
    let vy = float-worth y sy.sign sy.over sy.under fy sy.value in
    le-values x y (negative (to_bits binary32 x)) (negative (to_bits binary32 y)) (size (to_bits binary32 x)) (size (to_bits binary32 y)) (2 ^ 149) vx.1
    vy.1 e

-- what lies between two such numbers is one
pub some-between : (x y z : Float) → Some x → Some z → le x y ≡ true → le y z ≡ true → Some y
unfolding le lt eq
some-between nan y z sx sz e f = absurd sx.value
some-between (inf q) y z sx sz e f = absurd sx.value
some-between (fin q n j) nan z sx sz e f = absurd (false≢true e)
some-between (fin q n j) (inf true) z sx sz e f = absurd (false≢true e)
some-between (fin q n j) (inf false) nan sx sz e f = absurd sz.value
some-between (fin q n j) (inf false) (inf r) sx sz e f = absurd sz.value
some-between (fin q n j) (inf false) (fin r k l) sx sz e f = absurd (false≢true f)
some-between (fin q n j) (fin p m i) z sx sz e f = record { sign = p; over = m * up i; under = down i; value = (refl, refl) }
