-- One correction of a guess at a root by Halley's rule, in whole numbers. For a guess g below the root of n, and e = n - g * g, the rule adds
-- t = 2 g e / (4 g g + e). With u = 2 g - t the remainder of that division says that (t + u) (t + u) t is at most u e, and that this fails for t + 1.
-- From the first, (g + t) (g + t) is at most n; from the second, the root is less than half a unit past g + t + 1. Assumes nothing.
use mathlib.Core.Path.{◌≡◌, refl, sym, ap, ◌∙◌, subst}
use Prim.Native.Nat.{ℕ, ◌+◌, ◌-◌, ◌*◌, ◌/◌, ◌≤◌, ◌<◌}
use native.Mathlib.Nat.{mul-add, add-mul, mul_comm, mul_left_comm, mul-one, two-mul, add_assoc, mul-le-mul}
use native.Mathlib.Nat.{mul-le-mul_left, mul-le-mul_right, div-mul-le_self, div-lt_iff_lt-mul, lt-suc_self}
use native.Mathlib.Numerals.{add-one}
use native.Mathlib.Decide.{dec_le}
use native.Mathlib.Omega.{arith}
use mathlib.Core.Bool.{Bool, true, false, not, cond}
use lib.Dec.{T, leb, leb→le, nleb→lt, lit≤}
use Rattle.root_list.proofs.Rule.{Guess}
use Rattle.model.proofs.Root.Floor.{near_root, sq-suc, sq-two, sq-lt-back, floor-le, near_down, near_up}

-- (t + u)^2 t, multiplied out
cube : (t u : ℕ) → (t + u) * (t + u) * t ≡ t * (t * t) + u * (2 * (t * t) + t * u)
cube t u = simp (mul-add, add-mul, mul_comm, mul_left_comm, two-mul, add_assoc)

not-past : (t u e : ℕ) → 0 < u → (t + u) * (t + u) * t ≤ u * e → 2 * (t * t) + t * u ≤ e
not-past t u e pos h = go (dec_le (2 * (t * t) + t * u) e)
  where
    go : Dec (2 * (t * t) + t * u ≤ e) → 2 * (t * t) + t * u ≤ e
    go (yes l) = l
    go (no f) =
        let x : e + 1 ≤ 2 * (t * t) + t * u = omega arith in
        let y : u * (e + 1) ≤ u * (2 * (t * t) + t * u) = mul-le-mul_left u x in
        let a : u * (e + 1) ≡ u * e + u = mul-add u e 1 ∙ ap (λ (x : ℕ). u * e + x) (mul-one u) in
        let c = cube t u in
        omega arith

not_short : (t u e g : ℕ) → u * e < (t + u) * (t + u) * t → t * (t * t) ≤ u * g → e ≤ 2 * (t * t) + t * u + g
not_short t u e g h far = go (dec_le e (2 * (t * t) + t * u + g))
  where
    go : Dec (e ≤ 2 * (t * t) + t * u + g) → e ≤ 2 * (t * t) + t * u + g
    go (yes l) = l
    go (no f) =
        let x : 2 * (t * t) + t * u + g ≤ e = omega arith in
        let y : u * (2 * (t * t) + t * u + g) ≤ u * e = mul-le-mul_left u x in
        let a : u * (2 * (t * t) + t * u + g) ≡ u * (2 * (t * t) + t * u) + u * g = mul-add u (2 * (t * t) + t * u) g in
        let c = cube t u in
        omega arith

-- the remainder of the division, in t and u
turned : (g t u e : ℕ) → t + u ≡ 2 * g → t * (4 * (g * g) + e) + u * e ≡ 2 * g * e + (t + u) * (t + u) * t
turned g t u e h =
    let a : t * (4 * (g * g) + e) ≡ 4 * (g * g) * t + t * e = mul-add t (4 * (g * g)) e ∙ ap (λ (x : ℕ). x + t * e) (mul_comm t (4 * (g * g))) in
    let b : 2 * g * e ≡ t * e + u * e = ap (λ (x : ℕ). x * e) (sym h) ∙ add-mul t u e in
    let c : (t + u) * (t + u) * t ≡ 4 * (g * g) * t = ap (λ (x : ℕ). x * x * t) h ∙ ap (λ (x : ℕ). x * t) (sq-two g) in
    omega arith

-- the square of the corrected guess
grown : (g t u : ℕ) → t + u ≡ 2 * g → (g + t) * (g + t) ≡ g * g + (2 * (t * t) + t * u)
grown g t u h =
    let a : (g + t) * (g + t) ≡ g * g + t * (2 * g) + t * t = simp (mul-add, add-mul, mul_comm, two-mul, add_assoc) in
    let b : t * (2 * g) ≡ t * t + t * u = ap (λ (x : ℕ). t * x) (sym h) ∙ mul-add t t u in
    omega arith

-- ---- from the stored guess: g is the entry of n / 2 ^ 38
module _ (n g : ℕ) (lo : 70368744177664 ≤ n) (hi : n < 281474976710656)
    (gl : g * g ≤ n / 274877906944 * 274877906944) (gh : n / 274877906944 * 274877906944 < (g + 1) * (g + 1)) where
  under : g * g ≤ n
  under = omega arith

  left : n - g * g ≤ 274877906944 + 2 * g
  left = let q = sq-suc g in omega arith

  g-ge : 8388608 ≤ g
  g-ge = floor-le 70368744177664 8388608 g (lit≤ tt) (omega arith)

  g-lt : g < 16777216
  g-lt = sq-lt-back g 16777216 (omega arith)

  product : 2 * g * (n - g * g) ≤ 9224497936761618432
  product =
      let a : 2 * g ≤ 33554432 = let l = g-lt in omega arith in
      let b : n - g * g ≤ 274911461376 = let x = left in let l = g-lt in omega arith in
      let c : 2 * g * (n - g * g) ≤ 33554432 * 274911461376 = mul-le-mul a b in
      omega arith

  abbrev e : ℕ
  e = n - g * g

  abbrev t : ℕ
  t = 2 * g * (n - g * g) / (3 * (g * g) + n)

  same : 3 * (g * g) + n ≡ 4 * (g * g) + e
  same = let u = under in omega arith

  -- what the division leaves
  low : t * (4 * (g * g) + e) ≤ 2 * g * e
  low = subst (λ (x : ℕ). t * x ≤ 2 * g * e) same (div-mul-le_self (2 * g * e) (3 * (g * g) + n))

  high : 2 * g * e < (t + 1) * (4 * (g * g) + e)
  high =
      subst (λ (x : ℕ). 2 * g * e < (t + 1) * x) same
      (subst (λ (x : ℕ). 2 * g * e < x * (3 * (g * g) + n)) (sym (add-one t)) ((div-lt_iff_lt-mul (omega arith)).0 (lt-suc_self t)))

  small : t ≤ 32766
  small = go (dec_le t 32766)
    where
      go : Dec (t ≤ 32766) → t ≤ 32766
      go (yes l) = l
      go (no f) =
          let a : 32767 * (4 * (g * g) + e) ≤ t * (4 * (g * g) + e) = mul-le-mul_right (4 * (g * g) + e) (omega arith) in
          let b : 2 * g * e ≤ 2 * g * (274877906944 + 2 * g) = mul-le-mul_left (2 * g) left in
          let c : 2 * g * (274877906944 + 2 * g) ≡ 2 * g * 274877906944 + 2 * g * (2 * g) = mul-add (2 * g) 274877906944 (2 * g) in
          let q : 2 * g * (2 * g) ≡ 4 * (g * g) = sq-two g in
          let d : 8388608 * g ≤ g * g = mul-le-mul_right g g-ge in
          let x = low in
          let y = g-ge in
          omega arith

  -- the corrected guess
  abbrev pub corrected : ℕ
  corrected = g + t

  pub at_most : corrected * corrected ≤ n
  at_most =
      let l = small in
      let b = g-ge in
      let v = under in
      let u = 2 * g - t in
      let h : t + u ≡ 2 * g = omega arith in
      let q = turned g t u e h in
      let r = low in
      let w : 2 * (t * t) + t * u ≤ e = not-past t u e (omega arith) (omega arith) in
      let z = grown g t u h in
      omega arith

  pub near_by : n ≤ (corrected + 1) * (corrected + 1) + (corrected + 1)
  near_by =
      let l = small in
      let b = g-ge in
      let v = under in
      let k = t + 1 in
      let u = 2 * g - k in
      let h : k + u ≡ 2 * g = omega arith in
      let q = turned g k u e h in
      let r = high in
      let kl : k ≤ 32767 = omega arith in
      let kk : k * k ≤ 32767 * 32767 = mul-le-mul kl kl in
      let kkk : k * (k * k) ≤ 32767 * (32767 * 32767) = mul-le-mul kl kk in
      let ul : 8388608 ≤ u = omega arith in
      let ug : 8388608 * 8388608 ≤ u * g = mul-le-mul ul b in
      let w : e ≤ 2 * (k * k) + k * u + g = not_short k u e g (omega arith) (omega arith) in
      let z = grown g k u h in
      let y : g + k ≡ g + t + 1 = omega arith in
      let x : (g + k) * (g + k) ≡ (corrected + 1) * (corrected + 1) = ap (λ (m : ℕ). m * m) y in
      omega arith

-- ---- rounded
pub rounds-down : (n s : ℕ) → s * s ≤ n → n ≤ s * s + s → near_root n ≡ s
rounds-down n s lo hi = let q = sq-suc s in near_down n s (lo, omega arith) hi

pub rounds-up : (n s : ℕ) → s * s ≤ n → n ≤ (s + 1) * (s + 1) + (s + 1) → s * s + s < n → near_root n ≡ s + 1
rounds-up n s lo hi h = go (dec_le ((s + 1) * (s + 1)) n)
  where
    go : Dec ((s + 1) * (s + 1) ≤ n) → near_root n ≡ s + 1
    go (yes l) = rounds-down n (s + 1) l hi
    go (no f) = near_up n s (lo, omega arith) h

-- ---- all of it, for the code

-- s is the root of n, cut to a whole number, or less by no more than leaves s + 1 the nearest
pub record Corrected (n s : ℕ) : Type 0 where
  pub s-most : s < 16777216
  pub s-under : s * s ≤ n
  pub s-near : n ≤ (s + 1) * (s + 1) + (s + 1)

pub record Guessed (n g : ℕ) : Type 0 where
  pub g-least : 8388608 ≤ g
  pub g-most : g < 16777216
  pub g-under : g * g ≤ n
  pub fits : 2 * g * (n - g * g) ≤ 9224497936761618432
  pub corrects : Corrected n (g + 2 * g * (n - g * g) / (3 * (g * g) + n))

-- from any entry that meets the rule of the list
pub guessed : (n g : ℕ) → 70368744177664 ≤ n → n < 281474976710656 → Guess (n / 274877906944) g → Guessed n g
guessed n g lo hi (gl, gh) =
    record {
      g-least = g-ge n g lo hi gl gh;
      g-most = g-lt n g lo hi gl gh;
      g-under = under n g lo hi gl gh;
      fits = product n g lo hi gl gh;
      corrects = record {
        s-most = let a = at_most n g lo hi gl gh in sq-lt-back (corrected n g lo hi gl gh) 16777216 (omega arith);
        s-under = at_most n g lo hi gl gh;
        s-near = near_by n g lo hi gl gh;
      };
    }

-- s or s + 1, by the last test
abbrev pub rounded : ℕ → ℕ → ℕ
rounded n s = cond (leb n (s * s + s)) s (s + 1)

settles : (n s : ℕ) → Corrected n s → near_root n ≡ rounded n s
settles n s c = go (leb n (s * s + s)) refl
  where
    go : (b : Bool) → leb n (s * s + s) ≡ b → near_root n ≡ cond b s (s + 1)
    go true e = rounds-down n s c.s-under (leb→le n (s * s + s) (subst T (sym e) tt))
    go false e = rounds-up n s c.s-under c.s-near (nleb→lt n (s * s + s) (subst (λ (b : Bool). T (not b)) (sym e) tt))

-- from any entry that meets the rule of the list, the correction and the last test give the whole number nearest to the root
pub nearest-from-guess : (n g : ℕ) → 70368744177664 ≤ n → n < 281474976710656 → Guess (n / 274877906944) g
    → near_root n ≡ rounded n (g + 2 * g * (n - g * g) / (3 * (g * g) + n))
nearest-from-guess n g lo hi h = settles n _ (guessed n g lo hi h).corrects
