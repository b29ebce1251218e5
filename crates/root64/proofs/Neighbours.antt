-- The whole number nearest to a root, told by its neighbours' products: which of the three behind t it is. And a product in two words, by the halves of
-- its factors. Assumes nothing.
use Rattle.std.proofs.Common.{◌≡◌, ℕ, zero, suc, ◌+◌, ◌*◌, ◌/◌, ◌%◌, ◌<◌, ◌≤◌, sym, ap, ◌∙◌, subst, mul_assoc, add-mul, mul-le-mul, lt_of_not-le, div-add-mod', mul-one, mul-add, mul_right_comm, add-one, arith}
use native.Mathlib.Nat.{mul-mul-mul_comm}
use native.Mathlib.Decide.{dec_le}
use Rattle.model.proofs.Root.Floor.{near_root, sq-suc, near_down, near_up}

-- ---- r is nearest to the root of n where n lies past r * (r - 1) and not past r * (r + 1)
one_less : (n s : ℕ) → (s + 1) * (s + 1) < n + (s + 1) → n < (s + 1) * (s + 1) → near_root n ≡ s + 1
one_less n s lo hi = let q = sq-suc s in near_up n s (omega arith, hi) (omega arith)

pub near-is : (n r : ℕ) → r * r < n + r → n ≤ r * r + r → near_root n ≡ r
near-is n r lo hi = go (dec_le (r * r) n)
  where
    under : (r : ℕ) → r * r < n + r → n < r * r → near_root n ≡ r
    under zero l h = absurd (omega arith)
    under (suc s) l h =
        subst (λ (x : ℕ). x * x < n + x → n < x * x → near_root n ≡ x) (add-one s) (one_less n s) l h

    go : Dec (r * r ≤ n) → near_root n ≡ r
    go (yes l) = let q = sq-suc r in near_down n r (l, omega arith) hi
    go (no f) = under r lo (omega arith)

-- ---- a product by halves
halves : (a b c d : ℕ) → (a + b) * (c + d) ≡ a * c + a * d + b * c + b * d
halves a b c d =
    let x = add-mul a b (c + d) in
    let y = mul-add a c d in
    let z = mul-add b c d in
    omega arith

abbrev pub h : ℕ → ℕ
h x = x / 4294967296

abbrev pub l : ℕ → ℕ
l x = x % 4294967296

pub by-halves : (x y : ℕ) → x * y ≡ h x * h y * 18446744073709551616 + (h x * l y + l x * h y) * 4294967296 + l x * l y
by-halves x y =
    let e : h x * 4294967296 + l x ≡ x = div-add-mod' x 4294967296 in
    let f : h y * 4294967296 + l y ≡ y = div-add-mod' y 4294967296 in
    let p : x * y ≡ (h x * 4294967296 + l x) * (h y * 4294967296 + l y) =
    ap (λ (z : ℕ). z * y) (sym e) ∙ ap (λ (z : ℕ). (h x * 4294967296 + l x) * z) (sym f) in
    let q = halves (h x * 4294967296) (l x) (h y * 4294967296) (l y) in
    let a : h x * 4294967296 * (h y * 4294967296) ≡ h x * h y * 18446744073709551616 = mul-mul-mul_comm (h x) 4294967296 (h y) 4294967296 in
    let b : h x * 4294967296 * l y ≡ h x * l y * 4294967296 = mul_right_comm (h x) 4294967296 (l y) in
    let c : l x * (h y * 4294967296) ≡ l x * h y * 4294967296 = sym (mul_assoc (l x) (h y) 4294967296) in
    omega arith

pub products-fit : (x y : ℕ) → x ≤ 18014398509481984 → y ≤ 18014398509481984 →
    (h x * h y ≤ 17592186044416) × (h x * l y ≤ 18014398505287680) × (l x * h y ≤ 18014398505287680) × (l x * l y ≤ 18446744065119617025)
products-fit x y p q =
    let a : h x ≤ 4194304 = omega arith in
    let b : h y ≤ 4194304 = omega arith in
    let c : l x ≤ 4294967295 = omega arith in
    let d : l y ≤ 4294967295 = omega arith in
    let e = mul-le-mul a b in
    let f = mul-le-mul a d in
    let g = mul-le-mul c b in
    let i = mul-le-mul c d in
    (omega arith, omega arith, omega arith, omega arith)

-- a half of a sum, and what fits behind it
half : (b e : ℕ) → b ≤ 18014398505287680 → e ≤ 4294967295 → (b + e) / 4294967296 ≤ 4194305
half b e f g = omega arith

rest : (b : ℕ) → b % 4294967296 ≤ 4294967295
rest b = omega arith

top : (d : ℕ) → d ≤ 18446744065119617025 → d / 4294967296 ≤ 4294967295
top d h = omega arith

pub upper_fits : (a b c d : ℕ) → a ≤ 17592186044416 → b ≤ 18014398505287680 → c ≤ 18014398505287680 → d ≤ 18446744065119617025
    → (a + (b + d / 4294967296) / 4294967296 ≤ 17592190238721)
    × (a + (b + d / 4294967296) / 4294967296 + (c + (b + d / 4294967296) % 4294967296) / 4294967296 ≤ 17592194433026)
upper_fits a b c d i j k o =
    let x = half b (d / 4294967296) j (top d o) in
    let y = half c ((b + d / 4294967296) % 4294967296) k (rest (b + d / 4294967296)) in
    both a ((b + d / 4294967296) / 4294967296) ((c + (b + d / 4294967296) % 4294967296) / 4294967296) i x y
  where
    both : (a x y : ℕ) → a ≤ 17592186044416 → x ≤ 4194305 → y ≤ 4194305 → (a + x ≤ 17592190238721) × (a + x + y ≤ 17592194433026)
    both a x y i j k = (omega arith, omega arith)

-- the words, as the code adds them up
pub upper-word : (p a b c d : ℕ) → p ≡ a * 18446744073709551616 + (b + c) * 4294967296 + d
    → a + (b + d / 4294967296) / 4294967296 + (c + (b + d / 4294967296) % 4294967296) / 4294967296 ≡ p / 18446744073709551616
upper-word p a b c d e = omega arith

pub lower_word : (p a b c d : ℕ) → p ≡ a * 18446744073709551616 + (b + c) * 4294967296 + d
    → (d + (b + c) * 4294967296 % 18446744073709551616) % 18446744073709551616 ≡ p % 18446744073709551616
lower_word p a b c d e = omega arith

-- ---- what m * 2 ^ 52 has past p = t * (t + 1), whose words are u and v: the borrow of the lower words is taken from the upper ones
pub past : (m p u v low borrow w d : ℕ) → m < 18014398509481984 → low ≡ m * 4503599627370496 % 18446744073709551616
    → v ≡ p % 18446744073709551616 → u ≡ p / 18446744073709551616 → (low < v → borrow ≡ 1) × (v ≤ low → borrow ≡ 0) → u + borrow ≡ m / 4096
    → (w + v) % 18446744073709551616 ≡ low → w < 18446744073709551616 → (d + 1) % 18446744073709551616 ≡ w → d < 18446744073709551615
    → m * 4503599627370496 ≡ p + d + 1
past m p u v low borrow w d M e f g b s i j k o = go (dec_le v low)
  where
    words : m * 4503599627370496 ≡ m / 4096 * 18446744073709551616 + m * 4503599627370496 % 18446744073709551616
    words = omega arith

    plain : (w d : ℕ) → (d + 1) % 18446744073709551616 ≡ w → d < 18446744073709551615 → w ≡ d + 1
    plain w d x y = omega arith

    same : (w v low : ℕ) → (w + v) % 18446744073709551616 ≡ low → w < 18446744073709551616 → v ≤ low → w + v ≡ low + 0 * 18446744073709551616
    same w v low x y z = omega arith

    round : (w v low : ℕ) → (w + v) % 18446744073709551616 ≡ low → w < 18446744073709551616 → v < 18446744073709551616 → low < v
        → w + v ≡ low + 1 * 18446744073709551616
    round w v low x y t z = omega arith

    sum : (n p a u v low borrow w c d : ℕ) → n ≡ a * 18446744073709551616 + low → u * 18446744073709551616 + v ≡ p → u + borrow ≡ a → borrow ≡ c
        → w + v ≡ low + c * 18446744073709551616 → w ≡ d + 1 → n ≡ p + d + 1
    sum n p a u v low borrow w c d x y z t q r = omega arith

    n-words : m * 4503599627370496 ≡ m / 4096 * 18446744073709551616 + low
    n-words = words ∙ ap (λ (x : ℕ). m / 4096 * 18446744073709551616 + x) (sym e)

    p-words : u * 18446744073709551616 + v ≡ p
    p-words =
        ap (λ (x : ℕ). x * 18446744073709551616 + v) g ∙ ap (λ (x : ℕ). p / 18446744073709551616 * 18446744073709551616 + x) f
        ∙ div-add-mod' p 18446744073709551616

    go : Dec (v ≤ low) → m * 4503599627370496 ≡ p + d + 1
    go (yes x) = sum _ p (m / 4096) u v low borrow w 0 d n-words p-words s (b.1 x) (same w v low i j x) (plain w d k o)
    go (no x) =
        sum _ p (m / 4096) u v low borrow w 1 d n-words p-words s (b.0 (lt_of_not-le x)) (round w v low i j (small v p f) (lt_of_not-le x)) (plain w d k o)
      where
        small : (v p : ℕ) → v ≡ p % 18446744073709551616 → v < 18446744073709551616
        small v p x = omega arith

-- ---- the three, by what n has past t * (t + 1)
pub three : (n t d one two : ℕ) → n ≡ t * (t + 1) + d + 1 → d < 6 * t → (2 * t + 1 < d → one ≡ 1) × (d ≤ 2 * t + 1 → one ≡ 0)
    → (4 * t + 5 < d → two ≡ 1) × (d ≤ 4 * t + 5 → two ≡ 0) → t + 1 + one + two ≡ near_root n
three n t d one two e b x y = sym (go (dec_le d (2 * t + 1)) (dec_le d (4 * t + 5)))
  where
    p : t * (t + 1) ≡ t * t + t
    p = mul-add t t 1 ∙ ap (λ (z : ℕ). t * t + z) (mul-one t)

    go : Dec (d ≤ 2 * t + 1) → Dec (d ≤ 4 * t + 5) → near_root n ≡ t + 1 + one + two
    go (yes f) g =
        let i = x.1 f in
        let j = y.1 (omega arith) in
        let q = sq-suc t in
        let k = p in
        near-is n (t + 1) (omega arith) (omega arith) ∙ omega arith
    go (no f) (yes g) =
        let i = x.0 (omega arith) in
        let j = y.1 g in
        let q = sq-suc t in
        let r = sq-suc (t + 1) in
        let k = p in
        near-is n (t + 1 + 1) (omega arith) (omega arith) ∙ omega arith
    go (no f) (no g) =
        let i = x.0 (omega arith) in
        let j = y.0 (omega arith) in
        let q = sq-suc t in
        let r = sq-suc (t + 1) in
        let s = sq-suc (t + 1 + 1) in
        let k = p in
        near-is n (t + 1 + 1 + 1) (omega arith) (omega arith) ∙ omega arith

-- ---- what the code adds up fits a word
pub fit : (t : ℕ) → t < 18014398509481984
    → (t + 1 < 18446744073709551616) × (2 * t < 18446744073709551616) × (2 * t + 1 < 18446744073709551616) × (4 * t < 18446744073709551616)
    × (4 * t + 5 < 18446744073709551616)
fit t h = (omega arith, omega arith, omega arith, omega arith, omega arith)

pub few : (t d : ℕ) → t < 18014398509481984 → d < 6 * t → d < 18446744073709551615
few t d h l = omega arith
