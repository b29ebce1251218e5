-- Digits that are read are the printed digits of the number that they say, and the printed digits say that number. Assumes nothing.
use mathlib.Core.Path.{◌≡◌, refl, sym, ap, ◌∙◌}
use mathlib.Core.Bool.{Bool, true, false, cond}
use mathlib.Core.List.{List, [], ◌∷◌, ◌++◌, append_assoc, append-nil}
use mathlib.Core.Logic.{◌⊎◌, inl, inr}
use Prim.Native.Nat.{ℕ, zero, suc, ◌+◌, ◌-◌, ◌*◌, ◌/◌, ◌%◌, ◌^◌, ◌≤◌, ◌<◌}
use native.Mathlib.Omega.{arith}
use borrow.Author.Tests.{lt-ltb, le-ltb, ltb-true, ltb-false}
use lib.Dec.{ltb}
use lib.ListN.{length, get_or}
use Rattle.model.specs.Text.{decimal_by, decimal, capital, hex_by}
use Rattle.numerals.specs.Numerals.{Digit, Digits, said_from, Decimal, Capital, Capitals, worth, word_from}

-- ---- decimal: from what is read to the print
one_more : (k v x : ℕ) → 1 ≤ v → Digit x → decimal_by (suc k) (v * 10 + (x - 48)) ≡ decimal_by k v ++ (x ∷ [])
unfolding decimal_by
one_more k v x some (low, high) =
    let large : 10 ≤ v * 10 + (x - 48) = omega arith in
    let before : (v * 10 + (x - 48)) / 10 ≡ v = omega arith in
    let last : 48 + (v * 10 + (x - 48)) % 10 ≡ x = omega arith in
    rw (le-ltb (v * 10 + (x - 48)) 10 large, before, last)

more-digits : (k v : ℕ) (s : List ℕ) → 1 ≤ v → Digits s → decimal_by (length s + k) (said_from v s) ≡ decimal_by k v ++ s
unfolding Digits said_from
more-digits k v [] some h = let none : 0 + k ≡ k = omega arith in rw none (sym (append-nil (decimal_by k v)))
more-digits k v (x ∷ s) some h =
    let next : suc (length s) + k ≡ length s + suc k = omega arith in
    rw next
    (more-digits (suc k) (v * 10 + (x - 48)) s (omega (arith, h.0.0)) h.1
    ∙ rw (one_more k v x some h.0) (append_assoc (decimal_by k v) (x ∷ []) s))

said-below : (k v : ℕ) (s : List ℕ) → v < 10 ^ k → Digits s → said_from v s < 10 ^ (length s + k)
unfolding Digits said_from
said-below k v [] below h = let none : 0 + k ≡ k = omega arith in rw none below
said-below k v (x ∷ s) below h =
    let next : suc (length s) + k ≡ length s + suc k = omega arith in
    rw next (said-below (suc k) (v * 10 + (x - 48)) s (omega (arith, below, h.0.0, h.0.1)) h.1)

-- room for more digits than there are changes nothing
steady : (j k n : ℕ) → n < 10 ^ suc j → n < 10 ^ suc k → decimal_by (suc j) n ≡ decimal_by (suc k) n
unfolding decimal_by
steady zero k n p q = rw (lt-ltb n 10 (omega (arith, p)))
steady (suc j) zero n p q = rw (lt-ltb n 10 (omega (arith, q)))
steady (suc j) (suc k) n p q = rw (steady j k (n / 10) (omega (arith, p)) (omega (arith, q)))

pub as-printed : (s : List ℕ) (n : ℕ) → Decimal s n → n < 2 ^ 32 → decimal n ≡ s
unfolding Digits said_from decimal_by
as-printed [] n p small = absurd (omega (arith, p.leading))
as-printed (x ∷ s) n p small =
    let d = x - 48 in
    let first : decimal_by 1 d ≡ x ∷ [] =
    (let low : d < 10 = omega (arith, p.digits.0.1) in let back : 48 + d ≡ x = omega (arith, p.leading) in rw (lt-ltb d 10 low, back)) in
    let whole : decimal_by (length s + 1) (said_from d s) ≡ x ∷ s =
    more-digits 1 d s (omega (arith, p.leading)) p.digits.1 ∙ ap (λ (l : List ℕ). l ++ s) first in
    let below : said_from d s < 10 ^ (length s + 1) = said-below 1 d s (omega (arith, p.digits.0.1)) p.digits.1 in
    let none : 0 + (x - 48) ≡ x - 48 = omega arith in
    let same : said_from d s ≡ n = ap (λ (v : ℕ). said_from v s) (sym none) ∙ p.says in
    let more : length s + 1 ≡ suc (length s) = omega arith in
    let whole' : decimal_by (suc (length s)) n ≡ x ∷ s = rw (more, same) at whole in
    let below' : n < 10 ^ suc (length s) = rw (more, same) at below in
    steady 19 (length s) n (omega (arith, small)) below' ∙ whole'

-- ---- decimal: from the print to what is read
digits-then : (s t : List ℕ) → Digits s → Digits t → Digits (s ++ t)
unfolding Digits
digits-then [] t h g = g
digits-then (x ∷ s) t h g = (h.0, digits-then s t h.1 g)

said-then : (v : ℕ) (s t : List ℕ) → said_from v (s ++ t) ≡ said_from (said_from v s) t
unfolding said_from
said-then v [] t = refl
said-then v (x ∷ s) t = said-then (v * 10 + (x - 48)) s t

leads-on : (s t : List ℕ) → 49 ≤ get_or s 0 0 → 49 ≤ get_or (s ++ t) 0 0
leads-on [] t h = absurd (omega (arith, h))
leads-on (x ∷ s) t h = h

-- what is printed says its number, 0 too
pub print-says : (k n : ℕ) → n < 10 ^ k → said_from 0 (decimal_by k n) ≡ n
unfolding decimal_by said_from
print-says zero n below = omega (arith, below)
print-says (suc k) n below = go (ltb n 10) (print-says k (n / 10) (omega (arith, below)))
  where
    go : (t : Bool) → said_from 0 (decimal_by k (n / 10)) ≡ n / 10 → said_from 0 (cond t ((48 + n) ∷ []) (decimal_by k (n / 10) ++ ((48 + n % 10) ∷ []))) ≡ n
    go true before = omega arith
    go false before = said-then 0 (decimal_by k (n / 10)) ((48 + n % 10) ∷ []) ∙ rw before (omega arith)

pub print-is-digits : (k n : ℕ) → Digits (decimal_by k n)
unfolding decimal_by Digits
print-is-digits zero n = tt
print-is-digits (suc k) n = go (ltb n 10) refl (print-is-digits k (n / 10))
  where
    go : (t : Bool) → ltb n 10 ≡ t → Digits (decimal_by k (n / 10)) → Digits (cond t ((48 + n) ∷ []) (decimal_by k (n / 10) ++ ((48 + n % 10) ∷ [])))
    go true e before = ((omega arith, omega (arith, ltb-true n 10 e)), tt)
    go false e before = digits-then (decimal_by k (n / 10)) ((48 + n % 10) ∷ []) before ((omega arith, omega arith), tt)

print-leads : (k n : ℕ) → 1 ≤ n → n < 10 ^ k → 49 ≤ get_or (decimal_by k n) 0 0
unfolding decimal_by
print-leads zero n some below = absurd (omega (arith, below))
print-leads (suc k) n some below = go (ltb n 10) refl (λ large. print-leads k (n / 10) (omega arith) (omega (arith, below)))
  where
    go : (t : Bool) → ltb n 10 ≡ t → (10 ≤ n → 49 ≤ get_or (decimal_by k (n / 10)) 0 0)
        → 49 ≤ get_or (cond t ((48 + n) ∷ []) (decimal_by k (n / 10) ++ ((48 + n % 10) ∷ []))) 0 0
    go true e before = omega arith
    go false e before = leads-on (decimal_by k (n / 10)) ((48 + n % 10) ∷ []) (before (ltb-false n 10 e))

pub print-is-decimal : (k n : ℕ) → 1 ≤ n → n < 10 ^ k → Decimal (decimal_by k n) n
print-is-decimal k n some below = record { digits = print-is-digits k n; leading = print-leads k n some below; says = print-says k n below }

-- ---- hexadecimal: from what is read to the print
-- a digit's worth, and its capital again
digit-back : (x : ℕ) → Capital x → (worth x < 16) × (capital (worth x) ≡ x)
digit-back x (inl (low, high)) =
    let digit : worth x ≡ x - 48 = rw (lt-ltb x 65 (omega arith)) in
    let back : 48 + (x - 48) ≡ x = omega arith in
    rw digit (omega arith, rw (lt-ltb (x - 48) 10 (omega arith)) back)
digit-back x (inr (low, high)) =
    let digit : worth x ≡ x - 55 = rw (le-ltb x 65 low) in
    let back : 55 + (x - 55) ≡ x = omega arith in
    rw digit (omega arith, rw (le-ltb (x - 55) 10 (omega arith)) back)

hex-more : (k v x : ℕ) → Capital x → hex_by (suc k) (v * 16 + worth x) ≡ hex_by k v ++ (x ∷ [])
unfolding hex_by
hex-more k v x h =
    let d = worth x in
    let small : d < 16 = (digit-back x h).0 in
    let before : (v * 16 + d) / 16 ≡ v = omega arith in
    let last : (v * 16 + d) % 16 ≡ d = omega arith in
    rw (before, last, (digit-back x h).1)

pub more-hex : (k v : ℕ) (w : List ℕ) → Capitals w → hex_by (length w + k) (word_from v w) ≡ hex_by k v ++ w
unfolding Capitals word_from
more-hex k v [] h = let none : 0 + k ≡ k = omega arith in rw none (sym (append-nil (hex_by k v)))
more-hex k v (x ∷ w) h =
    let next : suc (length w) + k ≡ length w + suc k = omega arith in
    rw next
    (more-hex (suc k) (v * 16 + worth x) w h.1 ∙ rw (hex-more k v x h.0) (append_assoc (hex_by k v) (x ∷ []) w))

pub word_below : (k v : ℕ) (w : List ℕ) → v < 16 ^ k → Capitals w → word_from v w < 16 ^ (length w + k)
unfolding Capitals word_from
word_below k v [] below h = let none : 0 + k ≡ k = omega arith in rw none below
word_below k v (x ∷ w) below h =
    let next : suc (length w) + k ≡ length w + suc k = omega arith in
    rw next (word_below (suc k) (v * 16 + worth x) w (omega (arith, below, (digit-back x h.0).0)) h.1)

-- ---- hexadecimal: from the print to what is read
capitals-then : (s t : List ℕ) → Capitals s → Capitals t → Capitals (s ++ t)
unfolding Capitals
capitals-then [] t h g = g
capitals-then (x ∷ s) t h g = (h.0, capitals-then s t h.1 g)

capital-is : (d : ℕ) → d < 16 → Capital (capital d)
capital-is d small = go (ltb d 10) refl
  where
    go : (t : Bool) → ltb d 10 ≡ t → Capital (cond t (48 + d) (55 + d))
    go true e = inl (omega arith, omega (arith, ltb-true d 10 e))
    go false e = inr (omega (arith, ltb-false d 10 e), omega arith)

pub hex-is-capitals : (k n : ℕ) → Capitals (hex_by k n)
unfolding hex_by Capitals
hex-is-capitals zero n = tt
hex-is-capitals (suc k) n = capitals-then (hex_by k (n / 16)) (capital (n % 16) ∷ []) (hex-is-capitals k (n / 16)) (capital-is (n % 16) (omega arith), tt)

word-then : (v : ℕ) (s t : List ℕ) → word_from v (s ++ t) ≡ word_from (word_from v s) t
unfolding word_from
word-then v [] t = refl
word-then v (x ∷ s) t = word-then (v * 16 + worth x) s t

capital-worth : (d : ℕ) → worth (capital d) ≡ d
capital-worth d = go (ltb d 10) refl
  where
    go : (t : Bool) → ltb d 10 ≡ t → worth (cond t (48 + d) (55 + d)) ≡ d
    go true e =
        let low : 48 + d < 65 = omega (arith, ltb-true d 10 e) in
        let back : 48 + d - 48 ≡ d = omega arith in
        rw (lt-ltb (48 + d) 65 low) back
    go false e =
        let high : 65 ≤ 55 + d = omega (arith, ltb-false d 10 e) in
        let back : 55 + d - 55 ≡ d = omega arith in
        rw (le-ltb (55 + d) 65 high) back

pub hex-says : (k n : ℕ) → n < 16 ^ k → word_from 0 (hex_by k n) ≡ n
unfolding hex_by word_from
hex-says zero n below = omega (arith, below)
hex-says (suc k) n below =
    let before : word_from 0 (hex_by k (n / 16)) ≡ n / 16 = hex-says k (n / 16) (omega (arith, below)) in
    let whole : n / 16 * 16 + n % 16 ≡ n = omega arith in
    word-then 0 (hex_by k (n / 16)) (capital (n % 16) ∷ []) ∙ rw (before, capital-worth (n % 16)) whole

-- ---- what a decimal says is at least 1
said-grows : (v : ℕ) (s : List ℕ) → 1 ≤ v → 1 ≤ said_from v s
unfolding said_from
said-grows v [] some = some
said-grows v (x ∷ s) some = said-grows (v * 10 + (x - 48)) s (omega arith)

pub at_least_one : (s : List ℕ) (n : ℕ) → Decimal s n → 1 ≤ n
unfolding said_from
at_least_one [] n p = absurd (omega (arith, p.leading))
at_least_one (x ∷ s) n p = rw p.says at (said-grows (0 * 10 + (x - 48)) s (omega (arith, p.leading)))
