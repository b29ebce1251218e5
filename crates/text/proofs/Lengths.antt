-- How long pieces get, and where they end. Assumes nothing.
use mathlib.Core.Path.{◌≡◌, refl}
use mathlib.Core.Bool.{Bool, true, false, cond}
use mathlib.Core.List.{List, [], ◌∷◌, ◌++◌}
use Prim.Native.Nat.{ℕ, zero, suc, ◌+◌, ◌/◌, ◌%◌, ◌≤◌}
use native.Mathlib.Omega.{arith}
use borrow.Author.Tests.{le-ltb}
use lib.Dec.{ltb}
use lib.ListN.{length, length-append}
use Rattle.model.specs.Text.{decimal_by, hex_by}
use Rattle.text.specs.Put.{Put, where_room, number, hex, wide_hex}

one_digit_more : (k n : ℕ) (l : List ℕ) (short : Bool) → length l ≤ k → length (cond short ((48 + n) ∷ []) (l ++ ((48 + n % 10) ∷ []))) ≤ suc k
one_digit_more k n l true h = omega arith
one_digit_more k n l false h = rw length-append (omega arith)

length-decimal : (k n : ℕ) → length (decimal_by k n) ≤ k
unfolding decimal_by
length-decimal zero n = omega arith
length-decimal (suc k) n = one_digit_more k n (decimal_by k (n / 10)) (ltb n 10) (length-decimal k (n / 10))

pub length-number : (n end : ℕ) → length (number n end) ≤ 21
length-number n end = rw length-append (omega (arith, length-decimal 20 n))

pub length-hex : (n end : ℕ) → length (hex n end) ≡ 9
unfolding hex_by
length-hex n end = refl

-- a piece of at most m bytes ends at most m places on
pub ends : {d d' s : List ℕ} {k e m : ℕ} → Put d k s d' e → length s ≤ m → e ≤ k + m
ends p short = omega (arith, p.place)

-- where there is room the piece is there
pub roomy : {d d' s : List ℕ} {k e : ℕ} (m : ℕ) → Put d k (where_room (k + m) (length d) s) d' e → k + m ≤ length d → Put d k s d' e
roomy {d} {k = k} m p room = rw (le-ltb (length d) (k + m) room) at p

pub length-wide-hex : (n end : ℕ) → length (wide_hex n end) ≡ 17
unfolding hex_by
length-wide-hex n end = refl
