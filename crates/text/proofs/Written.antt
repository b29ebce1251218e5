-- What is written on a draft: a piece that there is room for is there, and two pieces one after the other are one. Assumes nothing.
use mathlib.Core.Path.{◌≡◌, refl, ◌∙◌}
use mathlib.Core.Bool.{Bool, true, false, cond}
use mathlib.Core.List.{List, [], ◌++◌}
use Prim.Native.Nat.{ℕ, ◌+◌, ◌≤◌}
use native.Mathlib.Omega.{arith}
use borrow.Author.Tests.{le-ltb}
use lib.Dec.{ltb}
use lib.ListN.{length, length-append}
use Rattle.text.specs.declared.draft.Draft.{Draft}
use Rattle.text.specs.Put.{Put, where_room}
use Rattle.text.specs.Written.{written, Room, Wrote}
use Rattle.text.proofs.Pasted.{pasted-twice, put-nothing}

-- a place and bytes as `Put` has them
pub wrote : {n : ℕ} {p p' : Draft} {s : List ℕ} → p' ≡ written p s → length s ≤ n → length p'.bytes.now ≡ length p.bytes.now → Wrote n p s p'
unfolding written
wrote e short same = record { is = e; same = rw e; most = rw e (omega arith); size = same }

pub put-of : {n : ℕ} {p p' : Draft} {s : List ℕ} → Wrote n p s p' → Put p.bytes.now p.at s p'.bytes.now p'.at
unfolding written
put-of w = rw w.is record { place = refl; bytes = refl }

pub wrote-most : {m n : ℕ} {p p' : Draft} {s : List ℕ} → m ≤ n → Wrote m p s p' → Wrote n p s p'
wrote-most le w = record { is = w.is; same = w.same; most = omega (arith, w.most); size = w.size }

-- what the bytes lent for a draft hold once it is let go
pub left : {n : ℕ} {p p' : Draft} {s d : List ℕ} → Wrote n p s p' → d ≡ p'.bytes.now → Put p.bytes.now p.at s d p'.at
left w e = rw e (put-of w)

-- no piece
pub wrote-nothing : (n : ℕ) (p : Draft) → Wrote n p [] p
unfolding written
wrote-nothing n p = wrote (rw (← (put-nothing p.bytes.now p.at).bytes, ← (put-nothing p.bytes.now p.at).place)) (omega arith) refl

-- a piece where there is room for it
pub length-room : (a b : ℕ) (s : List ℕ) (m : ℕ) → length s ≤ m → length (where_room a b s) ≤ m
length-room a b s m short = go (ltb b a)
  where
    go : (lacks : Bool) → length (cond lacks [] s) ≤ m
    go true = omega arith
    go false = short

pub there : {n : ℕ} {p p' : Draft} {s : List ℕ} (m : ℕ) → Wrote n p (where_room (p.at + m) (length p.bytes.now) s) p' → Room m p → Wrote n p s p'
there {p = p} m w room = rw (le-ltb (length p.bytes.now) (p.at + m) room) at w

-- a piece more
written-then : (p : Draft) (s t : List ℕ) → p.at ≤ length p.bytes.now → written (written p s) t ≡ written p (s ++ t)
unfolding written
written-then p s t inside =
    let e : p.at + length s + length t ≡ p.at + length (s ++ t) = omega (arith, length-append s t) in
    rw (pasted-twice p.bytes.now p.at s t inside, e)

pub wrote-then : {m n : ℕ} {p q r : Draft} {s t : List ℕ} → p.at ≤ length p.bytes.now → Wrote m p s q → Wrote n q t r → Wrote (m + n) p (s ++ t) r
wrote-then {p = p} {s = s} {t = t} inside v w = record {
  is = w.is ∙ rw v.is (written-then p s t inside);
  same = w.same ∙ v.same;
  most = omega (arith, v.most, w.most);
  size = w.size ∙ v.size;
}
