-- The largest counts with their places: the larger of three in any order, none as its neutral element, and moving up. Assumes nothing.
use Rattle.std.proofs.Common.{◌≡◌, ℕ, suc, ◌+◌, ◌^◌, ◌<◌, Bool, true, false, cond, ltb, List, [], ◌∷◌, ◌++◌, length, sym, refl, ap, ◌∙◌, arith, ltb-false, ltb-true, le-ltb, lt-ltb, Option, Some, None, Ok, Err}
use Rattle.report_counts.specs.declared.most.Most.{Most}
use Rattle.report_counts.specs.declared.most.Largest.{Largest}
use Rattle.report_counts.specs.Largest.{hold, plus, larger, moved, nowhere, larger_each, moved_each, seen, largest_from, largest_in}
use Rattle.report_counts.proofs.Held.{plus-held, plus_assoc, none-plus}
use Rattle.model.specs.Work.{BlockAnswer}

-- ---- one count
larger-none : (a : Option Most) → larger a None ≡ a
unfolding larger
larger-none None = refl
larger-none (Some s) = refl

larger-assoc : (a b c : Option Most) → larger (larger a b) c ≡ larger a (larger b c)
unfolding larger
larger-assoc None b c = refl
larger-assoc (Some s) None c = refl
larger-assoc (Some s) (Some t) None = larger-none (larger (Some s) (Some t))
larger-assoc (Some s) (Some t) (Some u) = go (ltb s.count t.count) (ltb t.count u.count) refl refl
  where
    go : (x y : Bool) → ltb s.count t.count ≡ x → ltb t.count u.count ≡ y
        → larger (cond x (Some t) (Some s)) (Some u) ≡ larger (Some s) (cond y (Some u) (Some t))
    go true true e f = rw (f, lt-ltb s.count u.count (omega (arith, ltb-true s.count t.count e, ltb-true t.count u.count f)))
    go true false e f = rw (f, e)
    go false true e f = refl
    go false false e f = rw (e, le-ltb s.count u.count (omega (arith, ltb-false s.count t.count e, ltb-false t.count u.count f)))

moved-larger : (by : ℕ) (a b : Option Most) → moved by (larger a b) ≡ larger (moved by a) (moved by b)
unfolding larger moved
moved-larger by None b = refl
moved-larger by (Some s) None = refl
moved-larger by (Some s) (Some t) = go (ltb s.count t.count)
  where
    go : (x : Bool) → moved by (cond x (Some t) (Some s)) ≡ cond x (moved by (Some t)) (moved by (Some s))
    go true = refl
    go false = refl

moved_twice : (x y : ℕ) (a : Option Most) → moved (plus x y) a ≡ moved x (moved y a)
unfolding moved
moved_twice x y None = refl
moved_twice x y (Some s) = rw (plus_assoc x y s.batch)

-- its batch fits in 64 bits
abbrev pub Placed : Option Most → Type 0
Placed None = Unit {0}
Placed (Some s) = s.batch < 2 ^ 64

moved-by-none : (a : Option Most) → Placed a → moved 0 a ≡ a
unfolding moved
moved-by-none None h = refl
moved-by-none (Some s) h = rw (none-plus s.batch h)

-- ---- all three
pub each_none : (a : Largest) → larger_each a nowhere ≡ a
each_none a = rw (larger-none a.calls, larger-none a.searches, larger-none a.steps)

pub none_each : (a : Largest) → larger_each nowhere a ≡ a
unfolding larger
none_each a = refl

pub each-assoc : (a b c : Largest) → larger_each (larger_each a b) c ≡ larger_each a (larger_each b c)
each-assoc a b c =
    rw (
      larger-assoc a.calls b.calls c.calls,
      larger-assoc a.searches b.searches c.searches,
      larger-assoc a.steps b.steps c.steps,
    )

pub moved-each : (by : ℕ) (a b : Largest) → moved_each by (larger_each a b) ≡ larger_each (moved_each by a) (moved_each by b)
moved-each by a b =
    rw (
      moved-larger by a.calls b.calls,
      moved-larger by a.searches b.searches,
      moved-larger by a.steps b.steps,
    )

pub moved-each-twice : (x y : ℕ) (a : Largest) → moved_each (plus x y) a ≡ moved_each x (moved_each y a)
moved-each-twice x y a = rw (moved_twice x y a.calls, moved_twice x y a.searches, moved_twice x y a.steps)

pub moved_nowhere : (by : ℕ) → moved_each by nowhere ≡ nowhere
unfolding moved
moved_nowhere by = refl

pub record PlacedEach (a : Largest) : Type 0 where
  pub calls : Placed a.calls
  pub searches : Placed a.searches
  pub steps : Placed a.steps

pub moved-each-by-none : (a : Largest) → PlacedEach a → moved_each 0 a ≡ a
moved-each-by-none a h = rw (moved-by-none a.calls h.calls, moved-by-none a.searches h.searches, moved-by-none a.steps h.steps)

-- ---- of lists in two parts
pub from-append : (i n : ℕ) (xs ys : List BlockAnswer) → largest_from i n (xs ++ ys) ≡ larger_each (largest_from i n xs) (largest_from i (n + length xs) ys)
unfolding largest_from
from-append i n [] ys = let e : n + 0 ≡ n = omega arith in rw e (sym (none_each (largest_from i n ys)))
from-append i n (x ∷ xs) ys =
    let e : n + 1 + length xs ≡ n + suc (length xs) = omega arith in
    ap (larger_each (seen (hold i) (hold (n + 1)) x)) (from-append i (n + 1) xs ys ∙ rw e)
    ∙ sym (each-assoc (seen (hold i) (hold (n + 1)) x) (largest_from i (n + 1) xs) (largest_from i (n + suc (length xs)) ys))

pub in-append : (i : ℕ) (ps qs : List (List BlockAnswer)) → largest_in i (ps ++ qs) ≡ larger_each (largest_in i ps) (largest_in (i + length ps) qs)
unfolding largest_in
in-append i [] qs = let e : i + 0 ≡ i = omega arith in rw e (sym (none_each (largest_in i qs)))
in-append i (a ∷ ps) qs =
    let e : i + 1 + length ps ≡ i + suc (length ps) = omega arith in
    ap (larger_each (largest_from (i + 1) 0 a)) (in-append (i + 1) ps qs ∙ rw e)
    ∙ sym (each-assoc (largest_from (i + 1) 0 a) (largest_in (i + 1) ps) (largest_in (i + suc (length ps)) qs))

-- ---- batches that follow k others are moved up by k
seen-moved : (k i j : ℕ) (x : BlockAnswer) → seen (hold (k + i)) j x ≡ moved_each (hold k) (seen (hold i) j x)
unfolding moved
seen-moved k i j (Err r) = refl
seen-moved k i j (Ok w) = rw (plus-held k i)

from-moved : (k i n : ℕ) (xs : List BlockAnswer) → largest_from (k + i) n xs ≡ moved_each (hold k) (largest_from i n xs)
unfolding largest_from
from-moved k i n [] = sym (moved_nowhere (hold k))
from-moved k i n (x ∷ xs) =
    rw (seen-moved k i (hold (n + 1)) x, from-moved k i (n + 1) xs) (sym (moved-each (hold k) (seen (hold i) (hold (n + 1)) x) (largest_from i (n + 1) xs)))

pub in_moved : (k i : ℕ) (qs : List (List BlockAnswer)) → largest_in (k + i) qs ≡ moved_each (hold k) (largest_in i qs)
unfolding largest_in
in_moved k i [] = sym (moved_nowhere (hold k))
in_moved k i (b ∷ qs) =
    let e : k + i + 1 ≡ k + (i + 1) = omega arith in
    rw (e, from-moved k (i + 1) 0 b, in_moved k (i + 1) qs) (sym (moved-each (hold k) (largest_from (i + 1) 0 b) (largest_in (i + 1) qs)))
