-- The lines of answers, cut into the pieces in which they are written. Assumes nothing.
use mathlib.Core.Path.{◌≡◌, refl, ◌∙◌}
use mathlib.Core.Bool.{Bool, true, false, not}
use mathlib.Core.List.{List, [], ◌∷◌, ◌++◌, append_assoc}
use Prim.Native.Nat.{ℕ, ◌≤◌}
use native.Mathlib.Omega.{arith}
use borrow.Author.Tests.{le-ltb}
use lib.Ieee.{Float, binary32}
use lib.ListN.{length, take, length-append}
use Rattle.std.specs.Prelude.{min}
use Rattle.std.proofs.Math.Nat.{min-le_left, min-le_right}
use Rattle.model.specs.declared.Vector.{Vector}
use Rattle.model.specs.declared.Contact.{Contact}
use Rattle.model.specs.declared.Status.{Status}
use Rattle.model.specs.Support.{point}
use Rattle.model.specs.Sheet.{letter_of}
use Rattle.model.specs.Text.{line}
use Rattle.text.specs.Put.{Put, number}
use Rattle.text.proofs.Lengths.{length-number}
use Rattle.fields.specs.Floats.{floats}
use Rattle.route_legs.specs.declared.Stop.{Stop}
use Rattle.route_legs.specs.declared.RouteAnswer.{RouteAnswer}
use Rattle.route_legs.specs.Route.{route}
use Rattle.route_read.specs.declared.Kept.{Kept}
use Rattle.route_read.specs.declared.Reader.{Reader}
use Rattle.route_text.specs.declared.Cuts.{Cuts}
use Rattle.route_line.specs.Line.{is_route}
use Rattle.route_read.specs.Read.{next_line}
use Rattle.route_text.specs.Answer.{cut, cuts_of, route_of, two, clear_line, ended_line, refused_line, wrong_line, no_route_line, answer_line}
use Rattle.route_text.specs.Answer.{longest_line, text_for}

pub two_is : (a b end : ℕ) → two a b end ≡ number a 32 ++ number b end
unfolding two
two_is a b end = refl

pub length_two : (a b end : ℕ) → length (two a b end) ≤ 42
unfolding two
length_two a b end = rw (length-append (number a 32) (number b end)) (omega (arith, length-number a 32, length-number b end))

pub clear-is : (calls : ℕ) → clear_line calls ≡ (48 ∷ 32 ∷ 67 ∷ 76 ∷ 69 ∷ 65 ∷ 82 ∷ 32 ∷ []) ++ number calls 10
unfolding clear_line line
clear-is calls = refl

pub ended_is : (s : Stop) (status : Status) (c : Contact) → ended_line s status c
    ≡ (48 ∷ 32 ∷ []) ++ two s.leg s.outline 32 ++ (letter_of status ∷ 32 ∷ []) ++ floats c ++ number s.calls 10
unfolding ended_line line two floats
ended_is s status c = simp append_assoc

pub refused-is : (s : Stop) (n : ℕ) → refused_line s n ≡ two n s.leg 32 ++ two s.outline s.calls 10
unfolding refused_line line two
refused-is s n = simp append_assoc

pub wrong-is : (n : ℕ) → wrong_line n ≡ number n 10
unfolding wrong_line line
wrong-is n = refl

pub no-route-is : (n : ℕ) → no_route_line n ≡ two 14 n 10
unfolding no_route_line line two
no-route-is n = simp append_assoc

-- ---- the text of what was read
module _ (reader : Reader) (numbers : List Float) (lengths : List ℕ) {d d' : List ℕ} {r : ℕ} (room : longest_line ≤ length d) where
  pub told-no-route : (so : Bool) (n : ℕ) → so ≡ is_route reader.line → not so ≡ true → n ≡ next_line reader.lines → Put d 0 (two 14 n 10) d' r →
      Put d 0 (text_for reader numbers lengths (length d)) d' r
  told-no-route true n is e next p = absurd (let z : ◌≡◌ {A = ℕ} 0 1 = cc in omega arith)
  told-no-route false n is e next p = rw (le-ltb (length d) longest_line room, ← is, ← next, no-route-is n) p

  pub told-route : (so : Bool) (x : RouteAnswer) → so ≡ is_route reader.line → not so ≡ false → x ≡ route_of reader.kept numbers lengths →
      Put d 0 (answer_line x) d' r → Put d 0 (text_for reader numbers lengths (length d)) d' r
  told-route false x is e route p = absurd (let z : ◌≡◌ {A = ℕ} 0 1 = cc in omega arith)
  told-route true x is e route p = rw (le-ltb (length d) longest_line room, ← is, ← route) p

-- ---- the route of what is kept
-- each cut is at most the next
pub record InOrder (c : Cuts) (numbers lengths : ℕ) : Type 0 where
  pub start : c.start ≤ c.cart
  pub cart : c.cart ≤ c.whole
  pub whole : c.whole ≤ numbers
  pub ways : c.ways ≤ c.used
  pub used : c.used ≤ numbers
  pub outlines : c.outlines ≤ lengths

pub in-order : {c : Cuts} (k : Kept) (numbers lengths : ℕ) → c ≡ cuts_of k numbers lengths → InOrder c numbers lengths
in-order k numbers lengths is =
    let used = min k.used numbers in
    let ways = min k.way_end used in
    let cart = min k.cart_end ways in
    let u = min-le_right k.used numbers in
    let w = min-le_right k.way_end used in
    let b = min-le_right k.cart_end ways in
    rw is (record {
      start = min-le_left cart 1;
      cart = omega arith;
      whole = omega (arith, b, w, u);
      ways = w;
      used = u;
      outlines = min-le_right k.outlines lengths;
    })

pub route-kept : (k : Kept) (numbers : List Float) (lengths : List ℕ) {c : Cuts} {first : Vector} {x : RouteAnswer} → c ≡ cuts_of k (length numbers) (length lengths)
    → first ≡ point numbers 0
    → x ≡ route binary32 (cut numbers c.start c.cart) (cut numbers c.cart c.whole) (cut numbers c.ways c.used) (take c.outlines lengths) first.x
    → x ≡ route_of k numbers lengths
unfolding route_of
route-kept k numbers lengths is at so = so ∙ rw (is, at)
