-- The lines of answers, cut into the pieces in which they are written. Assumes nothing.
use mathlib.Core.Path.{◌≡◌, refl, sym}
use mathlib.Core.Bool.{Bool, true, false, not}
use mathlib.Core.List.{List, [], ◌∷◌, ◌++◌, append_assoc}
use Prim.Native.Nat.{ℕ, ◌≤◌, ◌<◌}
use native.Mathlib.Omega.{arith}
use lib.Ieee.{Float}
use lib.ListN.{length, take}
use Rattle.model.specs.declared.Vector.{Vector}
use Rattle.model.specs.Support.{point}
use Rattle.model.specs.Text.{line}
use Rattle.text.specs.Put.{Put, number}
use Rattle.route_read.specs.declared.Kept.{Kept}
use Rattle.route_read.specs.declared.Reader.{Reader}
use Rattle.route_line.specs.Line.{is_route}
use Rattle.route_read.specs.Read.{next_line}
use Rattle.route_text.specs.declared.Cuts.{Cuts}
use Rattle.route_text.specs.Answer.{cut, cuts_of, two}
use Rattle.route_text.proofs.Lines.{no-route-is}
use Rattle.route_clearance_legs.specs.declared.End.{End}
use Rattle.route_clearance_legs.specs.declared.RouteCleared.{RouteCleared}
use Rattle.route_clearance_legs.specs.Looks.{Told}
use Rattle.route_clearance_text.specs.Answer.{ToldOf, place, where_told, clear_line, touch_line, open_line, refused_line, answer_line}
use Rattle.route_clearance_text.specs.Answer.{no-route, looked}
use Rattle.route_clearance_text.specs.Answer.{longest_line, Written}

pub where-is : (e : End) → where_told e ≡ (48 ∷ 32 ∷ []) ++ two e.leg e.outline 32
unfolding where_told
where-is e = refl

pub clear-is : (pieces : ℕ) → clear_line pieces ≡ (48 ∷ 32 ∷ 67 ∷ 76 ∷ 69 ∷ 65 ∷ 82 ∷ 32 ∷ []) ++ number pieces 10
unfolding clear_line line
clear-is pieces = refl

pub touch_is : (e : End) (u t : ℕ) → touch_line e u t
    ≡ where_told e ++ (84 ∷ 79 ∷ 85 ∷ 67 ∷ 72 ∷ 32 ∷ []) ++ place u ++ place t ++ number e.pieces 10
unfolding touch_line line two where_told
touch_is e u t = simp append_assoc

pub open_is : (e : End) (u : ℕ) → open_line e u ≡ where_told e ++ (79 ∷ 80 ∷ 69 ∷ 78 ∷ 32 ∷ []) ++ place u ++ number e.pieces 10
unfolding open_line line two where_told
open_is e u = simp append_assoc

pub refused-is : (e : End) (n : ℕ) → refused_line e n ≡ two n e.leg 32 ++ two e.outline e.pieces 10
unfolding refused_line line two
refused-is e n = simp append_assoc

-- ---- the text of what was read
module _ (reader : Reader) (numbers : List Float) (lengths : List ℕ) {d d' : List ℕ} {r : ℕ} where
  pub too_short : length d < longest_line → Put d 0 [] d' r → Written reader numbers lengths d d' r
  too_short short p = record { room = λ h. absurd (omega (arith, h, short)); no_room = λ h. p }

  pub told-no-route : longest_line ≤ length d → (so : Bool) (n : ℕ) → so ≡ is_route reader.line → not so ≡ true → n ≡ next_line reader.lines
      → Put d 0 (two 14 n 10) d' r → Written reader numbers lengths d d' r
  told-no-route room true n is e next p = absurd (let z : ◌≡◌ {A = ℕ} 0 1 = cc in omega arith)
  told-no-route room false n is e next p = record {
    room = λ h. record { text = _; holds = no-route (sym is); bytes = rw (← next, no-route-is n) p };
    no_room = λ h. absurd (omega (arith, h, room));
  }

  pub told-route : longest_line ≤ length d → (so : Bool) (x : RouteCleared) → so ≡ is_route reader.line → not so ≡ false
      → ToldOf reader.kept numbers lengths x → Put d 0 (answer_line x) d' r → Written reader numbers lengths d d' r
  told-route room false x is e told p = absurd (let z : ◌≡◌ {A = ℕ} 0 1 = cc in omega arith)
  told-route room true x is e told p = record {
    room = λ h. record { text = _; holds = looked x (sym is) told; bytes = p };
    no_room = λ h. absurd (omega (arith, h, room));
  }

-- ---- the route of what is kept
pub route-kept : (k : Kept) (numbers : List Float) (lengths : List ℕ) {c : Cuts} {first : Vector} {x : RouteCleared}
    → c ≡ cuts_of k (length numbers) (length lengths) → first ≡ point numbers 0
    → Told (cut numbers c.start c.cart) (cut numbers c.cart c.whole) (cut numbers c.ways c.used) (take c.outlines lengths) first.x x → ToldOf k numbers lengths x
unfolding ToldOf
route-kept k numbers lengths is at told = rw (is, at) at told
