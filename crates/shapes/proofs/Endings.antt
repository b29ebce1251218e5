-- The endings of a build: refused by a check, no room, or the corners stored one after the other. Assumes nothing.
use Prim.Native.Nat.{ℕ, zero, suc, ◌+◌, ◌*◌, ◌≤◌, ◌<◌}
use native.Mathlib.Omega.{arith}
use mathlib.Core.Path.{◌≡◌, refl, sym, ap, ◌∙◌}
use mathlib.Core.List.{List, [], ◌∷◌, ◌++◌, map}
use borrow.Author.Tests.{lt-ltb, le-ltb}
use lib.ListN.{length, take, drop, set, get_or}
use lib.Seq.{take-length}
use lib.Ieee.{Float, Format}
use Rattle.std.proofs.Common.{Result, Ok, Err}
use Rattle.std.proofs.lemmas.Result.{err_from_is_err_and}
use Rattle.std.specs.Result.{IsErrAnd}
use Rattle.model.specs.declared.Refusal.{Refusal}
use Rattle.model.specs.declared.Vector.{Vector}
use Rattle.model.specs.declared.Pose.{Pose}
use Rattle.model.specs.Ground.{on_point}
use Rattle.model.specs.Domain.{checked, refusal, checked_pose, refusal_of_pose, numbered}
use Rattle.model.proofs.Domain.{passed, refused}
use Rattle.model.proofs.Domain as Domain
use Rattle.shapes.specs.Shapes.{flat, told, left, placed}

-- what `?` returns of a refusal
handed_on : {A : Type 0} (a : Result A Refusal) (r : Refusal) → IsErrAnd a (λ e. e ≡ r) → a ≡ Err r
handed_on a r h = let (e, is, same) = err_from_is_err_and a h in is ∙ ap Err same

-- ---- the endings
pub flat-length : (corners : List Vector) → length (flat corners) ≡ 2 * length corners
flat-length [] = refl
flat-length (v ∷ s) = omega (arith, flat-length s)

module _ (corners : List Vector) (out : List Float) where
  -- ---- a check of number n, where `whole` says what a first number leaves of the numbers of all checks
  module _ (whole : ℕ → ℕ) (stays : (j : ℕ) → whole (suc j) ≡ suc j) (n : ℕ) (x : Result Unit Refusal) (is : x ≡ checked n) where
    refuses-told : (j : ℕ) → ◌≡◌ {A = Result ℕ Refusal} (Err (numbered (suc j))) (told (whole (suc j)) corners out)
    unfolding told
    refuses-told j = rw (stays j) refl

    refuses-left : (j : ℕ) → out ≡ left (whole (suc j)) corners out
    unfolding left
    refuses-left j = rw (stays j) refl

    pub check-refused : (r : Refusal) → x ≡ Err r → (a : Result ℕ Refusal) → IsErrAnd a (λ e. e ≡ r) →
        (a ≡ told (whole n) corners out) × (out ≡ left (whole n) corners out)
    check-refused r e a h =
        let number = sym (ap refusal e) in (
          handed_on a r h ∙ refused (λ k. told (whole k) corners out) (λ j. Err (numbered j)) refuses-told n x is r e r.number number,
          refused (λ k. left (whole k) corners out) (λ j. out) refuses-left n x is r e r.number number,
        )

    pub check-passed : x ≡ Ok tt → (told (whole 0) corners out ≡ told (whole n) corners out) × (left (whole 0) corners out ≡ left (whole n) corners out)
    check-passed e = (
      passed (λ k. told (whole k) corners out) (λ j. Err (numbered j)) refuses-told n x is e,
      passed (λ k. left (whole k) corners out) (λ j. out) refuses-left n x is e,
    )

  -- ---- the pose's check, of number m
  module _ (m : ℕ) (p : Pose) (y : Result Pose Refusal) (is : y ≡ checked_pose (checked m) p) where
    no-told : (j : ℕ) → ◌≡◌ {A = Result ℕ Refusal} (Err (numbered (suc j))) (told (suc j) corners out)
    unfolding told
    no-told j = refl

    no-left : (j : ℕ) → out ≡ left (suc j) corners out
    unfolding left
    no-left j = refl

    pub pose-refused : (r : Refusal) → y ≡ Err r → (j : ℕ) → j ≡ refusal_of_pose y → (Err (numbered j) ≡ told m corners out) × (out ≡ left m corners out)
    pose-refused r e j number = (
      Domain.pose-refused (λ k. told k corners out) (λ j. Err (numbered j)) no-told m p y is r e j number,
      Domain.pose-refused (λ k. left k corners out) (λ j. out) no-left m p y is r e j number,
    )

    pub pose-passed : (q : Pose) → y ≡ Ok q → (told 0 corners out ≡ told m corners out) × (left 0 corners out ≡ left m corners out) × (q ≡ p)
    pose-passed q e =
        let first = Domain.pose-passed (λ k. told k corners out) (λ j. Err (numbered j)) no-told m p y is q e in
        (first.0, (Domain.pose-passed (λ k. left k corners out) (λ j. out) no-left m p y is q e).0, first.1)

  -- ---- what is written
  pub no_room : length out < 2 * length corners → (Err (numbered 15) ≡ told 0 corners out) × (out ≡ left 0 corners out)
  unfolding told left
  no_room short = let test = lt-ltb (length out) (2 * length corners) short in rw test (refl, refl)

  pub stored : 2 * length corners ≤ length out →
      (Ok (length corners) ≡ told 0 corners out) × (flat (take (length corners) corners) ++ drop (2 * length corners) out ≡ left 0 corners out)
  unfolding told left
  stored room = let test = le-ltb (length out) (2 * length corners) room in rw (test, take-length corners) (refl, refl)

-- ---- the corners one after the other
pub stored_more : (corners : List Vector) (out : List Float) (i : ℕ) (d : Vector) → i < length corners → 2 * length corners ≤ length out →
    set (set (flat (take i corners) ++ drop (2 * i) out) (2 * i) (get_or corners i d).x) (2 * i + 1) (get_or corners i d).y
    ≡ flat (take (i + 1) corners) ++ drop (2 * (i + 1)) out
stored_more [] out i d h room = absurd (omega (arith, h))
stored_more (p ∷ ps) [] i d h room = absurd (omega (arith, room))
stored_more (p ∷ ps) (a ∷ []) i d h room = absurd (omega (arith, room))
stored_more (p ∷ ps) (a ∷ b ∷ out) zero d h room = refl
stored_more (p ∷ ps) (a ∷ b ∷ out) (suc i) d h room =
    let here : 2 * suc i ≡ suc (suc (2 * i)) = omega arith in
    let one : suc i + 1 ≡ suc (i + 1) = omega arith in
    let next : 2 * suc (i + 1) ≡ suc (suc (2 * (i + 1))) = omega arith in
    let beside : suc (suc (2 * i)) + 1 ≡ suc (suc (2 * i + 1)) = omega arith in
    rw (one, here, next, beside) (ap (λ (l : List Float). p.x ∷ p.y ∷ l) (stored_more ps out i d (omega (arith, h)) (omega (arith, room))))

pub placed-all : (f : Format) (p : Pose) (corners : List Vector) → map (on_point f p) (take (length corners) corners) ++ drop (length corners) corners ≡ placed f p corners
placed-all f p [] = refl
placed-all f p (v ∷ s) = ap (λ (l : List Vector). on_point f p v ∷ l) (placed-all f p s)
