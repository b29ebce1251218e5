-- Written by tests/written/wide.py from model, in f64.
-- What a caller learns by taking a check's answer apart: what passed leaves the answer to the next check, and what did not is answered by its
-- number, whatever check would follow. Assumes nothing.
use Prim.Native.Nat.{ℕ, zero, suc, ◌≤◌}
use native.Mathlib.Omega.{arith}
use mathlib.Core.Bool.{Bool, true, false, ◌&&◌, ◌||◌, cond}
use mathlib.Core.List.{List}
use mathlib.Core.Path.{◌≡◌, refl, sym, ap, ◌∙◌}
use lib.Ieee.{Float, Format, lt, le}
use Rattle.std.proofs.Common.{Result, Ok, Err}
use Rattle.model64.specs.declared.Pose.{Pose}
use Rattle.model64.specs.declared.Sweep.{Sweep}
use Rattle.model.specs.declared.Refusal.{Refusal}
use Rattle.model64.specs.Ground.{one}
use Rattle.model64.specs.Ground as Ground
use Rattle.model.specs.Domain.{bad_outline, numbered}
use Rattle.model64.specs.Domain.{limit, bad_parts, bad_radius, bad_rotation, bad_vector, bad_centres}
use Rattle.model64.specs.Domain.{pair_refusal, pose_refusal, sweeps_refusal, fraction_refusal, slop_refusal}
use Rattle.model.specs.Domain.{or_else, checked, refusal}
use Rattle.model64.specs.Domain.{checked_pose, refusal_of_pose}

-- ---- nothing is refused: by a test before others, by a check before others
pub test-passed : (t : Bool) (k x : ℕ) → cond t (suc k) x ≡ 0 → (t ≡ false) × (x ≡ 0)
test-passed true k x e = absurd (omega (arith, e))
test-passed false k x e = (refl, e)

pub neither-refused : (m n : ℕ) → or_else m n ≡ 0 → (m ≡ 0) × (n ≡ 0)
neither-refused zero n e = (refl, e)
neither-refused (suc m) n e = absurd (omega (arith, e))

-- ---- no number is above k: of a test before others, of a check before others
pub test-most : (k : ℕ) (t : Bool) (m n : ℕ) → m ≤ k → n ≤ k → cond t m n ≤ k
test-most k true m n g h = g
test-most k false m n g h = h

pub first-most : (k m n : ℕ) → m ≤ k → n ≤ k → or_else m n ≤ k
first-most k zero n g h = h
first-most k (suc m) n g h = g

pub pair-at-most-4 : (f : Format) (a b : List Float) (ra rb : Float) → pair_refusal f a b ra rb ≤ 4
pair-at-most-4 f a b ra rb =
    test-most 4 (bad_outline a) 1 _ (omega arith)
    (test-most 4 (bad_outline b) 2 _ (omega arith)
    (test-most 4 (bad_parts f a || bad_parts f b) 3 _ (omega arith)
    (test-most 4 (bad_radius f ra || bad_radius f rb) 4 0 (omega arith) (omega arith))))

pub pose-at-most-6 : (f : Format) (p : Pose) → pose_refusal f p ≤ 6
pose-at-most-6 f p =
    test-most 6 (bad_rotation f p.rotation) 5 _ (omega arith) (test-most 6 (bad_vector f p.translation) 6 0 (omega arith) (omega arith))

pub moves-at-most-6 : (f : Format) (u w : Sweep) → sweeps_refusal f u w ≤ 6
moves-at-most-6 f u w =
    test-most 6 (bad_rotation f u.q1 || bad_rotation f u.q2 || bad_rotation f w.q1 || bad_rotation f w.q2) 5 _ (omega arith)
    (test-most 6 (bad_centres f u || bad_centres f w) 6 0 (omega arith) (omega arith))

pub fraction-at-most-7 : (f : Format) (t : Float) → fraction_refusal f t ≤ 7
fraction-at-most-7 f t = test-most 7 (le (Ground.zero f) t && le t (one f)) 0 7 (omega arith) (omega arith)

pub slop-at-most-8 : (f : Format) (x : Float) → slop_refusal f x ≤ 8
slop-at-most-8 f x = test-most 8 (lt (Ground.zero f) x && le x (limit f)) 0 8 (omega arith) (omega arith)

-- ---- what a check's answer says
passed-is-0 : (k : ℕ) → checked k ≡ Ok tt → k ≡ 0
unfolding checked
passed-is-0 zero e = refl
passed-is-0 (suc k) e = absurd (let z : ◌≡◌ {A = ℕ} 0 1 = cc in omega arith)

good-pose : (x : Result Unit Refusal) (p q : Pose) → checked_pose x p ≡ Ok q → (x ≡ Ok tt) × (q ≡ p)
unfolding checked_pose
good-pose (Ok tt) p q e = (refl, cc)
good-pose (Err r) p q e = absurd (let z : ◌≡◌ {A = ℕ} 0 1 = cc in omega arith)

bad-pose : (x : Result Unit Refusal) (p : Pose) (r : Refusal) → checked_pose x p ≡ Err r → x ≡ Err r
unfolding checked_pose
bad-pose (Ok tt) p r e = absurd (let z : ◌≡◌ {A = ℕ} 0 1 = cc in omega arith)
bad-pose (Err q) p r e = let same : q ≡ r = cc in ap Err same

-- Answers by the number of a refusal, where any number above 0 is refused by it. Of a chain of checks, `answer k` is what a first number k gives
-- before the rest.
module _ {A : Type 0} (answer refuse : ℕ → A) (refuses : (n : ℕ) → refuse (suc n) ≡ answer (suc n)) where
  number-refused : (k : ℕ) (r : Refusal) → checked k ≡ Err r → refuse r.number ≡ answer k
  unfolding checked
  number-refused zero r e = absurd (let z : ◌≡◌ {A = ℕ} 0 1 = cc in omega arith)
  number-refused (suc k) r e = let same : r ≡ numbered (suc k) = cc in rw same (refuses k)

  module _ (k : ℕ) (x : Result Unit Refusal) (is : x ≡ checked k) where
    pub passed : x ≡ Ok tt → answer 0 ≡ answer k
    passed e = ap answer (sym (passed-is-0 k (sym is ∙ e)))

    pub refused : (r : Refusal) → x ≡ Err r → (j : ℕ) → j ≡ refusal x → refuse j ≡ answer k
    refused r e j ej = rw (ej ∙ ap refusal e) (number-refused k r (sym is ∙ e))

  module _ (k : ℕ) (p : Pose) (y : Result Pose Refusal) (is : y ≡ checked_pose (checked k) p) where
    pub pose-passed : (q : Pose) → y ≡ Ok q → (answer 0 ≡ answer k) × (q ≡ p)
    pose-passed q e =
        let (good, same) = good-pose (checked k) p q (sym is ∙ e) in
        (passed k (checked k) refl good, same)

    pub pose-refused : (r : Refusal) → y ≡ Err r → (j : ℕ) → j ≡ refusal_of_pose y → refuse j ≡ answer k
    pose-refused r e j ej = rw (ej ∙ ap refusal_of_pose e) (number-refused k r (bad-pose (checked k) p r (sym is ∙ e)))
