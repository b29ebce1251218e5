-- A call that is answered has its inputs in the domain: the outlines have 1 to 64 points, and whole-number parts are at most 1,048,576 in size. Assumes nothing.
use mathlib.Core.Path.{◌≡◌, refl, sym, subst}
use mathlib.Core.Bool.{Bool, true, false, not, ◌||◌, cond, true≢false}
use mathlib.Core.List.{List, [], ◌∷◌}
use Prim.Native.Nat.{ℕ, zero, suc, ◌+◌, ◌*◌, ◌/◌, ◌%◌, ◌≤◌, ◌<◌}
use native.Mathlib.Nat.{not-suc-le-zero, le_of_suc-le-suc}
use native.Mathlib.Omega.{arith}
use borrow.Author.Tests.{eqb-false, ltb-false}
use lib.Dec.{eqb, ltb}
use lib.ListN.{length, get_or}
use lib.Ieee.{Float, nan, inf, fin, Format, binary32, binary64, of_bits}
use lib.Ieee as I
use Rattle.integers.specs.Signed.{Int, of_nat, ◌≼◌, ◌≺◌, ◌≃◌}
use Rattle.integers.specs.Whole.{signed, IsWhole, Within, Test}
use Rattle.integers.proofs.Compare.{le-exact}
use Rattle.model.specs.declared.Pose.{Pose}
use Rattle.model.specs.declared.SimplexCache.{SimplexCache}
use Rattle.model.specs.Ground.{abs}
use Rattle.model.specs.Domain.{bad_outline, limit, bad_part, bad_parts, bad_rotation, bad_vector, pair_refusal, pose_refusal, cache_refusal}
use Rattle.model.specs.Distance.{inputs_refusal, distance_refusal}
use Rattle.model.proofs.Domain.{test-passed, neither-refused}
use Rattle.model.proofs.DistanceCall.{neither}
use Rattle.exact.specs.SquaredPaper.{SquaredPaper}
use Rattle.exact.proofs.Paper.{InDomain}

-- ---- an outline's length
good-outline : (s : List Float) → bad_outline s ≡ false → (0 < length s / 2) × (length s ≤ 128)
good-outline s h =
    let (first, long) = neither (eqb (length s) 0 || eqb (length s % 2) 1) (ltb 128 (length s)) h in
    let (empty, odd) = neither (eqb (length s) 0) (eqb (length s % 2) 1) first in
    sized (length s) (eqb-false (length s) 0 empty) (eqb-false (length s % 2) 1 odd) (ltb-false 128 (length s) long)
  where
    sized : (n : ℕ) → (n ≡ 0 → ⊥) → (n % 2 ≡ 1 → ⊥) → n ≤ 128 → (0 < n / 2) × (n ≤ 128)
    sized zero h k l = absurd (h refl)
    sized (suc zero) h k l = absurd (k refl)
    sized (suc (suc n)) h k l = (omega arith, l)

-- ---- a part
pub limit-whole : (f : Format) → IsWhole (limit f) (of_nat 1048576)
unfolding of_bits
limit-whole binary32 = record { sign = false; size = 1048576; value = (refl, refl); same = refl }
limit-whole binary64 = record { sign = false; size = 1048576; value = (refl, refl); same = refl }

module _ (f : Format) where
  pub abs-whole : (x : Float) (z : Int) (i : IsWhole x z) → IsWhole (abs x) (of_nat i.size)
  unfolding abs
  abs-whole nan z i = absurd i.value
  abs-whole (inf s) z i = absurd i.value
  abs-whole (fin s m e) z i = record { sign = false; size = i.size; value = (refl, i.value.1); same = refl }

  good-part : {x : Float} {z : Int} → IsWhole x z → bad_part f x ≡ false → Within 1048576 z
  good-part {x} {z} i h = go (I.le (abs x) (limit f)) h (le-exact (abs x) (limit f) (of_nat i.size) (of_nat 1048576) (abs-whole x z i) (limit-whole f))
    where
      within : (s : Bool) (n : ℕ) → signed s n ≃ z → n ≤ 1048576 → Within 1048576 z
      within true n e l = record { upper = omega arith; lower = omega arith }
      within false n e l = record { upper = omega arith; lower = omega arith }

      go : (t : Bool) → not t ≡ false → Test t (of_nat i.size ≼ of_nat 1048576) (of_nat 1048576 ≺ of_nat i.size) → Within 1048576 z
      go true h l = within i.sign i.size i.same (omega arith)
      go false h l = absurd (true≢false h)

  good-parts : (s : List Float) (i : ℕ) → bad_parts f s ≡ false → i < length s → bad_part f (get_or s i nan) ≡ false
  unfolding bad_parts
  good-parts [] i h l = absurd (not-suc-le-zero l)
  good-parts (x ∷ s) zero h l = (neither (bad_part f x) (bad_parts f s) h).0
  good-parts (x ∷ s) (suc i) h l = good-parts s i (neither (bad_part f x) (bad_parts f s) h).1 (le_of_suc-le-suc l)

-- ---- the inputs
pub answered-in-domain : (f : Format) {bound : ℕ} {p : Pose} {a b : List Float} (ra rb : Float) (paper : SquaredPaper bound p a b)
    (pair : ℕ) (c : SimplexCache) → distance_refusal f p a ra b rb pair c ≡ 0 → InDomain paper
answered-in-domain f {p = p} {a} {b} ra rb paper pair c h =
    let (inputs, _) = neither-refused (inputs_refusal f p a ra b rb) (cache_refusal pair c) h in
    let (pairs, poses) = neither-refused (pair_refusal f a b ra rb) (pose_refusal f p) inputs in
    let (good_a, rest) = test-passed (bad_outline a) 0 _ pairs in
    let (good_b, rest') = test-passed (bad_outline b) 1 _ rest in
    let (good_parts, _) = test-passed (bad_parts f a || bad_parts f b) 2 _ rest' in
    let (_, parts_b) = neither (bad_parts f a) (bad_parts f b) good_parts in
    let (_, moves) = test-passed (bad_rotation f p.rotation) 4 _ poses in
    let (good_shift, _) = test-passed (bad_vector f p.translation) 5 _ moves in
    let (good_x, good_y) = neither (bad_part f p.translation.x) (bad_part f p.translation.y) good_shift in
    let (some_a, few_a) = good-outline a good_a in
    let (some_b, few_b) = good-outline b good_b in
    record {
      some_a = some_a;
      some_b = some_b;
      few_a = few_a;
      few_b = few_b;
      small_b = λ j l. record {
        x = good-part f (paper.whole_b j l).x (good-parts f b (2 * j) parts_b (omega arith));
        y = good-part f (paper.whole_b j l).y (good-parts f b (2 * j + 1) parts_b (omega arith));
      };
      small_shift = record { x = good-part f paper.whole_shift.x good_x; y = good-part f paper.whole_shift.y good_y };
    }
