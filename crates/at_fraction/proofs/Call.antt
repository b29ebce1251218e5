-- The endings of `pose_at` and `gap_at`, one law each: the first refusal of the checks, or the answer. Assumes nothing.
use Prim.Native.Nat.{ℕ, suc}
use mathlib.Core.List.{List}
use mathlib.Core.Path.{◌≡◌, refl, sym, ap, ◌∙◌}
use lib.Ieee.{Float, Format}
use Rattle.std.proofs.Common.{Result, Ok, Err}
use Rattle.std.proofs.lemmas.Result.{err_from_is_err_and}
use Rattle.std.specs.Result.{IsErrAnd}
use Rattle.model.specs.declared.Sweep.{Sweep}
use Rattle.model.specs.declared.Pose.{Pose}
use Rattle.model.specs.declared.Refusal.{Refusal}
use Rattle.model.specs.Ground as Ground
use Rattle.model.specs.Domain.{pair_refusal, sweeps_refusal, fraction_refusal, or_else, checked, refusal, numbered}
use Rattle.model.specs.Sweep.{transform_at}
use Rattle.model.proofs.Domain.{passed, refused}
use Rattle.at_fraction.specs.Moment.{pose_by, pose_at, gap, gap_by, gap_at}

-- what `?` returns of a refusal
handed_on : {A : Type 0} (a : Result A Refusal) (r : Refusal) → IsErrAnd a (λ e. e ≡ r) → a ≡ Err r
handed_on a r h = let (e, is, same) = err_from_is_err_and a h in is ∙ ap Err same

-- two checks, the moves' before the fraction's, with the numbers k and m; `answer` says what a first refusal gives
module _ {A : Type 0} (answer refuse : ℕ → A) (refuses : (n : ℕ) → refuse (suc n) ≡ answer (suc n)) (k m : ℕ)
    (x : Result Unit Refusal) (ex : x ≡ checked k) where
  first-refused : (r : Refusal) → x ≡ Err r → (j : ℕ) → j ≡ refusal x → refuse j ≡ answer (or_else k m)
  first-refused = refused (λ i. answer (or_else i m)) refuse refuses k x ex

  first-passed : x ≡ Ok tt → answer m ≡ answer (or_else k m)
  first-passed = passed (λ i. answer (or_else i m)) refuse refuses k x ex

  module _ (gx : x ≡ Ok tt) (y : Result Unit Refusal) (ey : y ≡ checked m) where
    second-refused : (r : Refusal) → y ≡ Err r → (j : ℕ) → j ≡ refusal y → refuse j ≡ answer (or_else k m)
    second-refused n g j ej = refused answer refuse refuses m y ey n g j ej ∙ first-passed gx

    both-passed : y ≡ Ok tt → answer 0 ≡ answer (or_else k m)
    both-passed g = passed answer refuse refuses m y ey g ∙ first-passed gx

module _ (f : Format) (w : Sweep) (t : Float) (x : Result Unit Refusal) (ex : x ≡ checked (sweeps_refusal f w w)) where
  pub move-refused : (r : Refusal) → x ≡ Err r → (a : Result Pose Refusal) → IsErrAnd a (λ e. e ≡ r) → a ≡ pose_at f w t
  unfolding pose_at
  move-refused r g a h =
      handed_on a r h ∙ first-refused (pose_by f w t) (λ n. Err (numbered n)) (λ n. refl) _ _ x ex r g r.number (sym (ap refusal g))

  module _ (gx : x ≡ Ok tt) (y : Result Unit Refusal) (ey : y ≡ checked (fraction_refusal f t)) where
    pub time-refused : (r : Refusal) → y ≡ Err r → (a : Result Pose Refusal) → IsErrAnd a (λ e. e ≡ r) → a ≡ pose_at f w t
    unfolding pose_at
    time-refused r g a h =
        handed_on a r h
        ∙ second-refused (pose_by f w t) (λ n. Err (numbered n)) (λ n. refl) _ _ x ex gx y ey r g r.number (sym (ap refusal g))

    pub posed : y ≡ Ok tt → (p : Pose) → p ≡ transform_at f w t → Ok p ≡ pose_at f w t
    unfolding pose_at
    posed g p is = ap Ok is ∙ both-passed (pose_by f w t) (λ n. Err (numbered n)) (λ n. refl) _ _ x ex gx y ey g

module _ (f : Format) (a : List Float) (wa : Sweep) (b : List Float) (wb : Sweep) (t : Float) where
  abbrev by : ℕ → Result Float Refusal
  by = gap_by f a wa b wb t

  abbrev answer : Result Float Refusal
  answer = gap_at f a wa b wb t

  abbrev pairs : ℕ
  pairs = pair_refusal f a b (Ground.zero f) (Ground.zero f)

  abbrev later : ℕ
  later = or_else (sweeps_refusal f wa wb) (fraction_refusal f t)

  module _ (x : Result Unit Refusal) (ex : x ≡ checked pairs) where
    pub pair-refused : (r : Refusal) → x ≡ Err r → (j : ℕ) → j ≡ refusal x → Err (numbered j) ≡ answer
    unfolding gap_at
    pair-refused = first-refused by (λ n. Err (numbered n)) (λ n. refl) pairs later x ex

    module _ (gx : x ≡ Ok tt) (y : Result Unit Refusal) (ey : y ≡ checked (sweeps_refusal f wa wb)) where
      after-pair : by later ≡ answer
      unfolding gap_at
      after-pair = first-passed by (λ n. Err (numbered n)) (λ n. refl) pairs later x ex gx

      pub moves-refused : (r : Refusal) → y ≡ Err r → (d : Result Float Refusal) → IsErrAnd d (λ e. e ≡ r) → d ≡ answer
      moves-refused r g d h =
          handed_on d r h
          ∙ first-refused by (λ n. Err (numbered n)) (λ n. refl) (sweeps_refusal f wa wb) (fraction_refusal f t) y ey r g r.number (sym (ap refusal g))
          ∙ after-pair

      module _ (gy : y ≡ Ok tt) (z : Result Unit Refusal) (ez : z ≡ checked (fraction_refusal f t)) where
        pub fraction-refused : (r : Refusal) → z ≡ Err r → (d : Result Float Refusal) → IsErrAnd d (λ e. e ≡ r) → d ≡ answer
        fraction-refused r g d h =
            handed_on d r h
            ∙ second-refused by (λ n. Err (numbered n)) (λ n. refl) (sweeps_refusal f wa wb) (fraction_refusal f t) y ey gy z ez
            r g r.number (sym (ap refusal g))
            ∙ after-pair

        pub measured : z ≡ Ok tt → (d : Float) → d ≡ gap f a wa b wb t → Ok d ≡ answer
        measured g d is =
            ap Ok is ∙ both-passed by (λ n. Err (numbered n)) (λ n. refl) (sweeps_refusal f wa wb) (fraction_refusal f t) y ey gy z ez g ∙ after-pair
