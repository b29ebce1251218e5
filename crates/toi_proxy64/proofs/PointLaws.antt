-- Written by tests/written/wide.py from toi_proxy, in f64.
-- Taking the points one by one answers as `support` does on their flat list. Assumes nothing.
use Prim.Native.Nat.{ℕ, ◌+◌, ◌*◌, ◌%◌, ◌^◌, ◌<◌, ◌≤◌}
use native.Mathlib.Omega.{arith}
use native.Mathlib.Numerals.{add-one}
use mathlib.Core.Bool.{Bool, true, false, ◌||◌, cond, or-false, or_assoc}
use mathlib.Core.Path.{◌≡◌, refl, sym, ap, subst, ◌∙◌}
use mathlib.Core.List.{List, [], ◌∷◌}
use lib.Dec.{T, eqb, ltb, eqb-suc-zero, eqb→eq, eqb_refl, ltb→lt, lt→ltb}
use lib.ListN.{drop, length, drop_of_length-le}
use lib.Seq.{drop-cons}
use lib.Ieee.{Float, Format, lt, eq}
use Rattle.std.proofs.Common.{Ok, Err}
use Rattle.model64.specs.declared.Vector.{Vector}
use Rattle.model.specs.declared.SupportPair.{SupportPair}
use Rattle.model64.specs.Ground.{vector, minus, dot}
use Rattle.model64.specs.Ground as Ground
use Rattle.model.specs.Domain.{numbered}
use Rattle.model64.specs.Domain.{bad_part, bad_vector, bad_parts}
use Rattle.model64.specs.Support.{support_from}
use Rattle.model.specs.Second.{support_by}
use Rattle.model64.specs.Second.{second_from, pair, support_answer}
use Rattle.toi_proxy64.specs.declared.point_list.Farthest.{Farthest}
use Rattle.toi_proxy64.specs.Points.{flat, no_point, point_of, farthest, taken, answer_of}

abbrev pub start : Format → Farthest
start f = farthest (Ground.zero f) (Ground.zero f) false 0 0 (Ground.zero f)

-- all points of a list, the first of which has the index i
unfoldable pub taken_from : Format → Vector → Farthest → ℕ → List Vector → Farthest
taken_from f d s i [] = s
taken_from f d s i (p ∷ ps) = taken_from f d (taken f d s i p) (i + 1) ps

-- ---- the first point, and a later one; b says whether it has a bad part
module _ (f : Format) (d : Vector) (s : Farthest) (i : ℕ) (p : Vector) where
  abbrev value_at : Float
  value_at = dot f d (minus f p (vector s.x s.y))

  abbrev later : Farthest
  later =
      farthest s.x s.y (s.bad || bad_vector f p) (cond (lt s.value value_at) i s.best)
      (cond (lt s.value value_at) i (cond (eq value_at s.value) i s.second)) (cond (lt s.value value_at) value_at s.value)

  later-taken : eqb i 0 ≡ false → taken f d s i p ≡ later
  unfolding taken
  later-taken h = rw h

  module _ (b : Bool) (e : b ≡ bad_vector f p) where
    pub first_taken : eqb i 0 ≡ true → farthest p.x p.y (s.bad || b) 0 0 (Ground.zero f) ≡ taken f d s i p
    unfolding taken
    first_taken h = rw (e, h)

    pub better-taken : eqb i 0 ≡ false → lt s.value value_at ≡ true → farthest s.x s.y (s.bad || b) i i value_at ≡ taken f d s i p
    unfolding taken
    better-taken h up = rw (e, h, up)

    pub equal-taken : eqb i 0 ≡ false → lt s.value value_at ≡ false → eq value_at s.value ≡ true →
        farthest s.x s.y (s.bad || b) s.best i s.value ≡ taken f d s i p
    unfolding taken
    equal-taken h not-up level = rw (e, h, not-up, level)

    pub worse-taken : eqb i 0 ≡ false → lt s.value value_at ≡ false → eq value_at s.value ≡ false →
        farthest s.x s.y (s.bad || b) s.best s.second s.value ≡ taken f d s i p
    unfolding taken
    worse-taken h not-up not-level = rw (e, h, not-up, not-level)

same-bad : (t : Bool) (u w : Farthest) → u.bad ≡ w.bad → (cond t u w).bad ≡ w.bad
same-bad true u w e = e
same-bad false u w e = refl

bad-taken : (f : Format) (d : Vector) (s : Farthest) (i : ℕ) (p : Vector) → (taken f d s i p).bad ≡ (s.bad || bad_vector f p)
unfolding taken
bad-taken f d s i p = same-bad (eqb i 0) _ _ refl

-- ---- one turn, and the end
pub goes_on : (f : Format) (d : Vector) (ps : List Vector) (i : ℕ) (s : Farthest) → i < length ps → taken_from f d s i (drop i ps)
    ≡ taken_from f d (taken f d s i (point_of ps i)) (i + 1) (drop (i + 1) ps)
unfolding taken_from
goes_on f d ps i s h =
    let e : drop i ps ≡ point_of ps i ∷ drop (i + 1) ps = rw (add-one i) (drop-cons ps i no_point h) in
    rw e

ends : (f : Format) (d : Vector) (ps : List Vector) (i : ℕ) (s : Farthest) → length ps ≤ i → taken_from f d s i (drop i ps) ≡ s
unfolding taken_from
ends f d ps i s h = rw (drop_of_length-le ps h)

-- ---- the whole
-- whether a part is bad
bad-from : (f : Format) (d : Vector) (ps : List Vector) (s : Farthest) (i : ℕ) → (taken_from f d s i ps).bad ≡ (s.bad || bad_parts f (flat ps))
unfolding taken_from bad_parts
bad-from f d [] s i = sym (or-false s.bad)
bad-from f d (p ∷ ps) s i =
    bad-from f d ps (taken f d s i p) (i + 1)
    ∙ ap (λ (t : Bool). t || bad_parts f (flat ps)) (bad-taken f d s i p)
    ∙ or_assoc s.bad (bad_vector f p) (bad_parts f (flat ps))
    ∙ ap (λ (t : Bool). s.bad || t) (or_assoc (bad_part f p.x) (bad_part f p.y) (bad_parts f (flat ps)))

-- the best of the later points
not_first : (i : ℕ) → eqb (i + 1) 0 ≡ false
not_first i = rw (add-one i) (eqb-suc-zero i)

best-from : (f : Format) (d : Vector) (ps : List Vector) (s : Farthest) (i : ℕ) → eqb i 0 ≡ false → (taken_from f d s i ps).best
    ≡ support_from f d (vector s.x s.y) (flat ps) i s.best s.value
unfolding taken_from support_from
best-from f d [] s i h = refl
best-from f d (p ∷ ps) s i h = ap (λ (t : Farthest). (taken_from f d t (i + 1) ps).best) (later-taken f d s i p h)
    ∙ best-from f d ps (later f d s i p) (i + 1) (not_first i)

second-from : (f : Format) (d : Vector) (ps : List Vector) (s : Farthest) (i : ℕ) → eqb i 0 ≡ false → (taken_from f d s i ps).second
    ≡ second_from f d (vector s.x s.y) (flat ps) i s.second s.value
unfolding taken_from second_from
second-from f d [] s i h = refl
second-from f d (p ∷ ps) s i h = ap (λ (t : Farthest). (taken_from f d t (i + 1) ps).second) (later-taken f d s i p h)
    ∙ second-from f d ps (later f d s i p) (i + 1) (not_first i)

-- the flat list's length
length-flat : (ps : List Vector) → length (flat ps) ≡ 2 * length ps
length-flat [] = refl
length-flat (p ∷ ps) = omega (arith, length-flat ps)

same_test : (a b : Bool) → (T a → T b) → (T b → T a) → a ≡ b
same_test true true to fro = refl
same_test true false to fro = absurd (to tt)
same_test false true to fro = absurd (fro tt)
same_test false false to fro = refl

is-equal : (m n : ℕ) → m ≡ n → T (eqb m n)
is-equal m n e = subst (λ (k : ℕ). T (eqb m k)) e (eqb_refl m)

outline-tests : (m n : ℕ) → m ≡ 2 * n → (eqb m 0 || eqb (m % 2) 1 || ltb 128 m) ≡ (eqb n 0 || ltb 64 n)
outline-tests m n e =
    let empty : eqb m 0 ≡ eqb n 0 = same_test _ _ (λ t. is-equal n 0 (omega (arith, e, eqb→eq m 0 t))) (λ t. is-equal m 0 (omega (arith, e, eqb→eq n 0 t))) in
    let even : eqb (m % 2) 1 ≡ false = same_test _ _ (λ t. omega (arith, e, eqb→eq (m % 2) 1 t)) (λ t. absurd t) in
    let long : ltb 128 m ≡ ltb 64 n = same_test _ _ (λ t. lt→ltb 64 n (omega (
      arith,
      e,
      ltb→lt 128 m t,
    ))) (λ t. lt→ltb 128 m (omega (arith, e, ltb→lt 64 n t))) in
    rw (empty, even, long) (or-middle (eqb n 0) (ltb 64 n))
  where
    or-middle : (a b : Bool) → (a || false || b) ≡ (a || b)
    or-middle true b = refl
    or-middle false b = refl

-- point 0 starts as the best
best-all : (f : Format) (d : Vector) (p : Vector) (ps : List Vector) → (taken_from f d (start f) 0 (p ∷ ps)).best
    ≡ support_from f d p (flat ps) 1 0 (Ground.zero f)
unfolding taken_from
best-all f d p ps =
    ap (λ (t : Farthest). (taken_from f d t 1 ps).best) (sym (first_taken f d (start f) 0 p (bad_vector f p) refl refl))
    ∙ best-from f d ps (farthest p.x p.y (bad_vector f p) 0 0 (Ground.zero f)) 1 refl

second-all : (f : Format) (d : Vector) (p : Vector) (ps : List Vector) → (taken_from f d (start f) 0 (p ∷ ps)).second
    ≡ second_from f d p (flat ps) 1 0 (Ground.zero f)
unfolding taken_from
second-all f d p ps =
    ap (λ (t : Farthest). (taken_from f d t 1 ps).second) (sym (first_taken f d (start f) 0 p (bad_vector f p) refl refl))
    ∙ second-from f d ps (farthest p.x p.y (bad_vector f p) 0 0 (Ground.zero f)) 1 refl

-- the answer by the three tests
by_cases : (none bad : Bool) (p : SupportPair) → cond none (Err (numbered 1)) (cond bad (Err (numbered 3)) (Ok p)) ≡ support_by (cond none 1 (cond bad 3 0)) p
by_cases true bad p = refl
by_cases false true p = refl
by_cases false false p = refl

by_tests : (none none' bad bad' : Bool) (i j k l : ℕ) → none' ≡ none → bad ≡ bad' → i ≡ j → k ≡ l →
    cond none (Err (numbered 1)) (cond bad (Err (numbered 3)) (Ok (pair (i % 2 ^ 32) (k % 2 ^ 32))))
    ≡ support_by (cond none' 1 (cond bad' 3 0)) (pair (j % 2 ^ 32) (l % 2 ^ 32))
by_tests none none' bad bad' i j k l n b first second = rw (n, b, first, second) (by_cases none bad' (pair (j % 2 ^ 32) (l % 2 ^ 32)))

answers : (f : Format) (d : Vector) (ps : List Vector) → answer_of (taken_from f d (start f) 0 ps) (length ps) ≡ support_answer f (flat ps) d
unfolding support_answer
answers f d [] = refl
answers f d (p ∷ ps) =
    by_tests _ _ _ _ _ _ _ _ (outline-tests _ _ (length-flat (p ∷ ps))) (bad-from f d (p ∷ ps) (start f) 0) (best-all f d p ps) (second-all f d p ps)

-- where all points are taken
pub finishes : (f : Format) (d : Vector) (ps : List Vector) (i : ℕ) (s : Farthest) → length ps ≤ i → taken_from f d s i (drop i ps)
    ≡ taken_from f d (start f) 0 ps → answer_of s (length ps) ≡ support_answer f (flat ps) d
finishes f d ps i s above e = ap (λ (t : Farthest). answer_of t (length ps)) (sym (ends f d ps i s above) ∙ e) ∙ answers f d ps
