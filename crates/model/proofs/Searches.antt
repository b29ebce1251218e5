-- The corners that a sweep tells are those of the last search that its count of searches counts, and nothing else of its answer moves: the searches are
-- as many as the answer counts, and of each the first corners are those of the least separation. Assumes nothing.
use Rattle.std.proofs.Common.{Result, Ok, Err}
use Prim.Native.Nat.{ℕ, zero, suc, ◌+◌, ◌-◌}
use native.Mathlib.Nat.{zero-add}
use native.Mathlib.Omega.{arith}
use mathlib.Core.Bool.{Bool, true, false, cond}
use mathlib.Core.List.{List, [], ◌∷◌, ◌++◌, append_assoc}
use mathlib.Core.Path.{◌≡◌, refl, sym, ap, ◌∙◌}
use lib.Ieee.{Float, Format, sub, lt, le}
use lib.ListN.{length, length-append}
use Rattle.model.specs.declared.Pose.{Pose}
use Rattle.model.specs.declared.Sweep.{Sweep}
use Rattle.model.specs.declared.SimplexCache.{SimplexCache}
use Rattle.model.specs.declared.SeparationType.{SeparationType}
use Rattle.model.specs.declared.SeparationType.TheVariants.{Points, FaceA, FaceB}
use Rattle.model.specs.declared.SeparationFunction.{SeparationFunction}
use Rattle.model.specs.declared.MinSeparation.{MinSeparation}
use Rattle.model.specs.declared.Corners.{Corners}
use Rattle.model.specs.declared.SweepTask.{SweepTask}
use Rattle.model.specs.declared.Closest.{Closest}
use Rattle.model.specs.declared.RootSearch.{RootSearch}
use Rattle.model.specs.declared.Counts.{Counts}
use Rattle.model.specs.declared.SweepAnswer.{SweepAnswer}
use Rattle.model.specs.declared.SweepAnswer.TheVariants.{Overlapped, Hit, Separated, Failed, Refused}
use Rattle.model.specs.declared.Verdict.{Verdict}
use Rattle.model.specs.declared.Refusal.{Refusal}
use Rattle.model.specs.Ground as Ground
use Rattle.model.specs.Sweep.{transform_at}
use Rattle.model.specs.Separation.{deepest_a, deepest_b, new_separation, evaluate, find_min_separation}
use Rattle.model.specs.SweepToi.{no_counts, called, searched, stepped, hit, separated, failed, overlapped, no_corners, PushEnd, ended, moved, onward}
use Rattle.model.specs.SweepToi.{closest_at, root_from, low, high, push_from, advance_by, advance_from, sweep_task, sweep_refusal, sweep_by, sweep_time_of_impact}
use Rattle.model.specs.Corners.{no_search, last_of, corners_a, corners_b, corners_at, afterwards, push_searches, searches_by, searches_from}
use Rattle.model.specs.Corners.{searches_or_none, sweep_searches, sweep}
use Rattle.model.specs.Text.{line}
use Rattle.model.specs.Work.{verdict, told_by}
use Rattle.model.specs.Sheet.{worked_fields, corner_fields, worked_line}

-- ---- the last of a list
pub last-append : (c : Corners) (xs ys : List Corners) → last_of c (xs ++ ys) ≡ last_of (last_of c xs) ys
unfolding last_of
last-append c [] ys = refl
last-append c (x ∷ xs) ys = last-append x xs ys

-- whatever came before
pub last-is-last : (c : Corners) (xs : List Corners) (x : Corners) → last_of c (xs ++ (x ∷ [])) ≡ x
unfolding last_of
last-is-last c xs x = last-append c xs (x ∷ [])

-- a list that comes twice ends as it does once
pub last-of-repeat : (c : Corners) (xs : List Corners) → last_of (last_of c xs) xs ≡ last_of c xs
unfolding last_of
last-of-repeat c [] = refl
last-of-repeat c (x ∷ xs) = refl

-- ---- one search: the first corners are those of the least separation
module _ (f : Format) (a b : List Float) (s : SeparationFunction) where
  pub first-a : (pa pb : Pose) (ty : SeparationType) → (corners_a f a s pa pb ty).first ≡ deepest_a f a s pa pb ty
  first-a pa pb Points = refl
  first-a pa pb FaceA = refl
  first-a pa pb FaceB = refl

  pub first-b : (pa pb : Pose) (ty : SeparationType) → (corners_b f b s pa pb ty).first ≡ deepest_b f b s pa pb ty
  first-b pa pb Points = refl
  first-b pa pb FaceA = refl
  first-b pa pb FaceB = refl

  pub first-of-a : (t : Float) → (corners_at f a b s t).a.first ≡ (find_min_separation f a b s t).index_a
  unfolding corners_at find_min_separation
  first-of-a t = first-a (transform_at f s.sweep_a t) (transform_at f s.sweep_b t) s.ty

  pub first-of-b : (t : Float) → (corners_at f a b s t).b.first ≡ (find_min_separation f a b s t).index_b
  unfolding corners_at find_min_separation
  first-of-b t = first-b (transform_at f s.sweep_a t) (transform_at f s.sweep_b t) s.ty

-- ---- as many searches as are counted
abbrev pub searches_counted : SweepAnswer → ℕ
searches_counted (Overlapped n) = n.searches
searches_counted (Hit x n) = n.searches
searches_counted (Separated x n) = n.searches
searches_counted (Failed x n) = n.searches
searches_counted (Refused k) = 0

-- n counts before a list of searches, and the answer counts them all
abbrev Adds : ℕ → List Corners → SweepAnswer → Type 0
Adds n xs x = searches_counted x ≡ n + length xs

abbrev PushAdds : ℕ → List Corners → PushEnd → Type 0
PushAdds n xs (ended x) = Adds n xs x
PushAdds n xs (moved t m) = m.searches ≡ n + length xs

-- two things that go by one test
together : {A B : Type 0} (P : A → B → Type 0) (t : Bool) {x y : A} {z w : B} → P x z → P y w → P (cond t x y) (cond t z w)
together P true p q = p
together P false p q = q

module _ (f : Format) (w : SweepTask) (a b : List Float) where
  pushes-add : (g : SeparationFunction) (t1 : Float) (x : Closest) (k : ℕ) (t2 : Float) (n : Counts) →
      PushAdds n.searches (push_searches f w a b g t1 k t2) (push_from f w a b g t1 x k t2 n)
  unfolding push_from push_searches
  pushes-add g t1 x zero t2 n = omega arith
  pushes-add g t1 x (suc k) t2 n =
      together Both (lt w.tolerance (sub f m.separation w.target)) {x = []} {z = ended (separated f w.t_max now)} (omega arith)
      (together Both (le (low f w) m.separation) {x = []} {z = moved t2 now} (omega arith)
      (together Both (lt s1 (low f w)) {x = []} {z = ended (failed f t1 now)} (omega arith)
      (together Both (le s1 (high f w)) {x = []} {z = ended (hit t1 x now)} (omega arith)
      (one_more (push_searches f w a b g t1 k root.t) (push_from f w a b g t1 x k root.t (stepped now root.steps))
      (pushes-add g t1 x k root.t (stepped now root.steps))))))
    where
      m : MinSeparation
      m = find_min_separation f a b g t2

      s1 : Float
      s1 = evaluate f a b g m.index_a m.index_b t1

      root : RootSearch
      root = root_from f w a b g m.index_a m.index_b t2 50 t1 t2 s1 m.separation 0

      now : Counts
      now = searched n

      Both : List Corners → PushEnd → Type 0
      Both xs e = PushAdds n.searches (corners_at f a b g t2 ∷ xs) e

      one_more : (xs : List Corners) (e : PushEnd) → PushAdds (n.searches + 1) xs e → Both xs e
      one_more xs (ended y) h = omega (arith, h)
      one_more xs (moved t v) h = omega (arith, h)

  onward-adds : (n : ℕ) (xs : List Corners) (e : PushEnd) (go : Float → Counts → SweepAnswer) (more : Float → Counts → List Corners) →
      PushAdds n xs e → ((t : Float) (m : Counts) → Adds m.searches (more t m) (go t m)) → Adds n (xs ++ afterwards f e more) (onward e go)
  onward-adds n xs (ended x) go more p h = rw (length-append xs []) (omega (arith, p))
  onward-adds n xs (moved t m) go more p h = rw (length-append xs (more t m)) (omega (arith, p, h t m))

  call-adds : (t1 : Float) (x : Closest) (n : Counts) (go : Float → Counts → SweepAnswer) (more : Float → Counts → List Corners) →
      ((t : Float) (m : Counts) → Adds m.searches (more t m) (go t m)) → Adds n.searches (searches_by f w a b t1 x n more) (advance_by f w a b t1 x n go)
  call-adds t1 x n go more h =
      together (Adds n.searches) (le x.distance (Ground.zero f)) {x = []} {z = overlapped n} (omega arith)
      (together (Adds n.searches) (le x.distance (high f w)) {x = []} {z = hit t1 x n} (omega arith)
      (onward-adds n.searches (push_searches f w a b g t1 8 w.t_max) (push_from f w a b g t1 x 8 w.t_max n) go more
      (pushes-add g t1 x 8 w.t_max n) h))
    where
      g : SeparationFunction
      g = new_separation f w.sweep_a w.sweep_b a b x.cache t1

  advance-adds : (k : ℕ) (t1 : Float) (c : SimplexCache) (n : Counts) → Adds n.searches (searches_from f w a b k t1 c n) (advance_from f w a b k t1 c n)
  unfolding advance_from searches_from
  advance-adds zero t1 c n = call-adds t1 (closest_at f w a b t1 c) (called n) _ _ (λ t m. omega arith)
  advance-adds (suc k) t1 c n =
      call-adds t1 (closest_at f w a b t1 c) (called n) _ _ (λ t m. advance-adds k t (closest_at f w a b t1 c).cache m)

-- ---- the call
module _ (f : Format) (a : List Float) (ra : Float) (wa : Sweep) (b : List Float) (rb : Float) (wb : Sweep) (tmax slop : Float) where
  counted-by : (k : ℕ) → searches_counted (sweep_by f a ra wa b rb wb tmax slop k) ≡ length (searches_or_none f a ra wa b rb wb tmax slop k)
  counted-by zero = advance-adds f (sweep_task f ra wa rb wb tmax slop) a b 19 (Ground.zero f) no_corners no_counts ∙ zero-add _
  counted-by (suc k) = refl

  pub searches-are-counted : searches_counted (sweep_time_of_impact f a ra wa b rb wb tmax slop) ≡ length (sweep_searches f a ra wa b rb wb tmax slop)
  unfolding sweep_time_of_impact
  searches-are-counted = counted-by (sweep_refusal f a ra wa b rb wb tmax slop)

  -- the answer without its corners is the one that it was
  pub answer-as-ever : (sweep f a ra wa b rb wb tmax slop).answer ≡ sweep_time_of_impact f a ra wa b rb wb tmax slop
  unfolding sweep
  answer-as-ever = refl

  pub corners-of-the-last : (sweep f a ra wa b rb wb tmax slop).corners ≡ last_of no_search (sweep_searches f a ra wa b rb wb tmax slop)
  unfolding sweep
  corners-of-the-last = refl

-- ---- the block and its line
abbrev with_corners : Corners → Result Verdict Refusal → Result Verdict Refusal
with_corners k (Ok v) = Ok (verdict v.status v.contact v.counts k)
with_corners k (Err r) = Err r

-- what a sweep's answer comes to is the same whatever its corners are, these set aside
pub told-as-ever : (f : Format) (k : Corners) (x : SweepAnswer) → with_corners no_search (told_by f k x) ≡ told_by f no_search x
told-as-ever f k (Overlapped n) = refl
told-as-ever f k (Hit c n) = refl
told-as-ever f k (Separated c n) = refl
told-as-ever f k (Failed c n) = refl
told-as-ever f k (Refused number) = refl

-- fields with a blank between
unfoldable pub joined : List (List ℕ) → List ℕ
joined [] = []
joined (x ∷ []) = x
joined (x ∷ y ∷ r) = x ++ (32 ∷ joined (y ∷ r))

pub line-ends : (xs : List (List ℕ)) → line xs ≡ joined xs ++ (10 ∷ [])
unfolding line joined
line-ends [] = refl
line-ends (x ∷ []) = refl
line-ends (x ∷ y ∷ r) = rw (line-ends (y ∷ r)) (sym (append_assoc x (32 ∷ joined (y ∷ r)) (10 ∷ [])))

line-goes-on : (x : List ℕ) (xs : List (List ℕ)) (y : List ℕ) (ys : List (List ℕ)) →
    line ((x ∷ xs) ++ (y ∷ ys)) ≡ joined (x ∷ xs) ++ (32 ∷ line (y ∷ ys))
unfolding line joined
line-goes-on x [] y ys = refl
line-goes-on x (z ∷ r) y ys = rw (line-goes-on z r y ys) (sym (append_assoc x (32 ∷ joined (z ∷ r)) (32 ∷ line (y ∷ ys))))

-- the fields as they were, which `line-ends` makes the line that it was; then a blank and the four
pub line-as-ever : (f : Format) (n job : ℕ) (v : Verdict) →
    worked_line f n job v ≡ joined (worked_fields f n job v) ++ (32 ∷ line (corner_fields v.corners))
unfolding worked_line
line-as-ever f n job v = line-goes-on _ _ _ _
