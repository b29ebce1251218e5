-- Which numbers a block can be refused by: 3 to 11, and 13. A block that passed its checks has 1 to 16 points an outline, so that 1 and 2 cannot occur,
-- and no sweep that was begun is refused. Assumes nothing.
use Rattle.std.proofs.Common.{Ok}
use mathlib.Core.Path.{◌≡◌, refl, ap}
use mathlib.Core.Bool.{Bool, true, false, not, ◌||◌, ◌&&◌, cond}
use mathlib.Core.List.{List, [], ◌∷◌, ◌++◌}
use Prim.Native.Nat.{ℕ, zero, suc, ◌+◌, ◌*◌, ◌/◌, ◌%◌, ◌^◌, ◌≤◌, ◌<◌}
use native.Mathlib.Omega.{arith}
use borrow.Author.Tests.{ltb-false, eqb-false, le-ltb, ne_eqb}
use lib.Dec.{eqb, ltb}
use lib.Ieee.{Float, Format, binary32, sub, lt, le}
use lib.ListN.{length, drop, take}
use Rattle.model.specs.declared.Sweep.{Sweep}
use Rattle.model.specs.declared.SweepTask.{SweepTask}
use Rattle.model.specs.declared.SeparationFunction.{SeparationFunction}
use Rattle.model.specs.declared.Closest.{Closest}
use Rattle.model.specs.declared.SimplexCache.{SimplexCache}
use Rattle.model.specs.declared.Counts.{Counts}
use Rattle.model.specs.declared.Contact.{Contact}
use Rattle.model.specs.declared.Corners.{Corners}
use Rattle.model.specs.declared.SweepAnswer.{SweepAnswer}
use Rattle.model.specs.declared.SweepAnswer.TheVariants as Answered
use Rattle.model.specs.Ground.{one}
use Rattle.model.specs.Ground as Ground
use Rattle.model.specs.Separation.{new_separation, find_min_separation, evaluate}
use Rattle.model.specs.Domain.{limit, bad_outline, bad_parts, bad_radius, bad_rotation, bad_centres, pair_refusal, sweeps_refusal, fraction_refusal}
use Rattle.model.specs.Domain.{slop_refusal, or_else}
use Rattle.model.specs.SweepToi.{PushEnd, ended, moved, onward, max_root_iterations, max_push_back_iterations, called, searched, stepped, nowhere, there}
use Rattle.model.specs.SweepToi.{failed_at, low, high, closest_at, advance_by, root_from, push_from, advance_from, advance, sweep_task, sweep_refusal}
use Rattle.model.specs.SweepToi.{sweep_by, sweep_time_of_impact}
use Rattle.model.specs.Corners.{sweep}
use Rattle.model.specs.Support.{point}
use Rattle.model.specs.Wire.{byte}
use Rattle.model.specs.Block.{known_form, check_holds, bad_count, zeros_hold, bad_fields, job_of, block_of, checked_block, refused}
use Rattle.model.specs.Work.{floats_at, numbers_of, points_a, points_b, move_at, sweep_for, sweep_of, told_by, of_job, answer_by, block_answer, BlockAnswer}
use Rattle.model.specs.Blocks.{whole_blocks}
use Rattle.model.specs.Sheet.{whole_answers, answers}
use Rattle.model.proofs.Sheet.{answers-cut}
use Rattle.report_counts.specs.Report.{every_answer, report}
use Rattle.report_counts.proofs.Tally.{by-test}
use Rattle.report_batches.specs.Batches.{answers_of}
use Rattle.report_batches.specs.Told.{AddsUp, Given}
use Rattle.report_batches.proofs.AddUp.{NumberGiven, NumbersGiven, counts-add-up}

-- ---- a sweep that was begun is not refused
unfoldable Begun : SweepAnswer → Type 0
Begun (Answered.Overlapped n) = Unit {0}
Begun (Answered.Hit c n) = Unit {0}
Begun (Answered.Separated c n) = Unit {0}
Begun (Answered.Failed c n) = Unit {0}
Begun (Answered.Refused number) = ⊥

unfoldable BegunPush : PushEnd → Type 0
BegunPush (ended x) = Begun x
BegunPush (moved t n) = Unit {0}

begun-onward : (e : PushEnd) (go : Float → Counts → SweepAnswer) → BegunPush e → ((t : Float) (n : Counts) → Begun (go t n)) → Begun (onward e go)
unfolding Begun BegunPush
begun-onward (ended x) go p q = p
begun-onward (moved t n) go p q = q t n

begun-failed : (c : Contact) (n : Counts) → Begun (Answered.Failed c n)
unfolding Begun
begun-failed c n = tt

begun-moved : (t : Float) (n : Counts) → BegunPush (moved t n)
unfolding BegunPush
begun-moved t n = tt

-- by the tests of a push-back, and by those of a distance call
begun-pushed : (p q r s : Bool) (t : Float) (n : Counts) (c d e : Contact) (rest : PushEnd) → BegunPush rest →
    BegunPush
    (cond p (ended (Answered.Separated c n)) (cond q (moved t n) (cond r (ended (Answered.Failed d n)) (cond s (ended (Answered.Hit e n)) rest))))
unfolding Begun BegunPush
begun-pushed true q r s t n c d e rest h = tt
begun-pushed false true r s t n c d e rest h = tt
begun-pushed false false true s t n c d e rest h = tt
begun-pushed false false false true t n c d e rest h = tt
begun-pushed false false false false t n c d e rest h = h

begun-called : (p q : Bool) (n : Counts) (c : Contact) (x : SweepAnswer) → Begun x → Begun (cond p (Answered.Overlapped n) (cond q (Answered.Hit c n) x))
unfolding Begun
begun-called true q n c x h = tt
begun-called false true n c x h = tt
begun-called false false n c x h = h

module _ (f : Format) (task : SweepTask) (a b : List Float) where
  begun-push : (g : SeparationFunction) (t1 : Float) (x : Closest) (k : ℕ) (t2 : Float) (n : Counts) → BegunPush (push_from f task a b g t1 x k t2 n)
  unfolding push_from
  begun-push g t1 x zero t2 n = begun-moved t1 n
  begun-push g t1 x (suc k) t2 n =
      let m = find_min_separation f a b g t2 in
      let s1 = evaluate f a b g m.index_a m.index_b t1 in
      let r = root_from f task a b g m.index_a m.index_b t2 max_root_iterations t1 t2 s1 m.separation 0 in
      begun-pushed (lt task.tolerance (sub f m.separation task.target)) (le (low f task) m.separation) (lt s1 (low f task))
      (le s1 (high f task)) t2 (searched n) (nowhere f task.t_max) (nowhere f t1) (there t1 x) _
      (begun-push g t1 x k r.t (stepped (searched n) r.steps))

  -- the distance call at t1, with what goes on
  begun-by : (t1 : Float) (x : Closest) (n : Counts) (go : Float → Counts → SweepAnswer) → ((t : Float) (m : Counts) → Begun (go t m))
      → Begun (advance_by f task a b t1 x n go)
  begun-by t1 x n go h =
      let g = new_separation f task.sweep_a task.sweep_b a b x.cache t1 in
      let pushed = push_from f task a b g t1 x max_push_back_iterations task.t_max n in
      begun-called (le x.distance (Ground.zero f)) (le x.distance (high f task)) n (there t1 x) (onward pushed go)
      (begun-onward pushed go (begun-push g t1 x max_push_back_iterations task.t_max n) h)

  begun-advance : (k : ℕ) (t1 : Float) (c : SimplexCache) (n : Counts) → Begun (advance_from f task a b k t1 c n)
  unfolding advance_from
  begun-advance zero t1 c n =
      let x = closest_at f task a b t1 c in
      begun-by t1 x (called n) (λ t m. failed_at t x m) (λ t m. begun-failed (there t x) m)
  begun-advance (suc k) t1 c n =
      let x = closest_at f task a b t1 c in
      begun-by t1 x (called n) (λ t m. advance_from f task a b k t x.cache m) (λ t m. begun-advance k t x.cache m)

-- ---- the number of a sweep that is refused, with outlines that are none of 1 and 2
unfoldable Late : ℕ → Type 0
Late k = (k ≤ 8) × (k ≡ 1 → ⊥) × (k ≡ 2 → ⊥)

late-first : (m n : ℕ) → Late m → Late n → Late (or_else m n)
unfolding Late
late-first zero n p q = q
late-first (suc m) n p q = p

nothing-late : Late 0
unfolding Late
nothing-late = (omega arith, λ e. omega arith, λ e. omega arith)

late : (k : ℕ) → 3 ≤ k → k ≤ 8 → Late k
unfolding Late
late k low high = (high, λ e. omega arith, λ e. omega arith)

abbrev Fair : SweepAnswer → Type 0
Fair (Answered.Overlapped n) = Unit {0}
Fair (Answered.Hit c n) = Unit {0}
Fair (Answered.Separated c n) = Unit {0}
Fair (Answered.Failed c n) = Unit {0}
Fair (Answered.Refused number) = Given number

begun-fair : (x : SweepAnswer) → Begun x → Fair x
unfolding Begun
begun-fair (Answered.Overlapped n) h = tt
begun-fair (Answered.Hit c n) h = tt
begun-fair (Answered.Separated c n) h = tt
begun-fair (Answered.Failed c n) h = tt
begun-fair (Answered.Refused number) h = absurd h

module _ (f : Format) (a : List Float) (ra : Float) (wa : Sweep) (b : List Float) (rb : Float) (wb : Sweep) (tmax slop : Float) where
  late-sweep : bad_outline a ≡ false → bad_outline b ≡ false → Late (sweep_refusal f a ra wa b rb wb tmax slop)
  late-sweep fa fb =
      late-first (pair_refusal f a b ra rb) _
      (rw (fa, fb) (by-test Late (bad_parts f a || bad_parts f b) 3 _ (late 3 (omega arith) (omega arith))
      (by-test Late (bad_radius f ra || bad_radius f rb) 4 0 (late 4 (omega arith) (omega arith)) nothing-late)))
      (late-first (sweeps_refusal f wa wb) _
      (by-test Late (bad_rotation f wa.q1 || bad_rotation f wa.q2 || bad_rotation f wb.q1 || bad_rotation f wb.q2) 5 _
      (late 5 (omega arith) (omega arith))
      (by-test Late (bad_centres f wa || bad_centres f wb) 6 0 (late 6 (omega arith) (omega arith)) nothing-late))
      (late-first (fraction_refusal f tmax) (slop_refusal f slop)
      (by-test Late (le (Ground.zero f) tmax && le tmax (one f)) 0 7 nothing-late (late 7 (omega arith) (omega arith)))
      (by-test Late (lt (Ground.zero f) slop && le slop (limit f)) 0 8 nothing-late (late 8 (omega arith) (omega arith)))))

  fair-by : (k : ℕ) → Late k → Fair (sweep_by f a ra wa b rb wb tmax slop k)
  unfolding Late
  fair-by zero h = begun-fair (advance f (sweep_task f ra wa rb wb tmax slop) a b) (begun-advance f (sweep_task f ra wa rb wb tmax slop) a b _ _ _ _)
  fair-by (suc n) (most, one, two) = (omega (arith, one, two), omega arith, λ e. omega arith)

  fair-sweep : bad_outline a ≡ false → bad_outline b ≡ false → Fair (sweep_time_of_impact f a ra wa b rb wb tmax slop)
  unfolding sweep_time_of_impact
  fair-sweep fa fb = fair-by (sweep_refusal f a ra wa b rb wb tmax slop) (late-sweep fa fb)

-- ---- a block
length-floats : (b : List ℕ) (k n : ℕ) → length (floats_at b k n) ≡ n
unfolding floats_at
length-floats b k zero = refl
length-floats b k (suc n) = ap suc (length-floats b (k + 4) n)

fair-outline : (b : List ℕ) (k n : ℕ) → bad_count n ≡ false → bad_outline (floats_at b k (2 * n)) ≡ false
fair-outline b k n e =
    let (some, few) = fair-count (eqb n 0) (ltb 16 n) refl refl e in
    rw (length-floats b k (2 * n))
    (rw (ne_eqb (2 * n) 0 (λ h. omega arith), ne_eqb (2 * n % 2) 1 (λ h. omega arith), le-ltb 128 (2 * n) (omega arith)))
  where
    fair-count : (p q : Bool) → eqb n 0 ≡ p → ltb 16 n ≡ q → (p || q) ≡ false → (1 ≤ n) × (n ≤ 16)
    fair-count true q g h e = absurd (let z : ◌≡◌ {A = ℕ} 0 1 = cc in omega arith)
    fair-count false true g h e = absurd (let z : ◌≡◌ {A = ℕ} 0 1 = cc in omega arith)
    fair-count false false g h e = let some = eqb-false n 0 g in (omega (arith, some), ltb-false 16 n h)

told-fair : (f : Format) (job : ℕ) (k : Corners) (x : SweepAnswer) → Fair x → NumberGiven (of_job job (told_by f k x))
told-fair f job k (Answered.Overlapped n) h = tt
told-fair f job k (Answered.Hit c n) h = tt
told-fair f job k (Answered.Separated c n) h = tt
told-fair f job k (Answered.Failed c n) h = tt
told-fair f job k (Answered.Refused number) h = h

both-counts : (p q r s : Bool) → (p || q || r || s) ≡ false → (q ≡ false) × (r ≡ false)
both-counts true q r s e = absurd (let z : ◌≡◌ {A = ℕ} 0 1 = cc in omega arith)
both-counts false true r s e = absurd (let z : ◌≡◌ {A = ℕ} 0 1 = cc in omega arith)
both-counts false false true s e = absurd (let z : ◌≡◌ {A = ℕ} 0 1 = cc in omega arith)
both-counts false false false s e = (refl, refl)

fair-for : (f : Format) (a b ns : List Float) → bad_outline a ≡ false → bad_outline b ≡ false → Fair (sweep_for f a b ns).answer
unfolding sweep_for sweep
fair-for f a b ns fa fb = fair-sweep f a (point ns 0).x (move_at ns 2) b (point ns 0).y (move_at ns 7) (point ns 1).x (point ns 1).y fa fb

good-given : (f : Format) (b : List ℕ) → bad_fields b ≡ false →
    NumberGiven (of_job (job_of b) (told_by f (sweep_of f b (block_of b)).corners (sweep_of f b (block_of b)).answer))
good-given f b e =
    let (fa, fb) = both-counts (eqb (job_of b) 0) (bad_count (byte b 4)) (bad_count (byte b 5)) (not (zeros_hold b)) e in
    told-fair f (job_of b) (sweep_of f b (block_of b)).corners (sweep_of f b (block_of b)).answer
    (fair-for f (points_a b (block_of b)) (points_b b (block_of b)) (numbers_of b) (fair-outline b 104 (byte b 4) fa) (fair-outline b 232 (byte b 5) fb))

block-given : (f : Format) (b : List ℕ) → NumberGiven (block_answer f b)
unfolding block_answer checked_block
block-given f b = go (known_form (byte b 6)) (check_holds b) (bad_fields b) refl
  where
    go : (p q r : Bool) → bad_fields b ≡ r
        → NumberGiven
        (answer_by f b (cond p (cond q (cond r (refused (job_of b) 11) (Ok (block_of b))) (refused 0 10)) (refused 0 13)))
    go true true true e = (omega arith, omega arith, λ h. omega arith)
    go true true false e = good-given f b e
    go true false r e = (omega arith, omega arith, λ h. omega arith)
    go false q r e = (omega arith, omega arith, λ h. omega arith)

-- ---- a file
given-append : (xs ys : List BlockAnswer) → NumbersGiven xs → NumbersGiven ys → NumbersGiven (xs ++ ys)
unfolding NumbersGiven
given-append [] ys p q = q
given-append (x ∷ xs) ys p q = (p.0, given-append xs ys p.1 q)

whole-given : (f : Format) (k : ℕ) (b : List ℕ) → NumbersGiven (whole_answers f k b)
unfolding whole_blocks NumbersGiven
whole-given f zero b = tt
whole-given f (suc k) b = (block-given f (take 512 b), whole-given f k (drop 512 b))

rest-given : (s : Bool) → NumbersGiven (cond s [] (refused 0 9 ∷ []))
unfolding NumbersGiven
rest-given true = tt
rest-given false = ((omega arith, omega arith, λ h. omega arith), tt)

pub file-given : (f : Format) (b : List ℕ) → NumbersGiven (answers f b)
file-given f b =
    rw (answers-cut f b)
    (given-append (whole_answers f (length b / 512) b) _ (whole-given f (length b / 512) b) (rest-given (eqb (length b % 512) 0)))

every_given : (files : List (List ℕ)) → NumbersGiven (every_answer (answers_of files))
unfolding every_answer answers_of NumbersGiven
every_given [] = tt
every_given (b ∷ bs) = given-append (answers binary32 b) (every_answer (answers_of bs)) (file-given binary32 b) (every_given bs)

-- ---- the report of files adds up
pub report-adds-up : (files : List (List ℕ)) → length (every_answer (answers_of files)) < 2 ^ 64 → AddsUp (report (answers_of files)).counts
report-adds-up files few = counts-add-up (answers_of files) (every_given files) few
