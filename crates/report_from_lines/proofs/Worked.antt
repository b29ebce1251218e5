-- What is known of every answer of a file: its counts are small, its fraction is one of binary32, and a refusal has a number of the list. Assumes nothing.
use Rattle.std.proofs.Common.{Result, Ok, Err}
use mathlib.Core.Bool.{Bool, true, false, cond}
use mathlib.Core.List.{List, [], ◌∷◌, map}
use Prim.Native.Nat.{ℕ, zero, suc, ◌+◌, ◌%◌}
use lib.Dec.{T, eqb}
use lib.Ieee.{Float, nan, Format, binary32, fits, sub, lt, le}
use lib.Ieee.Fits.{cond-fits, nan-fits, add-fits, mul-fits}
use lib.Ieee.Bits.{of_bits-fits}
use lib.ListN.{length, get_or}
use Rattle.model.specs.declared.Block.{Block}
use Rattle.model.specs.declared.BlockRefusal.{BlockRefusal}
use Rattle.model.specs.declared.Sweep.{Sweep}
use Rattle.model.specs.declared.SweepTask.{SweepTask}
use Rattle.model.specs.declared.SimplexCache.{SimplexCache}
use Rattle.model.specs.declared.SeparationFunction.{SeparationFunction}
use Rattle.model.specs.declared.Closest.{Closest}
use Rattle.model.specs.declared.RootSearch.{RootSearch}
use Rattle.model.specs.declared.Corners.{Corners}
use Rattle.model.specs.declared.Counts.{Counts}
use Rattle.model.specs.declared.Contact.{Contact}
use Rattle.model.specs.declared.SweepAnswer.{SweepAnswer}
use Rattle.model.specs.declared.SweepAnswer.TheVariants.{Overlapped, Hit, Separated, Failed}
use Rattle.model.specs.declared.SweepAnswer.TheVariants as Answered
use Rattle.model.specs.Ground.{abs}
use Rattle.model.specs.Ground as Ground
use Rattle.model.specs.Support.{point}
use Rattle.model.specs.Separation.{new_separation, evaluate, find_min_separation}
use Rattle.model.specs.SweepToi.{PushEnd, ended, moved, onward, max_root_iterations, max_push_back_iterations, called, searched, stepped, nowhere, there, failed_at}
use Rattle.model.specs.SweepToi.{found, tried, low, high, closest_at, root_from, push_from, advance_by, advance_from}
use Rattle.model.specs.SweepToi.{sweep_task, sweep_refusal, sweep_by, sweep_time_of_impact}
use Rattle.model.specs.Corners.{sweep}
use Rattle.model.specs.Block.{checked_block, refused}
use Rattle.model.specs.Blocks.{blocks}
use Rattle.model.specs.Work.{floats_at, numbers_of, points_a, points_b, move_at, sweep_for, sweep_of, told_by, of_job, answer_by, block_answer, BlockAnswer}
use Rattle.model.specs.Sheet.{answer_of, answers}
use Rattle.model.proofs.SweepToi.{Bounded, Counted, sweep-counts-bounded}
use Rattle.report_counts.proofs.Tally.{by-test}
use Rattle.report_batches.specs.Told.{Given}
use Rattle.report_batches.proofs.AddUp.{NumbersGiven}
use Rattle.report_batches.proofs.Numbers.{file-given}

-- ---- the fraction that a sweep tells is a value of the format, where the max fraction is
module _ (f : Format) where
  abbrev Fits : Float → Type 0
  Fits x = T (fits f x)

  unfoldable Fitting : SweepAnswer → Type 0
  Fitting (Overlapped n) = Unit {0}
  Fitting (Hit c n) = Fits c.fraction
  Fitting (Separated c n) = Fits c.fraction
  Fitting (Failed c n) = Fits c.fraction
  Fitting (Answered.Refused number) = Unit {0}

  unfoldable FittingPush : PushEnd → Type 0
  FittingPush (ended x) = Fitting x
  FittingPush (moved t n) = Fits t

  module _ (task : SweepTask) (a b : List Float) (last : Fits task.t_max) where
    try-fits : (n : ℕ) (a1 a2 s1 s2 : Float) → Fits (tried f task n a1 a2 s1 s2)
    unfolding tried
    try-fits n a1 a2 s1 s2 = cond-fits f (eqb (n % 2) 1) _ _ (add-fits f a1 _) (mul-fits f (Ground.half f) _)

    root-fits : (g : SeparationFunction) (i j : ℕ) (t2 : Float) (k : ℕ) (a1 a2 s1 s2 : Float) (n : ℕ) → Fits t2
        → Fits (root_from f task a b g i j t2 k a1 a2 s1 s2 n).t
    unfolding root_from
    root-fits g i j t2 zero a1 a2 s1 s2 n h = h
    root-fits g i j t2 (suc k) a1 a2 s1 s2 n h =
        let t = tried f task n a1 a2 s1 s2 in
        let s = evaluate f a b g i j t in
        let up = lt task.target s in
        let later = root_from f task a b g i j t2 k (cond up t a1) (cond up a2 t) (cond up s s1) (cond up s2 s) (n + 1) in
        by-test (λ (r : RootSearch). Fits r.t) (le (abs (sub f s task.target)) task.tolerance) (found t (n + 1)) later
        (try-fits n a1 a2 s1 s2) (root-fits g i j t2 k (cond up t a1) (cond up a2 t) (cond up s s1) (cond up s2 s) (n + 1) h)

    -- by the tests of a push-back, and by those of a distance call
    pushed-fits : (p q r s : Bool) (t : Float) (n : Counts) (c d e : Contact) (rest : PushEnd) → Fits c.fraction → Fits t → Fits d.fraction
        → Fits e.fraction → FittingPush rest
        → FittingPush (cond p (ended (Separated c n)) (cond q (moved t n) (cond r (ended (Failed d n)) (cond s (ended (Hit e n)) rest))))
    unfolding Fitting FittingPush
    pushed-fits true q r s t n c d e rest hc ht hd he h = hc
    pushed-fits false true r s t n c d e rest hc ht hd he h = ht
    pushed-fits false false true s t n c d e rest hc ht hd he h = hd
    pushed-fits false false false true t n c d e rest hc ht hd he h = he
    pushed-fits false false false false t n c d e rest hc ht hd he h = h

    called-fits : (p q : Bool) (n : Counts) (c : Contact) (x : SweepAnswer) → Fits c.fraction → Fitting x
        → Fitting (cond p (Overlapped n) (cond q (Hit c n) x))
    unfolding Fitting
    called-fits true q n c x hc h = tt
    called-fits false true n c x hc h = hc
    called-fits false false n c x hc h = h

    moved-fits : (t : Float) (n : Counts) → Fits t → FittingPush (moved t n)
    unfolding FittingPush
    moved-fits t n h = h

    failed-fits : (c : Contact) (n : Counts) → Fits c.fraction → Fitting (Failed c n)
    unfolding Fitting
    failed-fits c n h = h

    push-fits : (g : SeparationFunction) (t1 : Float) (x : Closest) (k : ℕ) (t2 : Float) (n : Counts) → Fits t1 → Fits t2
        → FittingPush (push_from f task a b g t1 x k t2 n)
    unfolding push_from
    push-fits g t1 x zero t2 n h₁ h₂ = moved-fits t1 n h₁
    push-fits g t1 x (suc k) t2 n h₁ h₂ =
        let m = find_min_separation f a b g t2 in
        let s1 = evaluate f a b g m.index_a m.index_b t1 in
        let r = root_from f task a b g m.index_a m.index_b t2 max_root_iterations t1 t2 s1 m.separation 0 in
        pushed-fits (lt task.tolerance (sub f m.separation task.target)) (le (low f task) m.separation) (lt s1 (low f task))
        (le s1 (high f task)) t2 (searched n) (nowhere f task.t_max) (nowhere f t1) (there t1 x) _ last h₂ h₁ h₁
        (push-fits g t1 x k r.t (stepped (searched n) r.steps) h₁
        (root-fits g m.index_a m.index_b t2 max_root_iterations t1 t2 s1 m.separation 0 h₂))

    onward-fits : (e : PushEnd) (go : Float → Counts → SweepAnswer) → FittingPush e → ((t : Float) (n : Counts) → Fits t → Fitting (go t n))
        → Fitting (onward e go)
    unfolding FittingPush
    onward-fits (ended x) go h next = h
    onward-fits (moved t n) go h next = next t n h

    call_fits : (t1 : Float) (x : Closest) (n : Counts) (go : Float → Counts → SweepAnswer) → Fits t1
        → ((t : Float) (m : Counts) → Fits t → Fitting (go t m)) → Fitting (advance_by f task a b t1 x n go)
    call_fits t1 x n go h next =
        let g = new_separation f task.sweep_a task.sweep_b a b x.cache t1 in
        let pushed = push_from f task a b g t1 x max_push_back_iterations task.t_max n in
        called-fits (le x.distance (Ground.zero f)) (le x.distance (high f task)) n (there t1 x) (onward pushed go) h
        (onward-fits pushed go (push-fits g t1 x max_push_back_iterations task.t_max n h last) next)

    advance-fits : (k : ℕ) (t1 : Float) (c : SimplexCache) (n : Counts) → Fits t1 → Fitting (advance_from f task a b k t1 c n)
    unfolding advance_from
    advance-fits zero t1 c n h =
        let x = closest_at f task a b t1 c in
        call_fits t1 x (called n) (λ t m. failed_at t x m) h (λ t m fit. failed-fits (there t x) m fit)
    advance-fits (suc k) t1 c n h =
        let x = closest_at f task a b t1 c in
        call_fits t1 x (called n) (λ t m. advance_from f task a b k t x.cache m) h (λ t m fit. advance-fits k t x.cache m fit)

  zero-fits : Fits (Ground.zero f)
  zero-fits = of_bits-fits f 0

  module _ (a : List Float) (ra : Float) (wa : Sweep) (b : List Float) (rb : Float) (wb : Sweep) (tmax slop : Float) where
    by_fits : (k : ℕ) → Fits tmax → Fitting (sweep_by f a ra wa b rb wb tmax slop k)
    unfolding sweep_task Fitting
    by_fits zero h = advance-fits (sweep_task f ra wa rb wb tmax slop) a b h _ (Ground.zero f) _ _ zero-fits
    by_fits (suc k) h = tt

    sweep-fits : Fits tmax → Fitting (sweep_time_of_impact f a ra wa b rb wb tmax slop)
    unfolding sweep_time_of_impact
    sweep-fits h = by_fits (sweep_refusal f a ra wa b rb wb tmax slop) h

-- ---- a block's answer
floats-fit : (b : List ℕ) (k n i : ℕ) → T (fits binary32 (get_or (floats_at b k n) i nan))
unfolding floats_at
floats-fit b k zero i = nan-fits binary32
floats-fit b k (suc n) zero = of_bits-fits binary32 _
floats-fit b k (suc n) (suc i) = floats-fit b (k + 4) n i

pub record Small (counts : Counts) (fraction : Float) : Type 0 where
  pub bounded : Bounded counts
  pub fitting : T (fits binary32 fraction)

abbrev SmallAnswer : BlockAnswer → Type 0
SmallAnswer (Ok w) = Small w.verdict.counts w.verdict.contact.fraction
SmallAnswer (Err r) = Unit {0}

told-small : (job : ℕ) (k : Corners) (x : SweepAnswer) → Counted x → Fitting binary32 x → SmallAnswer (of_job job (told_by binary32 k x))
unfolding Fitting
told-small job k (Overlapped n) c h = record { bounded = c; fitting = zero-fits binary32 }
told-small job k (Hit x n) c h = record { bounded = c; fitting = h }
told-small job k (Separated x n) c h = record { bounded = c; fitting = h }
told-small job k (Failed x n) c h = record { bounded = c; fitting = h }
told-small job k (Answered.Refused number) c h = tt

sweep-small : (job : ℕ) (b : List ℕ) (k : Block)
    → SmallAnswer (of_job job (told_by binary32 (sweep_of binary32 b k).corners (sweep_of binary32 b k).answer))
unfolding sweep_for sweep
sweep-small job b k =
    let ns = numbers_of b in
    told-small job (sweep_of binary32 b k).corners (sweep_of binary32 b k).answer
    (sweep-counts-bounded binary32 (points_a b k) (point ns 0).x (move_at ns 2) (points_b b k) (point ns 0).y (move_at ns 7) (point ns 1).x (point ns 1).y)
    (sweep-fits binary32 (points_a b k) (point ns 0).x (move_at ns 2) (points_b b k) (point ns 0).y (move_at ns 7) (point ns 1).x (point ns 1).y
    (floats-fit b 8 24 2))

checked-small : (b : List ℕ) (c : Result Block BlockRefusal) → SmallAnswer (answer_by binary32 b c)
checked-small b (Ok k) = sweep-small k.job b k
checked-small b (Err r) = tt

block-small : (b : List ℕ) → SmallAnswer (block_answer binary32 b)
unfolding block_answer
block-small b = checked-small b (checked_block b)

-- ---- a file
-- what is known of an answer: of a worked one that it is small, of a refused one its number
abbrev pub Fair : BlockAnswer → Type 0
Fair (Ok w) = Small w.verdict.counts w.verdict.contact.fraction
Fair (Err r) = Given r.number

unfoldable pub EachFair : List BlockAnswer → Type 0
EachFair [] = Unit {0}
EachFair (x ∷ xs) = Fair x × EachFair xs

fair : (x : BlockAnswer) → SmallAnswer x → NumbersGiven (x ∷ []) → Fair x
unfolding NumbersGiven
fair (Ok w) s g = s
fair (Err r) s g = g.0

each-fair : (bs : List (List ℕ)) → NumbersGiven (map (answer_of binary32) bs) → EachFair (map (answer_of binary32) bs)
unfolding EachFair NumbersGiven
each-fair [] g = tt
each-fair (b ∷ bs) g = (
  fair (answer_of binary32 b) (by-test SmallAnswer (eqb (length b) 512) (block_answer binary32 b) (refused 0 9) (block-small b) tt) (g.0, tt),
  each-fair bs g.1,
)

pub file-fair : (b : List ℕ) → EachFair (answers binary32 b)
unfolding answers
file-fair b = each-fair (blocks b) (file-given binary32 b)
