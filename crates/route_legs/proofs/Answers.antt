-- A sweep that is not refused by a check is not refused at all. Assumes nothing.
use mathlib.Core.Bool.{Bool, true, false, cond}
use mathlib.Core.List.{List}
use Prim.Native.Nat.{ℕ, zero, suc}
use lib.Ieee.{Float, Format, sub, lt, le}
use Rattle.model.specs.declared.SweepTask.{SweepTask}
use Rattle.model.specs.declared.SeparationFunction.{SeparationFunction}
use Rattle.model.specs.declared.SimplexCache.{SimplexCache}
use Rattle.model.specs.declared.Closest.{Closest}
use Rattle.model.specs.declared.Counts.{Counts}
use Rattle.model.specs.declared.SweepAnswer.{SweepAnswer}
use Rattle.model.specs.declared.SweepAnswer.TheVariants.{Overlapped, Hit, Separated, Failed, Refused}
use Rattle.model.specs.Ground as Ground
use Rattle.model.specs.Separation.{new_separation, evaluate, find_min_separation}
use Rattle.model.specs.SweepToi.{max_push_back_iterations, max_root_iterations, called, searched, stepped, overlapped, hit, separated, failed}
use Rattle.model.specs.SweepToi.{PushEnd, ended, moved, onward, low, high, closest_at, root_from, push_from, advance_by, advance_from}

abbrev pub Answered : SweepAnswer → Type 0
Answered (Overlapped n) = Unit {0}
Answered (Hit c n) = Unit {0}
Answered (Separated c n) = Unit {0}
Answered (Failed c n) = Unit {0}
Answered (Refused k) = ⊥

abbrev Pushed : PushEnd → Type 0
Pushed (ended x) = Answered x
Pushed (moved t n) = Unit {0}

-- whatever the tests say
call-cases : (p q : Bool) (x y z : SweepAnswer) → Answered x → Answered y → Answered z → Answered (cond p x (cond q y z))
call-cases true q x y z a b c = a
call-cases false true x y z a b c = b
call-cases false false x y z a b c = c

push-cases : (p q r s : Bool) (x y z : SweepAnswer) (t : Float) (m : Counts) (next : PushEnd) → Answered x → Answered y → Answered z → Pushed next →
    Pushed (cond p (ended x) (cond q (moved t m) (cond r (ended y) (cond s (ended z) next))))
push-cases true q r s x y z t m next a b c d = a
push-cases false true r s x y z t m next a b c d = tt
push-cases false false true s x y z t m next a b c d = b
push-cases false false false true x y z t m next a b c d = c
push-cases false false false false x y z t m next a b c d = d

onward-answers : (e : PushEnd) (go : Float → Counts → SweepAnswer) → Pushed e → ((t : Float) (n : Counts) → Answered (go t n)) → Answered (onward e go)
onward-answers (ended x) go p h = p
onward-answers (moved t n) go p h = h t n

module _ (f : Format) (task : SweepTask) (a b : List Float) where
  pushes-answer : (g : SeparationFunction) (t1 : Float) (x : Closest) (k : ℕ) (t2 : Float) (n : Counts) → Pushed (push_from f task a b g t1 x k t2 n)
  unfolding push_from
  pushes-answer g t1 x zero t2 n = tt
  pushes-answer g t1 x (suc k) t2 n =
      let m = find_min_separation f a b g t2 in
      let s1 = evaluate f a b g m.index_a m.index_b t1 in
      let r = root_from f task a b g m.index_a m.index_b t2 max_root_iterations t1 t2 s1 m.separation 0 in
      push-cases (lt task.tolerance (sub f m.separation task.target)) (le (low f task) m.separation) (lt s1 (low f task)) (le s1 (high f task))
      (separated f task.t_max (searched n)) (failed f t1 (searched n)) (hit t1 x (searched n)) t2 (searched n)
      (push_from f task a b g t1 x k r.t (stepped (searched n) r.steps)) tt tt tt
      (pushes-answer g t1 x k r.t (stepped (searched n) r.steps))

  call-answers : (t1 : Float) (x : Closest) (n : Counts) (go : Float → Counts → SweepAnswer) → ((t : Float) (m : Counts) → Answered (go t m)) →
      Answered (advance_by f task a b t1 x n go)
  call-answers t1 x n go h =
      let g = new_separation f task.sweep_a task.sweep_b a b x.cache t1 in
      let e = push_from f task a b g t1 x max_push_back_iterations task.t_max n in
      call-cases (le x.distance (Ground.zero f)) (le x.distance (high f task)) (overlapped n) (hit t1 x n) (onward e go) tt tt
      (onward-answers e go (pushes-answer g t1 x max_push_back_iterations task.t_max n) h)

  pub advance-answers : (k : ℕ) (t1 : Float) (c : SimplexCache) (n : Counts) → Answered (advance_from f task a b k t1 c n)
  unfolding advance_from
  advance-answers zero t1 c n = call-answers t1 (closest_at f task a b t1 c) (called n) _ (λ t m. tt)
  advance-answers (suc k) t1 c n =
      call-answers t1 (closest_at f task a b t1 c) (called n) _ (λ t m. advance-answers k t (closest_at f task a b t1 c).cache m)
