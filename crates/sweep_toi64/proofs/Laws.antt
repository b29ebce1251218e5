-- Written by tests/written/wide.py from sweep_toi, in f64.
-- What each loop of a sweep meets. What is left at the head of a loop gives the whole answer, and with the corners of the search before it those of the
-- last; here is one law for each way that a turn goes on from there. Assumes nothing.
use Prim.Native.Nat.{ℕ, zero, suc, ◌+◌, ◌-◌, ◌≤◌}
use native.Mathlib.Omega.{arith}
use mathlib.Core.Bool.{Bool, true, false, ◌&&◌}
use mathlib.Core.List.{List, [], ◌++◌}
use mathlib.Core.Path.{◌≡◌, refl, sym, ap, subst, ◌∙◌}
use lib.Ieee.{Float, Format, le}
use Rattle.model64.specs.declared.Sweep.{Sweep}
use Rattle.model.specs.declared.SimplexCache.{SimplexCache}
use Rattle.model64.specs.declared.SeparationFunction.{SeparationFunction}
use Rattle.model64.specs.declared.SweepTask.{SweepTask}
use Rattle.model64.specs.declared.Closest.{Closest}
use Rattle.model.specs.declared.Counts.{Counts}
use Rattle.model.specs.declared.Corners.{Corners}
use Rattle.model64.specs.declared.SweepAnswer.{SweepAnswer}
use Rattle.model64.specs.declared.Swept.{Swept}
use Rattle.model64.specs.Ground as Ground
use Rattle.model64.specs.Sweep.{transform_at}
use Rattle.model64.specs.Separation.{function, new_separation}
use Rattle.model.specs.SweepToi.{called}
use Rattle.model64.specs.SweepToi.{overlapped, hit, separated, failed, failed_at, PushEnd, onward}
use Rattle.model.specs.Corners.{last_of}
use Rattle.model64.specs.Corners.{no_search, afterwards, push_searches, searches_by, searches_from, swept, advanced}
use Rattle.model.specs.SweepToi.{no_corners, no_counts}
use Rattle.model64.specs.SweepToi.{closest_at, high, push_from, advance_by, advance_from}
use Rattle.sweep_toi64.specs.Repeats.{since, further}
use Rattle.model64.proofs.Searches.{last-append}
use Rattle.sweep_toi64.proofs.Repeats.{FixedCall, calls-repeat, call-corners-stay}
use Rattle.separation64.specs.ByPoses.{new_separation_by}
use Rattle.separation64.proofs.Laws.{Keeps, moves-are-kept, new-at}
use Rattle.sweep_toi64.specs.declared.moment.Moment.{Moment}
use Rattle.sweep_toi64.specs.Rounds.{moment_at, closest_in, PushKind, Separated, Failed, Hit, Landed, Held, Pushed, pushed, push_by}
use Rattle.sweep_toi64.proofs.Rounds.{clash, closest-in, told_as, PushedAs, push-is, Grown, round-grows}

none_left : (n : Counts) → n.distance_calls ≡ 20 → 20 - n.distance_calls ≡ 0
none_left n h = omega (arith, h)

one_left : (n : Counts) → n.distance_calls ≤ 20 → (n.distance_calls ≡ 20 → ⊥) → 20 - n.distance_calls ≡ suc (19 - n.distance_calls)
one_left n h d = omega (arith, h, d)

-- whatever was searched before k + 1 push-backs
some-search : (f : Format) (w : SweepTask) (a b : List Float) (g : SeparationFunction) (t1 : Float) (k : ℕ) (t2 : Float) (c : Corners) →
    last_of c (push_searches f w a b g t1 (suc k) t2) ≡ last_of no_search (push_searches f w a b g t1 (suc k) t2)
unfolding push_searches last_of
some-search f w a b g t1 k t2 c = refl

module _ (f : Format) (w : SweepTask) (a b : List Float) where
  -- ---- what is left; e has the corners of the search before it
  -- after a distance call that found x, where k more may follow
  unfoldable pub after : ℕ → Closest → Float → Counts → SweepAnswer
  after zero x t n = failed_at t x n
  after (suc k) x t n = advance_from f w a b k t x.cache n

  unfoldable pub searches_after : ℕ → Closest → Float → Counts → List Corners
  searches_after zero x t n = []
  searches_after (suc k) x t n = searches_from f w a b k t x.cache n

  -- at the head of a distance call
  unfoldable pub calling : Float → SimplexCache → Counts → Corners → Swept
  calling t1 c n e =
      swept (advance_from f w a b (19 - n.distance_calls) t1 c n) (last_of e (searches_from f w a b (19 - n.distance_calls) t1 c n))

  -- where a round ends so, and l calls may follow
  abbrev pub Resumes : Float → Closest → PushKind → Moment → Counts → Corners → ℕ → Type 0
  Resumes t1 x kind m n c l =
      let end = told_as f w t1 x kind m n in
      swept (onward end (after l x)) (last_of c (afterwards f end (searches_after l x))) ≡ advanced f w a b

  pub at-the-start : calling (Ground.zero f) no_corners no_counts no_search ≡ advanced f w a b
  unfolding calling advanced
  at-the-start = refl

-- ---- a distance call at t1: x is what it found, o the counts with it
pub record Called (f : Format) (w : SweepTask) (a b : List Float) (t1 : Float) (k : SimplexCache) (n : Counts) (e : Corners) (x : Closest)
    (o : Counts) : Type 0 where
  pub there : x ≡ closest_at f w a b t1 k
  pub counted : o ≡ called n
  pub rest : calling f w a b t1 k n e ≡ advanced f w a b

module _ {f : Format} {w : SweepTask} {a b : List Float} {t1 : Float} {k : SimplexCache} {n : Counts} {e : Corners} {x : Closest} {o : Counts}
    (made : Called f w a b t1 k n e x o) where
  call_by : (l : ℕ) → advance_from f w a b l t1 k n ≡ advance_by f w a b t1 x o (after f w a b l x)
  unfolding advance_from after
  call_by zero = rw (made.counted, made.there)
  call_by (suc l) = rw (made.counted, made.there)

  searches-by : (l : ℕ) → searches_from f w a b l t1 k n ≡ searches_by f w a b t1 x o (searches_after f w a b l x)
  unfolding searches_from searches_after
  searches-by zero = rw (made.counted, made.there)
  searches-by (suc l) = rw (made.counted, made.there)

  call : let l = 20 - o.distance_calls in
      swept (advance_by f w a b t1 x o (after f w a b l x)) (last_of e (searches_by f w a b t1 x o (searches_after f w a b l x))) ≡ advanced f w a b
  unfolding calling
  call =
      let same : 20 - o.distance_calls ≡ 19 - n.distance_calls = rw made.counted (omega arith) in
      let l = 19 - n.distance_calls in
      rw (same, ← call_by l, ← searches-by l) made.rest

  pub call-overlaps : le x.distance (Ground.zero f) ≡ true → swept (overlapped o) e ≡ advanced f w a b
  unfolding last_of
  call-overlaps h = rw h at call

  module _ (h : le x.distance (Ground.zero f) ≡ false) where
    pub call-hits : le x.distance (high f w) ≡ true → swept (hit t1 x o) e ≡ advanced f w a b
    unfolding last_of
    call-hits v = rw (h, v) at call

    -- where it gives no verdict: p is how the push-backs along the new axis end
    module _ (far : le x.distance (high f w) ≡ false) (p : Pushed) where
      abbrev g : SeparationFunction
      g = new_separation f w.sweep_a w.sweep_b a b x.cache t1

      abbrev end : PushEnd
      end = told_as f w t1 x p.kind p.at p.counts

      pub round-told : PushedAs f w t1 x p (push_from f w a b g t1 x 8 w.t_max o) (push_searches f w a b g t1 8 w.t_max) →
          Resumes f w a b t1 x p.kind p.at p.counts p.corners (20 - o.distance_calls)
      round-told told =
          let by = rw (h, far) at call in
          let l = 20 - o.distance_calls in
          let made = push_searches f w a b g t1 8 w.t_max in
          let go = after f w a b l x in
          let then = searches_after f w a b l x in
          let last = some-search f w a b g t1 7 w.t_max e ∙ told.last in
          sym
          (ap (λ (y : PushEnd). swept (onward y go) (last_of e (made ++ afterwards f y then))) told.same
          ∙ ap (swept (onward end go))
          (last-append e made (afterwards f end then) ∙ ap (λ (c : Corners). last_of c (afterwards f end then)) last))
          ∙ by

-- ---- after a round without a verdict; h says whether t1 was held where it was
abbrev pub kind_of : Bool → PushKind
kind_of true = Held
kind_of false = Landed

module _ (f : Format) (w : SweepTask) (a b : List Float) (t1 : Float) (x : Closest) where
  -- it was the last
  pub round-ends : (h : Bool) (m : Moment) (n : Counts) (c : Corners) → (h ≡ true → m.t ≡ t1) →
      Resumes f w a b t1 x (kind_of h) m n c (20 - n.distance_calls) → n.distance_calls ≡ 20 → swept (failed_at m.t x n) c ≡ advanced f w a b
  unfolding after searches_after last_of
  round-ends true m n c at r d = ap (λ (t : Float). swept (failed_at t x n) c) (at refl) ∙ (rw (none_left n d) at r)
  round-ends false m n c at r d = rw (none_left n d) at r

  -- a call follows it
  pub round-goes-on : (h : Bool) (m : Moment) (n : Counts) (c : Corners) → (h ≡ true → m.t ≡ t1) → n.distance_calls ≤ 20 →
      Resumes f w a b t1 x (kind_of h) m n c (20 - n.distance_calls) → (n.distance_calls ≡ 20 → ⊥) →
      calling f w a b m.t x.cache n c ≡ advanced f w a b
  unfolding after searches_after calling
  round-goes-on true m n c at few r d = ap (λ (t : Float). calling f w a b t x.cache n c) (at refl) ∙ (rw (one_left n few d) at r)
  round-goes-on false m n c at few r d = rw (one_left n few d) at r

-- ---- the calls that are left where the time and the cache stay
module _ {f : Format} {w : SweepTask} {a b : List Float} {t1 : Float} {k : SimplexCache} {x : Closest} {n m : Counts}
    (fixed : FixedCall f w a b t1 k x n m) (few : m.distance_calls ≤ 20) where
  pub calls-stay : (i : Moment) (c : Corners) →
      last_of no_search (push_searches f w a b (new_separation f w.sweep_a w.sweep_b a b x.cache t1) t1 8 w.t_max) ≡ c →
      Resumes f w a b t1 x Held i m c (20 - m.distance_calls) → (m.distance_calls ≡ 20 → ⊥) →
      swept (failed_at t1 x (further m (20 - m.distance_calls) (since n m))) c ≡ advanced f w a b
  unfolding after searches_after
  calls-stay i c last r d =
      let j = 19 - m.distance_calls in
      let z : 20 - m.distance_calls ≡ j + 1 = omega (arith, few, d) in
      ap (λ (q : ℕ). swept (failed_at t1 x (further m q (since n m))) c) z ∙ sym (stays j) ∙ (rw (one_left m few d) at r)
    where
      stays : (j : ℕ) →
          swept (after f w a b (suc j) x t1 m) (last_of c (searches_after f w a b (suc j) x t1 m))
          ≡ swept (failed_at t1 x (further m (j + 1) (since n m))) c
      stays j =
          ap (λ (y : SimplexCache). swept (advance_from f w a b j t1 y m) (last_of c (searches_from f w a b j t1 y m))) fixed.kept
          ∙ ap (λ (y : SweepAnswer). swept y (last_of c (searches_from f w a b j t1 k m))) (calls-repeat f w a b t1 k x n m fixed j m)
          ∙ ap (swept (failed_at t1 x (further m (j + 1) (since n m)))) (rw (sym last) (call-corners-stay f w a b t1 k x n m fixed j m no_search))

-- ---- a round after a call, by what the code has of it
-- a function with the task's moves
made_of : (w : SweepTask) (s : SeparationFunction) → s.sweep_a ≡ w.sweep_a → s.sweep_b ≡ w.sweep_b →
    s ≡ function w.sweep_a w.sweep_b s.local_point s.axis s.ty
made_of w s p q =
    ap (λ (y : Sweep). function y s.sweep_b s.local_point s.axis s.ty) p
    ∙ ap (λ (y : Sweep). function w.sweep_a y s.local_point s.axis s.ty) q

module _ (f : Format) (w : SweepTask) where
  pub at-moment : (m : Moment) (t : Float) → m ≡ moment_at f w t → m ≡ moment_at f w m.t
  at-moment m t is = is ∙ ap (λ (i : Moment). moment_at f w i.t) (sym is)

  -- two moments of one time
  pub same-moment : (m i : Moment) → m ≡ moment_at f w m.t → i ≡ moment_at f w i.t → m.t ≡ i.t → m ≡ i
  same-moment m i p q e = p ∙ ap (moment_at f w) e ∙ sym q

module _ (f : Format) (w : SweepTask) (a b : List Float) where
  pub closest-there : (m : Moment) (c : SimplexCache) (x : Closest) → m ≡ moment_at f w m.t → x ≡ closest_in f w a b m c → x ≡ closest_at f w a b m.t c
  closest-there m c x there is = is ∙ ap (λ (i : Moment). closest_in f w a b i c) there ∙ closest-in f w a b m.t c

  -- p is how the push-backs from the time t1 end
  abbrev pub Told : Float → Closest → Counts → Pushed → Type 0
  Told t1 x o p =
      let g = new_separation f w.sweep_a w.sweep_b a b x.cache t1 in
      PushedAs f w t1 x p (push_from f w a b g t1 x 8 w.t_max o) (push_searches f w a b g t1 8 w.t_max)

  pub told-as : (m1 end : Moment) (x : Closest) (o : Counts) (g : SeparationFunction) (p : Pushed) →
      m1 ≡ moment_at f w m1.t → end ≡ moment_at f w w.t_max →
      g ≡ new_separation_by f w.sweep_a w.sweep_b a b x.cache m1.xf_a m1.xf_b → p ≡ push_by f w a b g m1 8 end o → Told m1.t x o p
  told-as m1 end x o g p there at is made =
      subst (λ (q : Pushed). PushedAs f w t1 x q (push_from f w a b n t1 x 8 w.t_max o) (push_searches f w a b n t1 8 w.t_max)) (sym whole)
      (subst Along (new-at f a b w.sweep_a w.sweep_b x.cache t1)
      (subst Along (sym (made_of w h kept.of-a kept.of-b)) (push-is f w a b h.local_point h.axis h.ty t1 x 7 w.t_max o)))
    where
      t1 : Float
      t1 = m1.t

      h : SeparationFunction
      h = new_separation_by f w.sweep_a w.sweep_b a b x.cache (transform_at f w.sweep_a t1) (transform_at f w.sweep_b t1)

      kept : Keeps f a b w.sweep_a w.sweep_b h
      kept = moves-are-kept f a b w.sweep_a w.sweep_b x.cache (transform_at f w.sweep_a t1) (transform_at f w.sweep_b t1)

      n : SeparationFunction
      n = new_separation f w.sweep_a w.sweep_b a b x.cache t1

      Along : SeparationFunction → Type 0
      Along s =
          PushedAs f w t1 x (push_by f w a b s (moment_at f w t1) 8 (moment_at f w w.t_max) o) (push_from f w a b s t1 x 8 w.t_max o)
          (push_searches f w a b s t1 8 w.t_max)

      same : g ≡ n
      same =
          is
          ∙ ap (λ (m : Moment). new_separation_by f w.sweep_a w.sweep_b a b x.cache m.xf_a m.xf_b) there
          ∙ new-at f a b w.sweep_a w.sweep_b x.cache t1

      whole : p ≡ push_by f w a b n (moment_at f w t1) 8 (moment_at f w w.t_max) o
      whole =
          made
          ∙ ap (λ (s : SeparationFunction). push_by f w a b s m1 8 end o) same
          ∙ ap (λ (m : Moment). push_by f w a b n m 8 end o) there
          ∙ ap (λ (m : Moment). push_by f w a b n (moment_at f w t1) 8 m o) at

  pub grown-so : (g : SeparationFunction) (m1 end : Moment) (n o : Counts) (p : Pushed) → o ≡ called n → p ≡ push_by f w a b g m1 8 end o →
      Grown 8 (called n) p.counts
  grown-so g m1 end n o p counted made =
      subst (λ (y : Counts). Grown 8 y p.counts) counted
      (subst (λ (q : Pushed). Grown 8 o q.counts) (sym made) (round-grows f w a b g m1 8 end o))

pub record Rounded (f : Format) (w : SweepTask) (a b : List Float) (m1 : Moment) (k : SimplexCache) (n : Counts) (e : Corners) (x : Closest) (o : Counts)
    (p : Pushed) : Type 0 where
  pub call : Called f w a b m1.t k n e x o
  pub apart : le x.distance (Ground.zero f) ≡ false
  pub far : le x.distance (high f w) ≡ false
  pub told : Told f w a b m1.t x o p
  pub grown : Grown 8 (called n) p.counts
  pub few : n.distance_calls ≤ 19

module _ {f : Format} {w : SweepTask} {a b : List Float} {m1 : Moment} {k : SimplexCache} {n : Counts} {e : Corners} {x : Closest} {o : Counts} {p : Pushed}
    (made : Rounded f w a b m1 k n e x o p) where
  resumes : Resumes f w a b m1.t x p.kind p.at p.counts p.corners (20 - p.counts.distance_calls)
  resumes =
      let same : 20 - o.distance_calls ≡ 20 - p.counts.distance_calls = rw made.call.counted (omega (arith, made.grown.calls)) in
      subst (λ (l : ℕ). Resumes f w a b m1.t x p.kind p.at p.counts p.corners l) same
      (round-told made.call made.apart made.far p made.told)

  pub calls-counted : p.counts.distance_calls ≤ 20
  calls-counted = omega (arith, made.grown.calls, made.few)

-- ---- with a verdict, that is the answer
module _ {f : Format} {w : SweepTask} {a b : List Float} {m1 : Moment} {k : SimplexCache} {n : Counts} {e : Corners} {x : Closest} {o : Counts} where
  module _ {m : Moment} {i : Counts} {c : Corners} where
    pub round-separates : Rounded f w a b m1 k n e x o (pushed Separated m i c) → swept (separated f w.t_max i) c ≡ advanced f w a b
    unfolding last_of
    round-separates made = resumes made

    pub round-fails : Rounded f w a b m1 k n e x o (pushed Failed m i c) → swept (failed f m1.t i) c ≡ advanced f w a b
    unfolding last_of
    round-fails made = resumes made

    pub round-hits : Rounded f w a b m1 k n e x o (pushed Hit m i c) → swept (hit m1.t x i) c ≡ advanced f w a b
    unfolding last_of
    round-hits made = resumes made

  -- ---- without one
  held_at : (h : Bool) (m : Moment) (i : Counts) (c : Corners) → Rounded f w a b m1 k n e x o (pushed (kind_of h) m i c) → h ≡ true → m.t ≡ m1.t
  held_at true m i c made is = made.told.held refl
  held_at false m i c made is = absurd (clash is)

  module _ (h : Bool) {m : Moment} {i : Counts} {c : Corners} (made : Rounded f w a b m1 k n e x o (pushed (kind_of h) m i c)) where
    pub ends_there : i.distance_calls ≡ 20 → swept (failed_at m.t x i) c ≡ advanced f w a b
    ends_there = round-ends f w a b m1.t x h m i c (held_at h m i c made) (resumes made)

    module _ (more : i.distance_calls ≡ 20 → ⊥) where
      pub call-left : i.distance_calls ≤ 19
      call-left = let few = calls-counted made in omega (arith, few, more)

      pub goes-on-there : calling f w a b m.t x.cache i c ≡ advanced f w a b
      goes-on-there = round-goes-on f w a b m1.t x h m i c (held_at h m i c made) (calls-counted made) (resumes made) more

  -- s says that the cache is the same
  pub stays-there : (h s : Bool) (m : Moment) (i : Counts) (c : Corners) → Rounded f w a b m1 k n e x o (pushed (kind_of h) m i c) →
      (i.distance_calls ≡ 20 → ⊥) → (s ≡ true → k ≡ x.cache) → (h && s) ≡ true →
      swept (failed_at m1.t x (further i (20 - i.distance_calls) (since n i))) c ≡ advanced f w a b
  stays-there true s m i c made more same is =
      let g = new_separation f w.sweep_a w.sweep_b a b x.cache m1.t in
      calls-stay
      (record {
        there = made.call.there;
        kept = sym (same is);
        apart = made.apart;
        far = made.far;
        held = ap (λ (y : Counts). push_from f w a b g m1.t x 8 w.t_max y) (sym made.call.counted) ∙ made.told.same;
      })
      (calls-counted made) m c made.told.last (resumes made) more
  stays-there false s m i c made more same is = absurd (clash is)
