-- Written by tests/written/wide.py from sweep_toi, in f64.
-- The rounds as the code does them are those of `model`: the root search by points and poses, and the push-backs. Assumes nothing.
use Prim.{Unit}
use Prim.Native.Nat.{ℕ, zero, suc, ◌+◌, ◌*◌, ◌≤◌}
use native.Mathlib.Omega.{arith}
use mathlib.Core.Bool.{Bool, true, false, cond}
use mathlib.Core.List.{List, [], ◌∷◌}
use mathlib.Core.Path.{◌≡◌, refl, sym, ap, ◌∙◌}
use lib.Dec.{eqb}
use borrow.Author.Tests.{ne_eqb}
use lib.Ieee.{Float, Format, sub, lt, le}
use Rattle.model64.specs.declared.Vector.{Vector}
use Rattle.model.specs.declared.SimplexCache.{SimplexCache}
use Rattle.model.specs.declared.SeparationType.{SeparationType}
use Rattle.model64.specs.declared.SeparationFunction.{SeparationFunction}
use Rattle.model64.specs.declared.MinSeparation.{MinSeparation}
use Rattle.model64.specs.declared.Search.{Search}
use Rattle.model64.specs.declared.SweepTask.{SweepTask}
use Rattle.model64.specs.declared.Closest.{Closest}
use Rattle.model64.specs.declared.RootSearch.{RootSearch}
use Rattle.model.specs.declared.Counts.{Counts}
use Rattle.model.specs.declared.Corners.{Corners}
use Rattle.model.specs.Ground.{abs}
use Rattle.model64.specs.Sweep.{transform_at}
use Rattle.model64.specs.Separation.{function, evaluate, find_min_separation}
use Rattle.model.specs.SweepToi.{counts, searched, stepped}
use Rattle.model64.specs.SweepToi.{hit, separated, failed, PushEnd, ended, moved, found}
use Rattle.model64.specs.SweepToi.{closest_at, tried, root_from, low, high, push_from}
use Rattle.model.specs.Corners.{last_of}
use Rattle.model64.specs.Corners.{no_search, corners_at, push_searches}
use Rattle.separation64.specs.ByPoses.{search_by, end_a, end_b, between}
use Rattle.separation64.proofs.Laws.{evaluate-at, search-at}
use Rattle.sweep_toi64.specs.declared.moment.Moment.{Moment}
use Rattle.sweep_toi64.specs.declared.bracket.Bracket.{Bracket}
use Rattle.sweep_toi64.specs.Rounds.{moment_at, closest_in, narrowed, bracket, Root, root, root_by}
use Rattle.sweep_toi64.specs.Rounds.{PushKind, Separated, Failed, Hit, Landed, Held, Pushed, pushed, push_by}

pub closest-in : (f : Format) (w : SweepTask) (a b : List Float) (t : Float) (c : SimplexCache) →
    closest_in f w a b (moment_at f w t) c ≡ closest_at f w a b t c
unfolding closest_at
closest-in f w a b t c = refl

pub clash : false ≡ true → ⊥
clash h = let z : ◌≡◌ {A = ℕ} 0 1 = cc in omega arith

-- ---- the root search
-- r is where a search ends that `model` ends at e
pub record Rooted (f : Format) (w : SweepTask) (r : Root) (e : RootSearch) : Type 0 where
  pub same : e ≡ found r.at.t r.steps
  pub there : r.at ≡ moment_at f w r.at.t

both : {A B : Type 0} (P : A → B → Type 0) (t : Bool) (x y : A) (u v : B) → P x u → P y v → P (cond t x y) (cond t u v)
both P true x y u v p q = p
both P false x y u v p q = q

module _ (f : Format) (w : SweepTask) (a b : List Float) (l z : Vector) (ty : SeparationType) where
  -- along a function that has the task's moves
  abbrev g : SeparationFunction
  g = function w.sweep_a w.sweep_b l z ty

  module _ (t2 : Float) (i j : ℕ) where
    abbrev m2 : Moment
    m2 = moment_at f w t2

    abbrev u : Vector
    u = end_a f a g ty i

    abbrev v : Vector
    v = end_b f b g ty j

    root-is-rooted : (k : ℕ) (x : Bracket) →
        Rooted f w (root_by f w g u v m2 k x) (root_from f w a b g i j t2 k x.low x.high x.at_low x.at_high x.steps)
    unfolding root_by root_from
    root-is-rooted zero x = record { same = refl; there = refl }
    root-is-rooted (suc k) x =
        rw (sym (evaluate-at f a b g t i j))
        (both (Rooted f w) (le (abs (sub f s w.target)) w.tolerance) (root (moment_at f w t) (x.steps + 1)) (root_by f w g u v m2 k next) _ _
        (record { same = refl; there = refl })
        (root-is-rooted k next))
      where
        t : Float
        t = tried f w x.steps x.low x.high x.at_low x.at_high

        s : Float
        s = between f u v z (transform_at f w.sweep_a t) (transform_at f w.sweep_b t) ty

        next : Bracket
        next = narrowed w x t s

-- ---- push-backs
-- an end of the code's as `model` tells it; x is what the distance call before found
abbrev pub told_as : Format → SweepTask → Float → Closest → PushKind → Moment → Counts → PushEnd
told_as f w t1 x Separated m n = ended (separated f w.t_max n)
told_as f w t1 x Failed m n = ended (failed f t1 n)
told_as f w t1 x Hit m n = ended (hit t1 x n)
told_as f w t1 x Landed m n = moved m.t n
told_as f w t1 x Held m n = moved t1 n

abbrev is_held : PushKind → Bool
is_held Separated = false
is_held Failed = false
is_held Hit = false
is_held Landed = false
is_held Held = true

pub record PushedAs (f : Format) (w : SweepTask) (t1 : Float) (x : Closest) (p : Pushed) (e : PushEnd) (made : List Corners) : Type 0 where
  pub same : e ≡ told_as f w t1 x p.kind p.at p.counts
  pub last : last_of no_search made ≡ p.corners
  pub there : p.at ≡ moment_at f w p.at.t
  pub held : is_held p.kind ≡ true → p.at.t ≡ t1

-- four tests in turn, the same on three sides
four : (P : Pushed → PushEnd → List Corners → Type 0) (b1 b2 b3 b4 : Bool) (p1 p2 p3 p4 p5 : Pushed) (e1 e2 e3 e4 e5 : PushEnd) (made : List Corners) →
    P p1 e1 [] → P p2 e2 [] → P p3 e3 [] → P p4 e4 [] → (b1 ≡ false → b2 ≡ false → b3 ≡ false → b4 ≡ false → P p5 e5 made) →
    P (cond b1 p1 (cond b2 p2 (cond b3 p3 (cond b4 p4 p5)))) (cond b1 e1 (cond b2 e2 (cond b3 e3 (cond b4 e4 e5))))
    (cond b1 [] (cond b2 [] (cond b3 [] (cond b4 [] made))))
four P true b2 b3 b4 p1 p2 p3 p4 p5 e1 e2 e3 e4 e5 made h1 h2 h3 h4 h5 = h1
four P false true b3 b4 p1 p2 p3 p4 p5 e1 e2 e3 e4 e5 made h1 h2 h3 h4 h5 = h2
four P false false true b4 p1 p2 p3 p4 p5 e1 e2 e3 e4 e5 made h1 h2 h3 h4 h5 = h3
four P false false false true p1 p2 p3 p4 p5 e1 e2 e3 e4 e5 made h1 h2 h3 h4 h5 = h4
four P false false false false p1 p2 p3 p4 p5 e1 e2 e3 e4 e5 made h1 h2 h3 h4 h5 = h5 refl refl refl refl

pub same-counts : {i j k p q r : ℕ} → i ≡ p → j ≡ q → k ≡ r → counts i j k ≡ counts p q r
same-counts u v w = rw (u, v, w)

module _ (f : Format) (w : SweepTask) (a b : List Float) (l z : Vector) (ty : SeparationType) (t1 : Float) (x : Closest) where
  abbrev along : SeparationFunction
  along = function w.sweep_a w.sweep_b l z ty

  abbrev pushes : ℕ → Float → Counts → PushEnd
  pushes k t2 n = push_from f w a b along t1 x k t2 n

  abbrev searches : ℕ → Float → List Corners
  searches k t2 = push_searches f w a b along t1 k t2

  -- one push-back of `model`, by what its parts find
  module _ (t2 : Float) (m : MinSeparation) (s1 : Float) (e : RootSearch) (k : ℕ)
      (p : find_min_separation f a b along t2 ≡ m) (q : evaluate f a b along m.index_a m.index_b t1 ≡ s1)
      (r : root_from f w a b along m.index_a m.index_b t2 50 t1 t2 s1 m.separation 0 ≡ e) where
    push_step : (n : Counts) →
        pushes (suc k) t2 n
        ≡ cond (lt w.tolerance (sub f m.separation w.target)) (ended (separated f w.t_max (searched n)))
        (cond (le (low f w) m.separation) (moved t2 (searched n))
        (cond (lt s1 (low f w)) (ended (failed f t1 (searched n)))
        (cond (le s1 (high f w)) (ended (hit t1 x (searched n)))
        (pushes k e.t (stepped (searched n) e.steps)))))
    unfolding push_from
    push_step n = rw (p, q, r) refl

    tells-step :
        searches (suc k) t2
        ≡ corners_at f a b along t2 ∷ cond (lt w.tolerance (sub f m.separation w.target)) []
        (cond (le (low f w) m.separation) []
        (cond (lt s1 (low f w)) []
        (cond (le s1 (high f w)) []
        (searches k e.t))))
    unfolding push_searches
    tells-step = rw (p, q, r) refl

  -- what is left after a root search from t2, where the corners of the search before it are c
  abbrev Ends : Corners → Pushed → PushEnd → List Corners → Type 0
  Ends c p e made = PushedAs f w t1 x p e (c ∷ made)

  abbrev m1 : Moment
  m1 = moment_at f w t1

  abbrev code : ℕ → Moment → Counts → Pushed
  code k m n = push_by f w a b along m1 k m n

  -- a Held end
  held-as : (c : Corners) (e : PushEnd) (n : Counts) (made : List Corners) → e ≡ moved t1 n → last_of c made ≡ c → Ends c (pushed Held m1 n c) e made
  unfolding last_of
  held-as c e n made s h = record { same = s; last = h; there = refl; held = λ i. refl }

  -- k push-backs more from the time t, where there are any
  abbrev Next : ℕ → Float → Counts → Type 0
  Next zero t o = Unit {0}
  Next (suc k) t o = PushedAs f w t1 x (code (suc k) (moment_at f w t) o) (pushes (suc k) t o) (searches (suc k) t)

  -- whatever was searched before them
  behind : (c : Corners) (k : ℕ) (t : Float) → last_of c (searches (suc k) t) ≡ last_of no_search (searches (suc k) t)
  unfolding push_searches last_of
  behind c k t = refl

  -- those that follow a root search
  after-root : (k : ℕ) (c : Corners) (o : Counts) (r : Root) → r.at ≡ moment_at f w r.at.t → ((t : Float) → Next k t o) →
      Ends c (cond (eqb k 0) (pushed Held m1 o c) (code k r.at o)) (pushes k r.at.t o) (searches k r.at.t)
  unfolding push_from push_searches last_of
  after-root zero c o r there next = held-as c _ _ [] refl refl
  after-root (suc k) c o r there next =
      let n = next r.at.t in
      rw (ne_eqb (suc k) 0 (λ z. absurd (omega (arith, z))), there)
      (record { same = n.same; last = behind c k r.at.t ∙ n.last; there = n.there; held = n.held })

  push-by : (k : ℕ) (t2 : Float) (n : Counts) → ((t : Float) (o : Counts) → Next k t o) →
      PushedAs f w t1 x (code (suc k) (moment_at f w t2) n) (pushes (suc k) t2 n) (searches (suc k) t2)
  unfolding push_by last_of
  push-by k t2 n next =
      rw (push_step t2 m s1 e k p q r n, tells-step t2 m s1 e k p q r, cs)
      (four (Ends c) (lt w.tolerance (sub f m.separation w.target)) (le (low f w) m.separation) (lt s1 (low f w)) (le s1 (high f w))
      (pushed Separated m1 now c) (pushed Landed m2 now c) (pushed Failed m1 now c) (pushed Hit m1 now c)
      (cond (eqb k 0) (pushed Held m1 o c) (code k rt.at o))
      (ended (separated f w.t_max now)) (moved t2 now) (ended (failed f t1 now)) (ended (hit t1 x now)) (pushes k e.t o) (searches k e.t)
      (record { same = refl; last = refl; there = refl; held = λ i. absurd (clash i) })
      (record { same = refl; last = refl; there = refl; held = λ i. absurd (clash i) })
      (record { same = refl; last = refl; there = refl; held = λ i. absurd (clash i) })
      (record { same = refl; last = refl; there = refl; held = λ i. absurd (clash i) })
      (λ apart below over above. after-root k c o rt rooted.there (λ t. next t o)))
    where
      m2 : Moment
      m2 = moment_at f w t2

      v : Search
      v = search_by f a b along m2.xf_a m2.xf_b

      c : Corners
      c = v.corners

      m : MinSeparation
      m = v.least

      s1 : Float
      s1 = between f (end_a f a along ty m.index_a) (end_b f b along ty m.index_b) z m1.xf_a m1.xf_b ty

      start : Bracket
      start = bracket t1 t2 s1 m.separation

      rt : Root
      rt = root_by f w along (end_a f a along ty m.index_a) (end_b f b along ty m.index_b) m2 50 start

      now : Counts
      now = searched n

      o : Counts
      o = stepped now rt.steps

      e : RootSearch
      e = found rt.at.t rt.steps

      p : find_min_separation f a b along t2 ≡ m
      p = sym (ap (λ (y : Search). y.least) (search-at f a b along t2))

      cs : corners_at f a b along t2 ≡ c
      cs = sym (ap (λ (y : Search). y.corners) (search-at f a b along t2))

      q : evaluate f a b along m.index_a m.index_b t1 ≡ s1
      q = sym (evaluate-at f a b along t1 m.index_a m.index_b)

      rooted : Rooted f w rt (root_from f w a b along m.index_a m.index_b t2 50 t1 t2 s1 m.separation 0)
      rooted = root-is-rooted f w a b l z ty t2 m.index_a m.index_b 50 start

      r : root_from f w a b along m.index_a m.index_b t2 50 t1 t2 s1 m.separation 0 ≡ e
      r = rooted.same

  -- a round of k + 1
  pub push-is : (k : ℕ) (t2 : Float) (n : Counts) →
      PushedAs f w t1 x (code (suc k) (moment_at f w t2) n) (pushes (suc k) t2 n) (searches (suc k) t2)
  push-is zero t2 n = push-by zero t2 n (λ t o. tt)
  push-is (suc k) t2 n = push-by (suc k) t2 n (λ t o. push-is k t o)

-- ---- what a round counts
-- from n on, by at most k searches
pub record Grown (k : ℕ) (n m : Counts) : Type 0 where
  pub calls : m.distance_calls ≡ n.distance_calls
  pub searches : n.searches ≤ m.searches
  pub few-searches : m.searches ≤ n.searches + k
  pub steps : n.root_steps ≤ m.root_steps
  pub few-steps : m.root_steps ≤ n.root_steps + 50 * k

one : {A : Type 0} (P : A → Type 0) (t : Bool) (x y : A) → P x → P y → P (cond t x y)
one P true x y p q = p
one P false x y p q = q

module _ (f : Format) (w : SweepTask) (g : SeparationFunction) (u v : Vector) (m2 : Moment) where
  pub root-few : (k : ℕ) (x : Bracket) → (root_by f w g u v m2 k x).steps ≤ x.steps + k
  unfolding root_by
  root-few zero x = omega arith
  root-few (suc k) x =
      one (λ (r : Root). r.steps ≤ x.steps + suc k) (le (abs (sub f s w.target)) w.tolerance) (root m (x.steps + 1))
      (root_by f w g u v m2 k next) (omega arith) (omega (arith, root-few k next))
    where
      m : Moment
      m = moment_at f w (tried f w x.steps x.low x.high x.at_low x.at_high)

      s : Float
      s = between f u v g.axis m.xf_a m.xf_b g.ty

      next : Bracket
      next = narrowed w x m.t s

module _ (f : Format) (w : SweepTask) (a b : List Float) (g : SeparationFunction) (m1 : Moment) where
  pub round-grows : (k : ℕ) (m2 : Moment) (n : Counts) → Grown k n (push_by f w a b g m1 k m2 n).counts
  unfolding push_by
  round-grows zero m2 n =
      record { calls = refl; searches = omega arith; few-searches = omega arith; steps = omega arith; few-steps = omega arith }
  round-grows (suc k) m2 n =
      one P (lt w.tolerance (sub f x.least.separation w.target)) _ _ once
      (one P (le (low f w) x.least.separation) _ _ once
      (one P (lt s1 (low f w)) _ _ once
      (one P (le s1 (high f w)) _ _ once
      (one P (eqb k 0) _ (push_by f w a b g m1 k r.at o) searched-once (further-on (round-grows k r.at o))))))
    where
      P : Pushed → Type 0
      P p = Grown (suc k) n p.counts

      x : Search
      x = search_by f a b g m2.xf_a m2.xf_b

      u : Vector
      u = end_a f a g g.ty x.least.index_a

      v : Vector
      v = end_b f b g g.ty x.least.index_b

      s1 : Float
      s1 = between f u v g.axis m1.xf_a m1.xf_b g.ty

      start : Bracket
      start = bracket m1.t m2.t s1 x.least.separation

      r : Root
      r = root_by f w g u v m2 50 start

      o : Counts
      o = stepped (searched n) r.steps

      few : r.steps ≤ 50
      few = root-few f w g u v m2 50 start

      once : Grown (suc k) n (searched n)
      once = record { calls = refl; searches = omega arith; few-searches = omega arith; steps = omega arith; few-steps = omega arith }

      searched-once : Grown (suc k) n o
      searched-once = record { calls = refl; searches = omega arith; few-searches = omega arith; steps = omega arith; few-steps = omega (arith, few) }

      further-on : {m : Counts} → Grown k o m → Grown (suc k) n m
      further-on h = record {
        calls = h.calls;
        searches = omega (arith, h.searches);
        few-searches = omega (arith, h.few-searches);
        steps = omega (arith, h.steps);
        few-steps = omega (arith, h.few-steps, few);
      }
