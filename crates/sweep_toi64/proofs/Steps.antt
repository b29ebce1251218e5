-- Written by tests/written/wide.py from sweep_toi, in f64.
-- What a root step and a push-back meet: what is left at the head of each gives the whole; here is one law for each way that it goes on.
-- Assumes nothing.
use Prim.Native.Nat.{ℕ, zero, suc, ◌+◌, ◌*◌, ◌-◌, ◌<◌, ◌≤◌}
use native.Mathlib.Omega.{arith}
use mathlib.Core.Bool.{Bool, true, false, ◌&&◌, ◌||◌, cond}
use mathlib.Core.List.{List, [], ◌∷◌}
use mathlib.Core.Path.{◌≡◌, refl, sym, ap, ◌∙◌}
use lib.Dec.{eqb}
use lib.Ieee.{Float, Format, sub, lt, le}
use lib.ListN.{length, get_or}
use borrow.Author.Tests.{eqb-true, eqb-false, ne_eqb}
use Rattle.model64.specs.declared.Vector.{Vector}
use Rattle.model.specs.declared.SimplexCache.{SimplexCache}
use Rattle.model64.specs.declared.SeparationFunction.{SeparationFunction}
use Rattle.model64.specs.declared.Search.{Search}
use Rattle.model64.specs.declared.SweepTask.{SweepTask}
use Rattle.model.specs.declared.Counts.{Counts}
use Rattle.model.specs.Ground.{abs}
use Rattle.model.specs.SweepToi.{counts, searched, stepped}
use Rattle.model64.specs.SweepToi.{tried, low, high}
use Rattle.sweep_toi64.specs.Repeats.{further}
use Rattle.separation64.specs.ByPoses.{search_by, end_a, end_b, between}
use Rattle.sweep_toi64.specs.declared.moment.Moment.{Moment}
use Rattle.sweep_toi64.specs.declared.bracket.Bracket.{Bracket}
use Rattle.sweep_toi64.specs.Rounds.{moment_at, narrowed, bracket, Root, root, root_by}
use Rattle.sweep_toi64.specs.Rounds.{Separated, Failed, Hit, Landed, Held, Pushed, pushed, push_by}
use Rattle.sweep_toi64.proofs.Rounds.{clash, same-counts}

-- ---- a root step from the bracket x: the moment m of the time t is tried, s is found there, d from the target, and y is the bracket after it
pub record Stepped (f : Format) (w : SweepTask) (g : SeparationFunction) (u v : Vector) (m2 : Moment) (x : Bracket) (whole : Root)
    (t : Float) (m : Moment) (s d : Float) (y : Bracket) : Type 0 where
  pub left : x.steps < 50
  pub time : t ≡ tried f w x.steps x.low x.high x.at_low x.at_high
  pub there : m ≡ moment_at f w t
  pub value : s ≡ between f u v g.axis m.xf_a m.xf_b g.ty
  pub off : d ≡ abs (sub f s w.target)
  pub next : y ≡ narrowed w x m.t s
  pub rest : root_by f w g u v m2 (50 - x.steps) x ≡ whole

module _ {f : Format} {w : SweepTask} {g : SeparationFunction} {u v : Vector} {m2 : Moment} {x : Bracket} {whole : Root}
    {t : Float} {m : Moment} {s d : Float} {y : Bracket} (made : Stepped f w g u v m2 x whole t m s d y) where
  pub steps-counted : y.steps ≡ x.steps + 1
  steps-counted = ap (λ (z : Bracket). z.steps) made.next

  step : root_by f w g u v m2 (50 - x.steps) x ≡ cond (le d w.tolerance) (root m y.steps) (root_by f w g u v m2 (50 - y.steps) y)
  unfolding root_by
  step =
      let h = made.left in
      let p : 50 - x.steps ≡ suc (49 - x.steps) = omega arith in
      let q : 50 - (x.steps + 1) ≡ 49 - x.steps = omega arith in
      rw (p, made.off, made.next, q, made.value, made.there, made.time)

  pub root-lands : le d w.tolerance ≡ true → root m y.steps ≡ whole
  root-lands h = sym (step ∙ rw h) ∙ made.rest

  module _ (h : le d w.tolerance ≡ false) where
    pub root-goes-on : root_by f w g u v m2 (50 - y.steps) y ≡ whole
    root-goes-on = sym (step ∙ rw h) ∙ made.rest

    -- where no step lands, the end stays where it was
    pub root-runs-out : y.steps ≡ 50 → root m2 y.steps ≡ whole
    unfolding root_by
    root-runs-out e = let z : 50 - y.steps ≡ 0 = omega arith in rw z at root-goes-on

-- ---- a push-back, k + 1 being left with it: x is what its search finds, o the counts with it
pub record Turned (f : Format) (w : SweepTask) (a b : List Float) (g : SeparationFunction) (m1 m2 : Moment) (n : Counts) (l k : ℕ) (whole : Pushed)
    (x : Search) (o : Counts) : Type 0 where
  pub left : l ≡ suc k
  pub found : x ≡ search_by f a b g m2.xf_a m2.xf_b
  pub counted : o ≡ searched n
  pub rest : push_by f w a b g m1 l m2 n ≡ whole

module _ {f : Format} {w : SweepTask} {a b : List Float} {g : SeparationFunction} {m1 m2 : Moment} {n : Counts} {l k : ℕ} {whole : Pushed}
    {x : Search} {o : Counts} (made : Turned f w a b g m1 m2 n l k whole x o) where
  abbrev started : Vector → Vector → Float → Root
  started u v s1 = root_by f w g u v m2 50 (bracket m1.t m2.t s1 x.least.separation)

  module _ (u v : Vector) (s1 : Float) (r : Root) (eu : u ≡ end_a f a g g.ty x.least.index_a) (ev : v ≡ end_b f b g g.ty x.least.index_b)
      (es : s1 ≡ between f u v g.axis m1.xf_a m1.xf_b g.ty) (er : r ≡ started u v s1) where
    turn : let p = stepped o r.steps in
        push_by f w a b g m1 l m2 n
        ≡ cond (lt w.tolerance (sub f x.least.separation w.target)) (pushed Separated m1 o x.corners)
        (cond (le (low f w) x.least.separation) (pushed Landed m2 o x.corners)
        (cond (lt s1 (low f w)) (pushed Failed m1 o x.corners)
        (cond (le s1 (high f w)) (pushed Hit m1 o x.corners)
        (cond (eqb k 0) (pushed Held m1 p x.corners) (push_by f w a b g m1 k r.at p)))))
    unfolding push_by
    turn = rw (made.left, er, es, eu, ev, made.found, made.counted)

  pub push-separates : lt w.tolerance (sub f x.least.separation w.target) ≡ true → pushed Separated m1 o x.corners ≡ whole
  push-separates h = sym (turn _ _ _ _ refl refl refl refl ∙ rw h) ∙ made.rest

  module _ (apart : lt w.tolerance (sub f x.least.separation w.target) ≡ false) where
    pub push-lands : le (low f w) x.least.separation ≡ true → pushed Landed m2 o x.corners ≡ whole
    push-lands h = sym (turn _ _ _ _ refl refl refl refl ∙ rw (apart, h)) ∙ made.rest

    module _ (below : le (low f w) x.least.separation ≡ false) {u v : Vector} {s1 : Float}
        (eu : u ≡ end_a f a g g.ty x.least.index_a) (ev : v ≡ end_b f b g g.ty x.least.index_b)
        (es : s1 ≡ between f u v g.axis m1.xf_a m1.xf_b g.ty) where
      pub push-fails : lt s1 (low f w) ≡ true → pushed Failed m1 o x.corners ≡ whole
      push-fails h = sym (turn u v s1 _ eu ev es refl ∙ rw (apart, below, h)) ∙ made.rest

      module _ (over : lt s1 (low f w) ≡ false) where
        pub push-hits : le s1 (high f w) ≡ true → pushed Hit m1 o x.corners ≡ whole
        push-hits h = sym (turn u v s1 _ eu ev es refl ∙ rw (apart, below, over, h)) ∙ made.rest

-- ---- a push-back that goes on to its root search, which ends at r
pub record Searching (f : Format) (w : SweepTask) (a b : List Float) (g : SeparationFunction) (m1 m2 : Moment) (x : Search) (u v : Vector) (s1 : Float)
    (r : Root) : Type 0 where
  pub found : x ≡ search_by f a b g m2.xf_a m2.xf_b
  pub apart : lt w.tolerance (sub f x.least.separation w.target) ≡ false
  pub below : le (low f w) x.least.separation ≡ false
  pub point-a : u ≡ end_a f a g g.ty x.least.index_a
  pub point-b : v ≡ end_b f b g g.ty x.least.index_b
  pub value : s1 ≡ between f u v g.axis m1.xf_a m1.xf_b g.ty
  pub over : lt s1 (low f w) ≡ false
  pub above : le s1 (high f w) ≡ false
  pub root : r ≡ root_by f w g u v m2 50 (bracket m1.t m2.t s1 x.least.separation)

neither : (s t : Bool) → (s || t) ≡ false → t ≡ false
neither true t h = absurd (clash (sym h))
neither false t h = h

-- a push-back follows only where one is left
pub one_more : (s : Bool) (k : ℕ) → (s || eqb k 0) ≡ false → 1 ≤ k
one_more s k h = let d = eqb-false k 0 (neither s (eqb k 0) h) in omega (arith, d)

-- the counts have room for the push-backs that are left after a root search of k steps
pub room-left : (n : Counts) (l k : ℕ) {o p : Counts} → o ≡ searched n → p ≡ stepped o k → k ≤ 50 → 1 ≤ l →
    n.searches + l ≤ 160 → n.root_steps + 50 * l ≤ 8000 →
    (p.searches + (l - 1) ≤ 160) × (p.root_steps + 50 * (l - 1) ≤ 8000)
room-left n l k eo ep few some searches steps = rw (ep, eo) (omega (arith, some, searches), omega (arith, few, some, steps))

no_more : (o : Counts) (k : ℕ) (d : Counts) → k ≡ 0 → o ≡ further o k d
no_more o k d z = rw z (same-counts (omega arith) (omega arith) (omega arith))

module _ {f : Format} {w : SweepTask} {a b : List Float} {g : SeparationFunction} {m1 m2 : Moment} {x : Search} {u v : Vector} {s1 : Float} {r : Root}
    (search : Searching f w a b g m1 m2 x u v s1 r) where
  abbrev after : Counts → Counts
  after n = stepped (searched n) r.steps

  once : (k : ℕ) (n : Counts) →
      push_by f w a b g m1 (suc k) m2 n ≡ cond (eqb k 0) (pushed Held m1 (after n) x.corners) (push_by f w a b g m1 k r.at (after n))
  once k n =
      let t : Turned f w a b g m1 m2 n (suc k) k (push_by f w a b g m1 (suc k) m2 n) x (searched n) =
      record { left = refl; found = search.found; counted = refl; rest = refl } in
      turn t u v s1 r search.point-a search.point-b search.value search.root
      ∙ rw (search.apart, search.below, search.over, search.above)

  -- where it gives m2 back, the push-backs that are left are this one again
  repeats : r.at ≡ m2 → (k : ℕ) (n : Counts) →
      push_by f w a b g m1 (suc k) m2 n ≡ pushed Held m1 (further (after n) k (counts 0 1 r.steps)) x.corners
  repeats back zero n = once zero n ∙ ap (λ (o : Counts). pushed Held m1 o x.corners) (no_more (after n) 0 (counts 0 1 r.steps) refl)
  repeats back (suc k) n =
      again
      ∙ repeats back k (after n)
      ∙ ap (λ (o : Counts). pushed Held m1 o x.corners) (same-counts (omega arith) (omega arith) (omega arith))
    where
      again : push_by f w a b g m1 (suc (suc k)) m2 n ≡ push_by f w a b g m1 (suc k) m2 (after n)
      again = once (suc k) n ∙ rw (ne_eqb (suc k) 0 (λ z. absurd (omega (arith, z))), back)

  module _ {n : Counts} {l k : ℕ} {whole : Pushed} {o : Counts} (made : Turned f w a b g m1 m2 n l k whole x o) where
    left_so : push_by f w a b g m1 (suc k) m2 n ≡ whole
    left_so = sym (ap (λ (i : ℕ). push_by f w a b g m1 i m2 n) made.left) ∙ made.rest

    pub push-goes-on : (s : Bool) → (s || eqb k 0) ≡ false → push_by f w a b g m1 k r.at (stepped o r.steps) ≡ whole
    push-goes-on s h = rw made.counted (sym (once k n ∙ rw (neither s (eqb k 0) h)) ∙ left_so)

    -- s says that it gave m2 back
    pub push-holds : (s : Bool) → (s ≡ true → r.at ≡ m2) → (s || eqb k 0) ≡ true →
        pushed Held m1 (further (stepped o r.steps) k (counts 0 1 r.steps)) x.corners ≡ whole
    push-holds true back h = rw made.counted (sym (repeats (back refl) k n) ∙ left_so)
    push-holds false back h =
        let last : push_by f w a b g m1 (suc k) m2 n ≡ pushed Held m1 (after n) x.corners = once k n ∙ rw h in
        let all = no_more (after n) k (counts 0 1 r.steps) (eqb-true k 0 h) in
        rw made.counted (sym (last ∙ ap (λ (o : Counts). pushed Held m1 o x.corners) all) ∙ left_so)

-- ---- caches that are the same part by part
pub both_true : (s t : Bool) → (s && t) ≡ true → (s ≡ true) × (t ≡ true)
both_true true t h = (refl, h)
both_true false t h = absurd (clash h)

three : (xs : List ℕ) → length xs ≡ 3 → xs ≡ get_or xs 0 0 ∷ get_or xs 1 0 ∷ get_or xs 2 0 ∷ []
three [] p = absurd (omega (arith, p))
three (x ∷ []) p = absurd (omega (arith, p))
three (x ∷ y ∷ []) p = absurd (omega (arith, p))
three (x ∷ y ∷ z ∷ []) p = refl
three (x ∷ y ∷ z ∷ v ∷ vs) p = absurd (omega (arith, p))

pub three-same : (xs ys : List ℕ) → length xs ≡ 3 → length ys ≡ 3 →
    (eqb (get_or xs 0 0) (get_or ys 0 0) && eqb (get_or xs 1 0) (get_or ys 1 0) && eqb (get_or xs 2 0) (get_or ys 2 0)) ≡ true → xs ≡ ys
three-same xs ys p q h =
    let u = both_true _ _ h in
    let v = both_true _ _ u.0 in
    three xs p ∙ listed (eqb-true _ _ v.0) (eqb-true _ _ v.1) (eqb-true _ _ u.1) ∙ sym (three ys q)
  where
    listed : {i j k l m n : ℕ} → i ≡ l → j ≡ m → k ≡ n → ◌≡◌ {A = List ℕ} (i ∷ j ∷ k ∷ []) (l ∷ m ∷ n ∷ [])
    listed x y z = rw (x, y, z)

pub caches-same : (x y : SimplexCache) (u v : Bool) → (u ≡ true → x.index_a ≡ y.index_a) → (v ≡ true → x.index_b ≡ y.index_b) →
    (eqb x.pair y.pair && eqb x.count y.count && u && v) ≡ true → x ≡ y
caches-same x y u v p q h =
    let r = both_true _ _ h in
    let s = both_true _ _ r.0 in
    let t = both_true _ _ s.0 in
    made (eqb-true _ _ t.0) (eqb-true _ _ t.1) (p s.1) (q r.1)
  where
    cache : ℕ → ℕ → List ℕ → List ℕ → SimplexCache
    cache i j k l = record { pair = i; count = j; index_a = k; index_b = l }

    made : {i j m n : ℕ} {a b c d : List ℕ} → i ≡ m → j ≡ n → a ≡ c → b ≡ d → cache i j a b ≡ cache m n c d
    made z o c d = rw (z, o, c, d)
