-- No going round in circles. On squared paper, where a round of the distance call goes on and another follows, what the next solve keeps comes nearer
-- to the origin, or it comes as near and that next round ends the call as settled. The lengths are exact: those of the nearest places of the kept
-- vertices, by weights.
use Rattle.std.specs.Prelude.{◌≡◌, ◌⊎◌, Bool, false, List, ℕ, suc, ◌+◌, ◌/◌, ◌<◌, length, Float, Ok}
use Rattle.std.specs.Float.{Format}
use Rattle.integers.specs.Signed.{of_nat}
use Rattle.model.specs.declared.Vector.{Vector}
use Rattle.model.specs.declared.Pose.{Pose}
use Rattle.model.specs.declared.SimplexVertex.{SimplexVertex}
use Rattle.model.specs.declared.SimplexCache.{SimplexCache}
use Rattle.model.specs.declared.Solved.{Solved}
use Rattle.model.specs.declared.Rounds.{Rounds}
use Rattle.model.specs.declared.Ending.{Ending}
use Rattle.model.specs.declared.Ending.TheVariants.{Settled}
use Rattle.model.specs.declared.ProxyDistanceOutput.{ProxyDistanceOutput}
use Rattle.model.specs.Ground.{origin}
use Rattle.model.specs.Simplex.{slot, solve}
use Rattle.model.specs.Distance.{held, touches, start_simplex, start_count, support_a, support_b, extended, max_iterations, rounds_from, proxy_distance}
use Rattle.plane.specs.Plane.{Point, difference, total, weighted_sum}
use Rattle.plane.specs.Fraction.{Fraction, ◌≤ᶠ◌, ◌<ᶠ◌, ◌≃ᶠ◌, Place, squared}
use Rattle.exact.specs.SquaredPaper.{SquaredPaper, outline_a, posed_b}

-- ---- the nearest place of n places: the one that is shortest, of all that weights on them give
-- what weights give: the weighted sum divided by the total of the weights
abbrev pub mean : (n : ℕ) → (ℕ → Point) → (ℕ → ℕ) → Place
mean n place weight = record { over = weighted_sum n weight place; under = of_nat (total n weight) }

abbrev pub squared_length : (n : ℕ) → (ℕ → Point) → (ℕ → ℕ) → Fraction
squared_length n place weight = squared (mean n place weight)

pub record NearestOf (n : ℕ) (place : ℕ → Point) : Type 0 where
  pub weight : ℕ → ℕ
  pub some : 0 < total n weight
  pub least : (other : ℕ → ℕ) → 0 < total n other → squared_length n place weight ≤ᶠ squared_length n place other

-- ---- the states of a call
-- what `rounds_from` is given, but for the rounds that are left
pub record State : Type 0 where
  pub simplex : List SimplexVertex
  pub count : ℕ
  pub direction : Vector
  pub made : ℕ

abbrev pub kept : Format → State → Solved
kept f x = solve f x.simplex x.count

module _ (f : Format) (a b : List Float) (p : Pose) where
  -- neither touching nor settled
  pub record GoesOn (x : State) : Type 0 where
    pub apart : touches f (kept f x) ≡ false
    pub new : held x.simplex x.count (support_a f a (kept f x).direction) (support_b f b p (kept f x).direction) ≡ false

  abbrev pub start : SimplexCache → State
  start c = record { simplex = start_simplex f a b p c; count = start_count c (length a / 2) (length b / 2); direction = origin f; made = 0 }

  abbrev pub next : State → State
  next x = record { simplex = extended f a b p (kept f x); count = (kept f x).count + 1; direction = (kept f x).direction; made = x.made + 1 }

  abbrev pub rounds_of : ℕ → State → Rounds
  rounds_of k x = rounds_from f a b p k x.simplex x.count x.direction x.made

  -- the call that starts from c with a limit of rounds comes to a state, with k rounds left. (The call's own limit is `max_iterations`.)
  pub data Reaches (c : SimplexCache) (limit : ℕ) : ℕ → State → Type 0 where
    first : Reaches c limit limit (start c)
    then : {k : ℕ} {x : State} → Reaches c limit (suc k) x → GoesOn x → Reaches c limit k (next x)

-- ---- the claim
-- a vertex is in truth a corner of A less a posed corner of B
abbrev pub place : {bound : ℕ} {p : Pose} {a b : List Float} → SquaredPaper bound p a b → SimplexVertex → Point
place paper v = difference ((outline_a paper).corner v.index_a) ((posed_b paper).corner v.index_b)

module _ (f : Format) {bound : ℕ} {p : Pose} {a b : List Float} (paper : SquaredPaper bound p a b) where
  abbrev pub NearestKept : State → Type 0
  NearestKept x = NearestOf (kept f x).count (λ i. place paper (slot (kept f x).simplex i))

  abbrev pub kept_length : (x : State) → NearestKept x → Fraction
  kept_length x u = squared_length (kept f x).count (λ i. place paper (slot (kept f x).simplex i)) u.weight

  -- of the solve of x and the next one, in a call that ends so after so many rounds
  pub record Nearer (ending : Ending) (rounds : ℕ) (x : State) : Type 0 where
    pub before : NearestKept x
    pub after : NearestKept (next f a b p x)
    pub smaller-or-settles : (kept_length (next f a b p x) after <ᶠ kept_length x before)
        ⊎ ((kept_length (next f a b p x) after ≃ᶠ kept_length x before) × (ending ≡ Settled) × (rounds ≡ x.made + 2))

-- of every round that goes on with another round left, in every call that is answered, whatever the cache that came; the ending and the rounds are those
-- that the call tells
abbrev pub NoCircles : Format → ℕ → Type 0
NoCircles f bound =
    (p : Pose) (a : List Float) (ra : Float) (b : List Float) (rb : Float) (radii : Bool) (pair : ℕ) (c : SimplexCache)
    (paper : SquaredPaper bound p a b) (o : ProxyDistanceOutput)
    → (proxy_distance f p a ra b rb radii pair c).answer ≡ Ok o
    → (k : ℕ) (x : State) → Reaches f a b p c max_iterations (suc (suc k)) x → GoesOn f a b p x
    → Nearer f paper o.ending o.iterations x

-- the same of the rounds with any limit in place of the call's
abbrev pub NoCirclesWithin : Format → ℕ → Type 0
NoCirclesWithin f bound =
    (p : Pose) (a : List Float) (ra : Float) (b : List Float) (rb : Float) (radii : Bool) (pair : ℕ) (c : SimplexCache)
    (paper : SquaredPaper bound p a b) (o : ProxyDistanceOutput)
    → (proxy_distance f p a ra b rb radii pair c).answer ≡ Ok o
    → (limit k : ℕ) (x : State) → Reaches f a b p c limit (suc (suc k)) x → GoesOn f a b p x
    → let whole = rounds_of f a b p limit (start f a b p c) in Nearer f paper whole.ending whole.iterations x

-- a state that is reached with k rounds left has made the others
abbrev pub MadeAreCounted : Format → Type 0
MadeAreCounted f = (p : Pose) (a b : List Float) (c : SimplexCache) (limit k : ℕ) (x : State) → Reaches f a b p c limit k x → x.made + k ≡ limit

-- whichever weights give the nearest place of some places, its squared length is one fraction
abbrev pub OneLength : Type 0
OneLength = (n : ℕ) (place : ℕ → Point) (u v : NearestOf n place) → squared_length n place u.weight ≃ᶠ squared_length n place v.weight
