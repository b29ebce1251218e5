-- The rounds of the f64 code's own call, and no going round in circles said of them: the states are over the records of `model64`. Fractions, places and
-- nearest places are those that `circles` speaks of.
use Rattle.std.specs.Prelude.{◌≡◌, ◌⊎◌, Bool, false, List, ℕ, suc, ◌+◌, ◌/◌, length, Float, Ok}
use Rattle.std.specs.Float.{binary64}
use Rattle.model.specs.declared.SimplexCache.{SimplexCache}
use Rattle.model.specs.declared.Ending.{Ending}
use Rattle.model.specs.declared.Ending.TheVariants.{Settled}
use Rattle.model64.specs.declared.Vector.{Vector}
use Rattle.model64.specs.declared.Pose.{Pose}
use Rattle.model64.specs.declared.SimplexVertex.{SimplexVertex}
use Rattle.model64.specs.declared.Solved.{Solved}
use Rattle.model64.specs.declared.ProxyDistanceOutput.{ProxyDistanceOutput}
use Rattle.model64.specs.Ground.{origin}
use Rattle.model64.specs.Simplex.{slot, solve}
use Rattle.model64.specs.Distance.{held, touches, start_simplex, support_a, support_b, extended}
use Rattle.model.specs.Distance.{start_count, max_iterations}
use Rattle.plane.specs.Plane.{Point, difference}
use Rattle.plane.specs.Fraction.{Fraction, ◌<ᶠ◌, ◌≃ᶠ◌}
use Rattle.exact.specs.SquaredPaper.{SquaredPaper, outline_a, posed_b}
use Rattle.circles.specs.NoCircles.{NearestOf, squared_length}
use Rattle.exact64.specs.Call.{read, call}

-- ---- the states of a call: what `rounds_from` of `model64` is given, but for the rounds that are left
pub record State : Type 0 where
  pub simplex : List SimplexVertex
  pub count : ℕ
  pub direction : Vector
  pub made : ℕ

abbrev pub kept : State → Solved
kept x = solve binary64 x.simplex x.count

module _ (a b : List Float) (p : Pose) where
  -- neither touching nor settled
  pub record GoesOn (x : State) : Type 0 where
    pub apart : touches binary64 (kept x) ≡ false
    pub new : held x.simplex x.count (support_a binary64 a (kept x).direction) (support_b binary64 b p (kept x).direction) ≡ false

  abbrev pub start : SimplexCache → State
  start c = record {
    simplex = start_simplex binary64 a b p c;
    count = start_count c (length a / 2) (length b / 2);
    direction = origin binary64;
    made = 0;
  }

  abbrev pub next : State → State
  next x = record { simplex = extended binary64 a b p (kept x); count = (kept x).count + 1; direction = (kept x).direction; made = x.made + 1 }

  -- the call from c comes to a state, with k rounds left
  pub data Reaches (c : SimplexCache) : ℕ → State → Type 0 where
    first : Reaches c max_iterations (start c)
    then : {k : ℕ} {x : State} → Reaches c (suc k) x → GoesOn x → Reaches c k (next x)

-- ---- the claim
module _ {bound : ℕ} {p : Pose} {a b : List Float} (paper : SquaredPaper bound (read p) a b) where
  -- a vertex is in truth a corner of A less a posed corner of B
  abbrev pub place : SimplexVertex → Point
  place v = difference ((outline_a paper).corner v.index_a) ((posed_b paper).corner v.index_b)

  abbrev pub NearestKept : State → Type 0
  NearestKept x = NearestOf (kept x).count (λ i. place (slot (kept x).simplex i))

  abbrev pub kept_length : (x : State) → NearestKept x → Fraction
  kept_length x u = squared_length (kept x).count (λ i. place (slot (kept x).simplex i)) u.weight

  -- of the solve of x and the next one, in a call that ends so after so many rounds
  pub record Nearer (ending : Ending) (rounds : ℕ) (x : State) : Type 0 where
    pub before : NearestKept x
    pub after : NearestKept (next a b p x)
    pub smaller-or-settles : (kept_length (next a b p x) after <ᶠ kept_length x before)
        ⊎ ((kept_length (next a b p x) after ≃ᶠ kept_length x before) × (ending ≡ Settled) × (rounds ≡ x.made + 2))

-- Ask 10
abbrev pub NoCircles : ℕ → Type 0
NoCircles bound =
    (p : Pose) (a : List Float) (ra : Float) (b : List Float) (rb : Float) (radii : Bool) (pair : ℕ) (c : SimplexCache)
    (paper : SquaredPaper bound (read p) a b) (o : ProxyDistanceOutput)
    → (call p a ra b rb radii pair c).answer ≡ Ok o
    → (k : ℕ) (x : State) → Reaches a b p c (suc (suc k)) x → GoesOn a b p x
    → Nearer paper o.ending o.iterations x
