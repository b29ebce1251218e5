-- On squared paper the round limit is never reached, so demand 3 holds without its "unless": the statements.
use Rattle.std.specs.Prelude.{◌≡◌, Bool, List, ℕ, ◌+◌, ◌*◌, ◌/◌, ◌^◌, ◌≤◌, ◌<◌, length, Float, Ok}
use Rattle.std.specs.Float.{Format, binary32, binary64}
use Rattle.model.specs.declared.Pose.{Pose}
use Rattle.model.specs.declared.SimplexCache.{SimplexCache}
use Rattle.model.specs.declared.Rounds.{Rounds}
use Rattle.model.specs.declared.Ending.TheVariants.{RoundLimit}
use Rattle.model.specs.declared.ProxyDistanceOutput.{ProxyDistanceOutput}
use Rattle.model.specs.Ground.{origin}
use Rattle.model.specs.Domain.{cache_refusal}
use Rattle.model.specs.Distance.{start_simplex, start_count, rounds_from, proxy_distance}
use Rattle.exact.specs.SquaredPaper.{SquaredPaper, outline_a, posed_b, InTheDomain, IsCache, Exact}

-- the doubled area of a triangle of differences is never larger
abbrev pub largest_area : ℕ → ℕ
largest_area bound = 8 * bound ^ 2

-- the rounds that a call can need, where so many quarterings take the largest area below 1
abbrev pub rounds_for : ℕ → ℕ
rounds_for quarterings = 2 * quarterings + 7

pub record EnoughRounds (bound k : ℕ) : Type 0 where
  pub quarterings : ℕ
  pub small : largest_area bound < 4 ^ quarterings
  pub rounds : rounds_for quarterings ≤ k

-- a bound for each format that leaves room, and for which the call's 20 rounds are enough
abbrev pub bound_in_time : Format → ℕ
bound_in_time binary32 = 16
bound_in_time binary64 = 22

-- the rounds of a call with a limit of k in place of 20
abbrev pub rounds_within : Format → ℕ → Pose → List Float → List Float → SimplexCache → Rounds
rounds_within f k p a b c = rounds_from f a b p k (start_simplex f a b p c) (start_count c (length a / 2) (length b / 2)) (origin f) 0

-- k rounds never run out: inputs of demand 3, whatever the radii and the cache that came, whether the outlines share a point or not
abbrev pub NeverRunOut : Format → ℕ → ℕ → Type 0
NeverRunOut f bound k =
    (p : Pose) (a : List Float) (ra : Float) (b : List Float) (rb : Float) (c : SimplexCache) (paper : SquaredPaper bound p a b) → InTheDomain f paper ra rb
    → (rounds_within f k p a b c).ending ≡ RoundLimit → ⊥

-- the call's own limit is never reached: what demand 3 asks of a call before it says anything
abbrev pub LimitNeverReached : Format → ℕ → Type 0
LimitNeverReached f bound =
    (p : Pose) (a : List Float) (ra : Float) (b : List Float) (rb : Float) (radii : Bool) (pair : ℕ) (c : SimplexCache) → SquaredPaper bound p a b
    → (o : ProxyDistanceOutput) → (proxy_distance f p a ra b rb radii pair c).answer ≡ Ok o → o.ending ≡ RoundLimit → ⊥

-- no call tells more than k rounds, whatever its radii and the cache that came, whether the outlines share a point or not
abbrev pub TellsAtMost : Format → ℕ → ℕ → Type 0
TellsAtMost f bound k =
    (p : Pose) (a : List Float) (ra : Float) (b : List Float) (rb : Float) (radii : Bool) (pair : ℕ) (c : SimplexCache) → SquaredPaper bound p a b
    → (o : ProxyDistanceOutput) → (proxy_distance f p a ra b rb radii pair c).answer ≡ Ok o → o.iterations ≤ k

-- 19, the rounds for six quarterings
abbrev pub most_rounds : ℕ
most_rounds = rounds_for 6

-- ---- demand 3 without "unless": every call whose cache is not refused is answered, and every answer is exact
module _ (f : Format) (p : Pose) (a : List Float) (ra : Float) (b : List Float) (rb : Float) (radii : Bool) (pair : ℕ) (c : SimplexCache)
    {bound : ℕ} (paper : SquaredPaper bound p a b) where
  pub record ExactAnswer : Type 0 where
    pub output : ProxyDistanceOutput
    pub answered : (proxy_distance f p a ra b rb radii pair c).answer ≡ Ok output
    pub in_time : output.ending ≡ RoundLimit → ⊥
    pub exact : Exact (outline_a paper) (posed_b paper) output.ending (proxy_distance f p a ra b rb radii pair c).cache

abbrev pub AlwaysExact : Format → ℕ → Type 0
AlwaysExact f bound =
    (p : Pose) (a : List Float) (ra : Float) (b : List Float) (rb : Float) (radii : Bool) (pair : ℕ) (c : SimplexCache) (paper : SquaredPaper bound p a b)
    → InTheDomain f paper ra rb → IsCache c → cache_refusal pair c ≡ 0 → ExactAnswer f p a ra b rb radii pair c paper
