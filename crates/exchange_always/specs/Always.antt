-- Either one may be called A, within the bound at which the round limit is never reached: both calls are answered and tell the one nearest difference, from
-- the domain and caches that are not refused alone.
use Rattle.std.specs.Prelude.{◌≡◌, Bool, List, ℕ, ◌/◌, ◌<◌, length, Float, Ok}
use Rattle.std.specs.Float.{Format}
use Rattle.model.specs.declared.Pose.{Pose}
use Rattle.model.specs.declared.SimplexCache.{SimplexCache}
use Rattle.model.specs.declared.ProxyDistanceOutput.{ProxyDistanceOutput}
use Rattle.model.specs.Domain.{cache_refusal}
use Rattle.model.specs.Distance.{proxy_distance}
use Rattle.plane.specs.Plane.{Point, sum}
use Rattle.exact.specs.SquaredPaper.{Near, SquaredPaper, IsCache, InTheDomain}
use Rattle.exchange.specs.Exchange.{IsInverse, Exchanged, taken_off, IsShifted, Alike}

-- a cache that is not refused: two arrays of three, and no corners or the caller's number
pub record Accepted (pair : ℕ) (c : SimplexCache) : Type 0 where
  pub arrays : IsCache c
  pub own : cache_refusal pair c ≡ 0

-- ---- exchanged: the second call's inputs are then in the domain too, which is proved and not asked
module _ (f : Format) (p q : Pose) (a : List Float) (ra : Float) (b : List Float) (rb : Float) (radii radii' : Bool) (pair pair' : ℕ) (c c' : SimplexCache)
    {bound : ℕ} (paper : SquaredPaper bound p a b) where
  pub record ExchangedAnswers : Type 0 where
    pub here : ProxyDistanceOutput
    pub there : ProxyDistanceOutput
    pub answered_here : (proxy_distance f p a ra b rb radii pair c).answer ≡ Ok here
    pub answered_there : (proxy_distance f q b rb a ra radii' pair' c').answer ≡ Ok there
    pub exchanged : Exchanged paper here.ending there.ending (proxy_distance f p a ra b rb radii pair c).cache
        (proxy_distance f q b rb a ra radii' pair' c').cache

abbrev pub ExchangeAlways : Format → ℕ → Type 0
ExchangeAlways f bound =
    (p q : Pose) (a : List Float) (ra : Float) (b : List Float) (rb : Float) (radii radii' : Bool) (pair pair' : ℕ) (c c' : SimplexCache)
    (paper : SquaredPaper bound p a b) → InTheDomain f paper ra rb → IsInverse paper q → Accepted pair c → Accepted pair' c'
    → ExchangedAnswers f p q a ra b rb radii radii' pair pair' c c' paper

-- ---- B shifted: both calls in the domain
pub record StaysInTheDomain {bound : ℕ} {p : Pose} {a b : List Float} (paper : SquaredPaper bound p a b) (by : Point) : Type 0 where
  pub near_b : (j : ℕ) → j < length b / 2 → Near 1048576 (sum (paper.corner_b j) by)
  pub near_shift : Near 1048576 (taken_off paper by)

module _ (f : Format) (p q : Pose) (a : List Float) (ra : Float) (b l : List Float) (rb : Float) (radii radii' : Bool) (pair pair' : ℕ)
    (c c' : SimplexCache) {bound : ℕ} (paper : SquaredPaper bound p a b) (by : Point) where
  pub record ShiftedAnswers : Type 0 where
    pub here : ProxyDistanceOutput
    pub there : ProxyDistanceOutput
    pub answered_here : (proxy_distance f p a ra b rb radii pair c).answer ≡ Ok here
    pub answered_there : (proxy_distance f q a ra l rb radii' pair' c').answer ≡ Ok there
    pub alike : Alike paper by l here.ending there.ending (proxy_distance f p a ra b rb radii pair c).cache
        (proxy_distance f q a ra l rb radii' pair' c').cache

abbrev pub ShiftAlways : Format → ℕ → Type 0
ShiftAlways f bound =
    (p q : Pose) (a : List Float) (ra : Float) (b l : List Float) (rb : Float) (radii radii' : Bool) (pair pair' : ℕ) (c c' : SimplexCache)
    (paper : SquaredPaper bound p a b) (by : Point) → InTheDomain f paper ra rb → IsShifted paper by q l → StaysInTheDomain paper by
    → Accepted pair c → Accepted pair' c' → ShiftedAnswers f p q a ra b l rb radii radii' pair pair' c c' paper by
