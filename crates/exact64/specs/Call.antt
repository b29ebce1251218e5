-- Demand 3 and its kin, said of the f64 code's own call: the definition that `distance64` is proved to meet. What stands on the paper is what `exact`
-- speaks of; a pose of the f64 crates is read as the pose with the same parts.
use Rattle.std.specs.Prelude.{◌≡◌, ℕ, ◌≤◌, Bool, List, Float, Ok}
use Rattle.std.specs.Float.{binary64}
use Rattle.model.specs.declared.Pose.{Pose}
use Rattle.model.specs.declared.SimplexCache.{SimplexCache}
use Rattle.model.specs.declared.Ending.TheVariants.{RoundLimit}
use Rattle.model.specs.Domain.{cache_refusal}
use Rattle.model64.specs.declared.Pose.{Pose as Pose64}
use Rattle.model64.specs.declared.ProxyDistanceOutput.{ProxyDistanceOutput as Output64}
use Rattle.model64.specs.declared.Distance.{Distance as Distance64}
use Rattle.model64.specs.Distance.{proxy_distance}
use Rattle.plane.specs.Plane.{Point}
use Rattle.exact.specs.SquaredPaper.{SquaredPaper, outline_a, posed_b, IsCache, InTheDomain, Exact}
use Rattle.exchange.specs.Exchange.{IsInverse, Exchanged, IsShifted, Alike}
use Rattle.exchange_always.specs.Always.{Accepted, StaysInTheDomain}

abbrev pub read : Pose64 → Pose
read p = record {
  rotation = record { c = p.rotation.c; s = p.rotation.s };
  translation = record { x = p.translation.x; y = p.translation.y };
}

-- the bound that leaves the room in f64, and the one within which the call's 20 rounds are enough
abbrev pub bound : ℕ
bound = 2048

abbrev pub bound_in_time : ℕ
bound_in_time = 22

abbrev pub call : Pose64 → List Float → Float → List Float → Float → Bool → ℕ → SimplexCache → Distance64
call p a ra b rb radii pair c = proxy_distance binary64 p a ra b rb radii pair c

abbrev pub Demand3 : ℕ → Type 0
Demand3 bound =
    (p : Pose64) (a : List Float) (ra : Float) (b : List Float) (rb : Float) (radii : Bool) (pair : ℕ) (c : SimplexCache)
    (paper : SquaredPaper bound (read p) a b) (o : Output64)
    → IsCache c → (call p a ra b rb radii pair c).answer ≡ Ok o → (o.ending ≡ RoundLimit → ⊥)
    → Exact (outline_a paper) (posed_b paper) o.ending (call p a ra b rb radii pair c).cache

-- the other half: a call with its inputs in the domain is answered
abbrev pub Answered : ℕ → Type 0
Answered bound =
    (p : Pose64) (a : List Float) (ra : Float) (b : List Float) (rb : Float) (radii : Bool) (pair : ℕ) (c : SimplexCache)
    (paper : SquaredPaper bound (read p) a b)
    → InTheDomain binary64 paper ra rb → cache_refusal pair c ≡ 0 → (o : Output64) × ((call p a ra b rb radii pair c).answer ≡ Ok o)

-- Ask 14
abbrev pub Exchange : ℕ → Type 0
Exchange bound =
    (p q : Pose64) (a : List Float) (ra : Float) (b : List Float) (rb : Float) (radii radii' : Bool) (pair pair' : ℕ) (c c' : SimplexCache)
    (paper : SquaredPaper bound (read p) a b) (o o' : Output64) → IsInverse paper (read q) → IsCache c → IsCache c'
    → (call p a ra b rb radii pair c).answer ≡ Ok o → (call q b rb a ra radii' pair' c').answer ≡ Ok o'
    → (o.ending ≡ RoundLimit → ⊥) → (o'.ending ≡ RoundLimit → ⊥)
    → Exchanged paper o.ending o'.ending (call p a ra b rb radii pair c).cache (call q b rb a ra radii' pair' c').cache

abbrev pub Shift : ℕ → Type 0
Shift bound =
    (p q : Pose64) (a : List Float) (ra : Float) (b l : List Float) (rb : Float) (radii radii' : Bool) (pair pair' : ℕ) (c c' : SimplexCache)
    (paper : SquaredPaper bound (read p) a b) (by : Point) (o o' : Output64) → IsShifted paper by (read q) l → IsCache c → IsCache c'
    → (call p a ra b rb radii pair c).answer ≡ Ok o → (call q a ra l rb radii' pair' c').answer ≡ Ok o'
    → (o.ending ≡ RoundLimit → ⊥) → (o'.ending ≡ RoundLimit → ⊥)
    → Alike paper by l o.ending o'.ending (call p a ra b rb radii pair c).cache (call q a ra l rb radii' pair' c').cache

-- where the round limit is never reached: demand 3 without "unless"
module _ (p : Pose64) (a : List Float) (ra : Float) (b : List Float) (rb : Float) (radii : Bool) (pair : ℕ) (c : SimplexCache)
    {bound : ℕ} (paper : SquaredPaper bound (read p) a b) where
  pub record ExactAnswer : Type 0 where
    pub output : Output64
    pub answered : (call p a ra b rb radii pair c).answer ≡ Ok output
    pub in_time : output.ending ≡ RoundLimit → ⊥
    pub exact : Exact (outline_a paper) (posed_b paper) output.ending (call p a ra b rb radii pair c).cache

abbrev pub AlwaysExact : ℕ → Type 0
AlwaysExact bound =
    (p : Pose64) (a : List Float) (ra : Float) (b : List Float) (rb : Float) (radii : Bool) (pair : ℕ) (c : SimplexCache)
    (paper : SquaredPaper bound (read p) a b)
    → InTheDomain binary64 paper ra rb → IsCache c → cache_refusal pair c ≡ 0 → ExactAnswer p a ra b rb radii pair c paper

-- and no call tells more than k rounds
abbrev pub TellsAtMost : ℕ → ℕ → Type 0
TellsAtMost bound k =
    (p : Pose64) (a : List Float) (ra : Float) (b : List Float) (rb : Float) (radii : Bool) (pair : ℕ) (c : SimplexCache) → SquaredPaper bound (read p) a b
    → (o : Output64) → (call p a ra b rb radii pair c).answer ≡ Ok o → o.iterations ≤ k

-- Ask 14 without "unless": from the domain and caches that are not refused
module _ (p q : Pose64) (a : List Float) (ra : Float) (b : List Float) (rb : Float) (radii radii' : Bool) (pair pair' : ℕ) (c c' : SimplexCache)
    {bound : ℕ} (paper : SquaredPaper bound (read p) a b) where
  pub record ExchangedAnswers : Type 0 where
    pub here : Output64
    pub there : Output64
    pub answered_here : (call p a ra b rb radii pair c).answer ≡ Ok here
    pub answered_there : (call q b rb a ra radii' pair' c').answer ≡ Ok there
    pub exchanged : Exchanged paper here.ending there.ending (call p a ra b rb radii pair c).cache (call q b rb a ra radii' pair' c').cache

abbrev pub ExchangeAlways : ℕ → Type 0
ExchangeAlways bound =
    (p q : Pose64) (a : List Float) (ra : Float) (b : List Float) (rb : Float) (radii radii' : Bool) (pair pair' : ℕ) (c c' : SimplexCache)
    (paper : SquaredPaper bound (read p) a b) → InTheDomain binary64 paper ra rb → IsInverse paper (read q) → Accepted pair c → Accepted pair' c'
    → ExchangedAnswers p q a ra b rb radii radii' pair pair' c c' paper

module _ (p q : Pose64) (a : List Float) (ra : Float) (b l : List Float) (rb : Float) (radii radii' : Bool) (pair pair' : ℕ) (c c' : SimplexCache)
    {bound : ℕ} (paper : SquaredPaper bound (read p) a b) (by : Point) where
  pub record ShiftedAnswers : Type 0 where
    pub here : Output64
    pub there : Output64
    pub answered_here : (call p a ra b rb radii pair c).answer ≡ Ok here
    pub answered_there : (call q a ra l rb radii' pair' c').answer ≡ Ok there
    pub alike : Alike paper by l here.ending there.ending (call p a ra b rb radii pair c).cache (call q a ra l rb radii' pair' c').cache

abbrev pub ShiftAlways : ℕ → Type 0
ShiftAlways bound =
    (p q : Pose64) (a : List Float) (ra : Float) (b l : List Float) (rb : Float) (radii radii' : Bool) (pair pair' : ℕ) (c c' : SimplexCache)
    (paper : SquaredPaper bound (read p) a b) (by : Point) → InTheDomain binary64 paper ra rb → IsShifted paper by (read q) l → StaysInTheDomain paper by
    → Accepted pair c → Accepted pair' c' → ShiftedAnswers p q a ra b l rb radii radii' pair pair' c c' paper by
