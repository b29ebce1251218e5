-- What the calls over lists of `list_calls64` answer and leave is what those of `list_calls` do, at every format. Assumes nothing.
use Rattle.std.proofs.Common.{Result, Ok, Err}
use Prim.Native.Nat.{ℕ}
use mathlib.Core.Bool.{cond}
use mathlib.Core.List.{List}
use mathlib.Core.Path.{◌≡◌, refl, sym, ◌∙◌}
use lib.Dec.{ltb}
use lib.Ieee.{Float, Format}
use Rattle.model.specs.declared.Contact.{Contact}
use Rattle.model.specs.declared.SimplexCache.{SimplexCache}
use Rattle.model.specs.declared.Distance.{Distance}
use Rattle.model.specs.declared.Refusal.{Refusal}
use Rattle.model.specs.declared.ProxyDistanceOutput.{ProxyDistanceOutput}
use Rattle.model.specs.declared.Verdict.{Verdict}
use Rattle.model.specs.Support.{point}
use Rattle.model.specs.Work.{sweep_for}
use Rattle.list_calls.specs.Entry as E
use Rattle.list_calls64.specs.Entry as E64
use Rattle.bridge.specs.Wide.{pose64, contact64, answer64, distance64, outcome64}
use Rattle.bridge.proofs.Distance.{proxy-distance-same}
use Rattle.bridge.proofs.Sheet.{sweep-for-same, told-swept-same}

pub pose-of-same : (ns : List Float) → E64.pose_of ns ≡ pose64 (E.pose_of ns)
pose-of-same ns = refl

pub contact-in-same : (c : Contact) (out : List Float) → E64.contact_in (contact64 c) out ≡ E.contact_in c out
contact-in-same c out = refl

-- ---- the sweep
number_same : (x : Result Verdict Refusal) → E64.sweep_number (outcome64 x) ≡ E.sweep_number x
number_same (Ok v) = refl
number_same (Err r) = refl

contact-after-same : (x : Result Verdict Refusal) (out : List Float) → E64.contact_after (outcome64 x) out ≡ E.contact_after x out
contact-after-same (Ok v) out = refl
contact-after-same (Err r) out = refl

counts-after-same : (x : Result Verdict Refusal) (counts : List ℕ) → E64.counts_after (outcome64 x) counts ≡ E.counts_after x counts
counts-after-same (Ok v) counts = refl
counts-after-same (Err r) counts = refl

module _ (f : Format) (a b ns out : List Float) (counts : List ℕ) where
  called_same : E64.sweep_call f a b ns ≡ outcome64 (E.sweep_call f a b ns)
  called_same = rw (sweep-for-same f a b ns) (told-swept-same f (sweep_for f a b ns))

  abbrev x : Result Verdict Refusal
  x = E.sweep_call f a b ns

  number-there : cond (E.sweep_fits ns out counts) (E64.sweep_number (E64.sweep_call f a b ns)) 255 ≡ cond (E.sweep_fits ns out counts) (E.sweep_number x) 255
  number-there = rw (called_same, number_same x)

  contact-there : cond (E.sweep_fits ns out counts) (E64.contact_after (E64.sweep_call f a b ns) out) out
      ≡ cond (E.sweep_fits ns out counts) (E.contact_after x out) out
  contact-there = rw (called_same, contact-after-same x out)

  counts-there : cond (E.sweep_fits ns out counts) (E64.counts_after (E64.sweep_call f a b ns) counts) counts
      ≡ cond (E.sweep_fits ns out counts) (E.counts_after x counts) counts
  counts-there = rw (called_same, counts-after-same x counts)

  pub sweep-told-same : (out' : List Float) (counts' : List ℕ) (r : ℕ) →
      (E64.SweepTold f a b ns out counts out' counts' r → E.SweepTold f a b ns out counts out' counts' r)
      × (E.SweepTold f a b ns out counts out' counts' r → E64.SweepTold f a b ns out counts out' counts' r)
  sweep-told-same out' counts' r = (
    λ t. record { number = t.number ∙ number-there; contact = t.contact ∙ contact-there; counted = t.counted ∙ counts-there },
    λ t. record { number = t.number ∙ sym number-there; contact = t.contact ∙ sym contact-there; counted = t.counted ∙ sym counts-there },
  )

-- ---- the distance
distance-number-same : (x : Result ProxyDistanceOutput Refusal) → E64.distance_number (answer64 x) ≡ E.distance_number x
distance-number-same (Ok o) = refl
distance-number-same (Err r) = refl

cache-after-same : (x : Result ProxyDistanceOutput Refusal) (c : SimplexCache) (words : List ℕ) → E64.cache_after (answer64 x) c words ≡ E.cache_after x c words
cache-after-same (Ok o) c words = refl
cache-after-same (Err r) c words = refl

output-after-same : (x : Result ProxyDistanceOutput Refusal) (out : List Float) → E64.output_after (answer64 x) out ≡ E.output_after x out
output-after-same (Ok o) out = refl
output-after-same (Err r) out = refl

module _ (f : Format) (a b ns : List Float) (radii pair : ℕ) (words : List ℕ) (out : List Float) where
  abbrev d : Distance
  d = E.distance_call f a b ns radii pair words

  measured-same : E64.distance_call f a b ns radii pair words ≡ distance64 d
  unfolding E64.distance_for E.distance_for E64.cache_of E.cache_of
  measured-same = proxy-distance-same f (E.pose_of ns) a (point ns 2).x b (point ns 2).y (ltb 0 radii) pair (E.cache_of words)

  distance-number-there : cond (E.distance_fits ns words out) (E64.distance_number (E64.distance_call f a b ns radii pair words).answer) 255
      ≡ cond (E.distance_fits ns words out) (E.distance_number d.answer) 255
  distance-number-there = rw (measured-same, distance-number-same d.answer)

  cached-there : cond (E.distance_fits ns words out)
      (E64.cache_after (E64.distance_call f a b ns radii pair words).answer (E64.distance_call f a b ns radii pair words).cache words) words
      ≡ cond (E.distance_fits ns words out) (E.cache_after d.answer d.cache words) words
  cached-there = rw (measured-same, cache-after-same d.answer d.cache words)

  measured-there : cond (E.distance_fits ns words out) (E64.output_after (E64.distance_call f a b ns radii pair words).answer out) out
      ≡ cond (E.distance_fits ns words out) (E.output_after d.answer out) out
  measured-there = rw (measured-same, output-after-same d.answer out)

  pub distance-told-same : (words' : List ℕ) (out' : List Float) (r : ℕ) →
      (E64.DistanceTold f a b ns radii pair words out words' out' r → E.DistanceTold f a b ns radii pair words out words' out' r)
      × (E.DistanceTold f a b ns radii pair words out words' out' r → E64.DistanceTold f a b ns radii pair words out words' out' r)
  distance-told-same words' out' r = (
    λ t. record { number = t.number ∙ distance-number-there; cached = t.cached ∙ cached-there; measured = t.measured ∙ measured-there },
    λ t. record {
      number = t.number ∙ sym distance-number-there;
      cached = t.cached ∙ sym cached-there;
      measured = t.measured ∙ sym measured-there;
    },
  )
