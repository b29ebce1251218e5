-- Written by tests/written/wide.py from list_calls, in f64.
-- What the sweep and the distance call over lists answer, and what they leave in the lists that they were lent. A list of the wrong length is told by 255, and nothing is written.
use Rattle.std.specs.Prelude.{◌≡◌, ℕ, ◌+◌, ◌*◌, Bool, ◌&&◌, cond, List, [], ◌∷◌, eqb, ltb, length, get_or, Float, Result, Ok, Err}
use Rattle.std.specs.Float.{Format}
use Rattle.model64.specs.declared.Pose.{Pose}
use Rattle.model.specs.declared.SimplexCache.{SimplexCache}
use Rattle.model.specs.declared.Ending.{Ending}
use Rattle.model.specs.declared.Ending.TheVariants.{Touching, Settled, RoundLimit}
use Rattle.model64.specs.declared.ProxyDistanceOutput.{ProxyDistanceOutput}
use Rattle.model64.specs.declared.Distance.{Distance}
use Rattle.model.specs.declared.Counts.{Counts}
use Rattle.model64.specs.declared.Contact.{Contact}
use Rattle.model.specs.declared.Corners.{Corners}
use Rattle.model.specs.declared.Status.{Status}
use Rattle.model.specs.declared.Status.TheVariants.{Overlapped, Hit, Separated, Failed}
use Rattle.model64.specs.declared.Verdict.{Verdict}
use Rattle.model.specs.declared.Refusal.{Refusal}
use Rattle.model64.specs.Ground.{pose}
use Rattle.model64.specs.Support.{point}
use Rattle.model.specs.Distance.{cache}
use Rattle.model64.specs.Distance.{proxy_distance}
use Rattle.model64.specs.Work.{turn, sweep_for, told}

-- ---- the sweep
abbrev pub sweep_call : Format → List Float → List Float → List Float → Result Verdict Refusal
sweep_call f a b ns = told f (sweep_for f a b ns)

abbrev pub status_number : Status → ℕ
status_number Overlapped = 16
status_number Hit = 17
status_number Separated = 18
status_number Failed = 19

abbrev pub sweep_number : Result Verdict Refusal → ℕ
sweep_number (Ok v) = status_number v.status
sweep_number (Err r) = r.number

abbrev pub contact_floats : Contact → List Float
contact_floats c = c.fraction ∷ c.point.x ∷ c.point.y ∷ c.normal.x ∷ c.normal.y ∷ []

-- a list of five takes them
abbrev pub contact_in : Contact → List Float → List Float
contact_in c out = cond (eqb (length out) 5) (contact_floats c) out

-- a refusal leaves the list
abbrev pub contact_after : Result Verdict Refusal → List Float → List Float
contact_after (Ok v) out = contact_floats v.contact
contact_after (Err r) out = out

-- and of the last search the corners of A and of B, first and second
abbrev pub counts_words : Counts → Corners → List ℕ
counts_words n k =
    n.distance_calls ∷ n.searches ∷ n.root_steps ∷ k.a.first ∷ k.a.second ∷ k.b.first ∷ k.b.second ∷ []

abbrev pub counts_after : Result Verdict Refusal → List ℕ → List ℕ
counts_after (Ok v) out = counts_words v.counts v.corners
counts_after (Err r) out = out

abbrev pub sweep_fits : List Float → List Float → List ℕ → Bool
sweep_fits ns out counts = eqb (length ns) 24 && eqb (length out) 5 && eqb (length counts) 7

pub record SweepTold (f : Format) (a b ns out : List Float) (counts : List ℕ) (out' : List Float) (counts' : List ℕ) (r : ℕ) : Type 0 where
  pub number : r ≡ cond (sweep_fits ns out counts) (sweep_number (sweep_call f a b ns)) 255
  pub contact : out' ≡ cond (sweep_fits ns out counts) (contact_after (sweep_call f a b ns) out) out
  pub counted : counts' ≡ cond (sweep_fits ns out counts) (counts_after (sweep_call f a b ns) counts) counts

-- ---- the distance
-- the pair's number, the count, three indices of A, three of B
unfoldable pub cache_of : List ℕ → SimplexCache
cache_of w = cache (get_or w 0 0) (get_or w 1 0) (get_or w 2 0 ∷ get_or w 3 0 ∷ get_or w 4 0 ∷ []) (get_or w 5 0 ∷ get_or w 6 0 ∷ get_or w 7 0 ∷ [])

abbrev pub cache_words : SimplexCache → List ℕ
cache_words c =
    c.pair ∷ c.count ∷ get_or c.index_a 0 0 ∷ get_or c.index_a 1 0 ∷ get_or c.index_a 2 0 ∷ get_or c.index_b 0 0
    ∷ get_or c.index_b 1 0 ∷ get_or c.index_b 2 0 ∷ []

-- two pairs: the turn and the shift
abbrev pub pose_of : List Float → Pose
pose_of ns = pose (turn (point ns 0)) (point ns 1)

-- three pairs: the pose of B in the frame of A, then the radii
unfoldable pub distance_for : Format → List Float → List Float → List Float → Bool → ℕ → SimplexCache → Distance
distance_for f a b ns radii pair c = proxy_distance f (pose_of ns) a (point ns 2).x b (point ns 2).y radii pair c

abbrev pub ending_number : Ending → ℕ
ending_number Touching = 16
ending_number Settled = 17
ending_number RoundLimit = 18

abbrev pub output_number : ProxyDistanceOutput → ℕ
output_number o = ending_number o.ending + 256 * o.iterations

abbrev pub output_floats : ProxyDistanceOutput → List Float
output_floats o = o.point_a.x ∷ o.point_a.y ∷ o.point_b.x ∷ o.point_b.y ∷ o.normal.x ∷ o.normal.y ∷ o.distance ∷ []

abbrev pub rounds_of : Result ProxyDistanceOutput Refusal → ℕ
rounds_of (Ok o) = o.iterations
rounds_of (Err r) = 0

abbrev pub distance_number : Result ProxyDistanceOutput Refusal → ℕ
distance_number (Ok o) = output_number o
distance_number (Err r) = r.number

-- a refusal leaves both lists
abbrev pub cache_after : Result ProxyDistanceOutput Refusal → SimplexCache → List ℕ → List ℕ
cache_after (Ok o) c words = cache_words c
cache_after (Err r) c words = words

abbrev pub output_after : Result ProxyDistanceOutput Refusal → List Float → List Float
output_after (Ok o) out = output_floats o
output_after (Err r) out = out

abbrev pub distance_fits : List Float → List ℕ → List Float → Bool
distance_fits ns words out = eqb (length ns) 6 && eqb (length words) 8 && eqb (length out) 7 && ltb (get_or words 1 0) 256

-- use_radii counts where it is not 0
abbrev pub distance_call : Format → List Float → List Float → List Float → ℕ → ℕ → List ℕ → Distance
distance_call f a b ns radii pair words = distance_for f a b ns (ltb 0 radii) pair (cache_of words)

pub record DistanceTold (f : Format) (a b ns : List Float) (radii pair : ℕ) (words : List ℕ) (out : List Float) (words' : List ℕ) (out' : List Float)
    (r : ℕ) : Type 0 where
  pub number : r ≡ cond (distance_fits ns words out) (distance_number (distance_call f a b ns radii pair words).answer) 255
  pub cached : words' ≡ cond (distance_fits ns words out)
      (cache_after (distance_call f a b ns radii pair words).answer (distance_call f a b ns radii pair words).cache words) words
  pub measured : out' ≡ cond (distance_fits ns words out) (output_after (distance_call f a b ns radii pair words).answer out) out
