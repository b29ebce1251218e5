-- What `exact` proves of either format holds of the f64 code's own call, since that call is `model`'s (`bridge`). Assumes nothing.
use mathlib.Core.Path.{◌≡◌, refl, sym, ap, ◌∙◌, subst}
use Prim.Native.Nat.{ℕ, ◌≤◌}
use native.Mathlib.Omega.{arith}
use lib.Dec.{lit<, lit≤}
use mathlib.Core.Bool.{Bool}
use mathlib.Core.List.{List}
use lib.Ieee.{Float, binary64}
use Rattle.std.proofs.Common.{Result, Ok, Err}
use Rattle.model.specs.declared.SimplexCache.{SimplexCache}
use Rattle.model.specs.declared.Ending.{Ending}
use Rattle.model.specs.declared.ProxyDistanceOutput.{ProxyDistanceOutput}
use Rattle.model.specs.declared.Distance.{Distance}
use Rattle.model.specs.declared.Refusal.{Refusal}
use Rattle.model.specs.Distance.{max_iterations, proxy_distance}
use Rattle.model64.specs.declared.Pose.{Pose as Pose64}
use Rattle.model64.specs.declared.ProxyDistanceOutput.{ProxyDistanceOutput as Output64}
use Rattle.model64.specs.declared.Distance.{Distance as Distance64}
use Rattle.bridge.specs.Wide.{output64, answer64, distance64}
use Rattle.bridge.proofs.Distance.{proxy-distance-same}
use Rattle.exact.specs.SquaredPaper.{Room, outline_a, posed_b, Exact}
use Rattle.round_limit.specs.RoundLimit.{EnoughRounds, most_rounds}
use Rattle.exchange.specs.Exchange.{Exchanged, Alike}
use Rattle.exact.proofs.Accepted.{accepted}
use Rattle.exact.proofs.Demand3.{demand3}
use Rattle.circles.proofs.NoCircles.{no-circles}
use Rattle.exchange.proofs.Exchange.{exchanged-paper, exchanged-in-domain, exchange}
use Rattle.exchange.proofs.Shift.{shifted-paper, shifted-in-domain, shift}
use Rattle.round_limit.proofs.InTime.{always-exact, tells-at-most}
use Rattle.exact64.specs.Rounds as Rounds
use Rattle.exact64.proofs.Rounds.{state64, reached-there, goes_on, nearer-here}
use Rattle.exact64.specs.Call as Wide
use Rattle.exact64.specs.Call.{read, call}

-- ---- the same call, read as `model`'s
module _ (p : Pose64) (a : List Float) (ra : Float) (b : List Float) (rb : Float) (radii : Bool) (pair : ℕ) (c : SimplexCache) where
  abbrev told : Distance
  told = proxy_distance binary64 (read p) a ra b rb radii pair c

  same : call p a ra b rb radii pair c ≡ distance64 told
  same = proxy-distance-same binary64 (read p) a ra b rb radii pair c

  -- so the caches are one
  same-cache : told.cache ≡ (call p a ra b rb radii pair c).cache
  same-cache = sym (ap (λ (d : Distance64). d.cache) same)

  -- and what is measured ends in the same way, after as many rounds
  record Narrow (o : Output64) : Type 0 where
    output : ProxyDistanceOutput
    answered : told.answer ≡ Ok output
    ending : output.ending ≡ o.ending
    rounds : output.iterations ≡ o.iterations

  narrow : (o : Output64) → (call p a ra b rb radii pair c).answer ≡ Ok o → Narrow o
  narrow o h = go told.answer refl (sym (ap (λ (d : Distance64). d.answer) same) ∙ h)
    where
      go : (x : Result ProxyDistanceOutput Refusal) → told.answer ≡ x → answer64 x ≡ Ok o → Narrow o
      go (Ok m) is e =
          let out : output64 m ≡ o = cc in
          record { output = m; answered = is; ending = ap (λ (u : Output64). u.ending) out; rounds = ap (λ (u : Output64). u.iterations) out }
      go (Err r) is e = absurd (refused e)
        where
          refused : Err r ≡ Ok o → ⊥
          refused k = let z : ◌≡◌ {A = ℕ} 0 1 = cc in omega arith

  widened : (m : ProxyDistanceOutput) → told.answer ≡ Ok m → (call p a ra b rb radii pair c).answer ≡ Ok (output64 m)
  widened m is = ap (λ (d : Distance64). d.answer) same ∙ ap answer64 is

-- ---- where f64 leaves the room
module _ (bound : ℕ) (room : Room binary64 bound) where
  exact-at : Wide.Demand3 bound
  exact-at p a ra b rb radii pair c paper o arrays answered not_limit =
      let n = narrow p a ra b rb radii pair c o answered in
      let e = n.ending in
      subst (λ (k : SimplexCache). Exact (outline_a paper) (posed_b paper) o.ending k) (same-cache p a ra b rb radii pair c)
      (subst (λ (x : Ending). Exact (outline_a paper) (posed_b paper) x (told p a ra b rb radii pair c).cache) e
      (demand3 binary64 bound room (read p) a ra b rb radii pair c paper n.output arrays n.answered (λ l. not_limit (sym e ∙ l))))

  exchange-at : Wide.Exchange bound
  exchange-at p q a ra b rb radii radii' pair pair' c c' paper o o' inverse arrays arrays' answered answered' not_limit not_limit' =
      let n = narrow p a ra b rb radii pair c o answered in
      let m = narrow q b rb a ra radii' pair' c' o' answered' in
      subst (λ (k : SimplexCache). Exchanged paper o.ending o'.ending k (call q b rb a ra radii' pair' c').cache) (same-cache p a ra b rb radii pair c)
      (subst (λ (k : SimplexCache). Exchanged paper o.ending o'.ending (told p a ra b rb radii pair c).cache k) (same-cache q b rb a ra radii' pair' c')
      (subst (λ (e : Ending). Exchanged paper e o'.ending (told p a ra b rb radii pair c).cache (told q b rb a ra radii' pair' c').cache) n.ending
      (subst (λ (e : Ending). Exchanged paper n.output.ending e (told p a ra b rb radii pair c).cache (told q b rb a ra radii' pair' c').cache)
      m.ending
      (exchange binary64 bound room (read p) (read q) a ra b rb radii radii' pair pair' c c' paper n.output m.output inverse arrays arrays'
      n.answered m.answered (λ l. not_limit (sym n.ending ∙ l)) (λ l. not_limit' (sym m.ending ∙ l))))))

  shift-at : Wide.Shift bound
  shift-at p q a ra b l rb radii radii' pair pair' c c' paper by o o' shifted arrays arrays' answered answered' not_limit not_limit' =
      let n = narrow p a ra b rb radii pair c o answered in
      let m = narrow q a ra l rb radii' pair' c' o' answered' in
      subst (λ (k : SimplexCache). Alike paper by l o.ending o'.ending k (call q a ra l rb radii' pair' c').cache) (same-cache p a ra b rb radii pair c)
      (subst (λ (k : SimplexCache). Alike paper by l o.ending o'.ending (told p a ra b rb radii pair c).cache k) (same-cache q a ra l rb radii' pair' c')
      (subst (λ (e : Ending). Alike paper by l e o'.ending (told p a ra b rb radii pair c).cache (told q a ra l rb radii' pair' c').cache) n.ending
      (subst (λ (e : Ending). Alike paper by l n.output.ending e (told p a ra b rb radii pair c).cache (told q a ra l rb radii' pair' c').cache)
      m.ending
      (shift binary64 bound room (read p) (read q) a ra b l rb radii radii' pair pair' c c' paper by n.output m.output shifted arrays arrays'
      n.answered m.answered (λ k. not_limit (sym n.ending ∙ k)) (λ k. not_limit' (sym m.ending ∙ k))))))

room : Room binary64 Wide.bound
room = (lit≤ tt, lit≤ tt)

pub exact-wide : Wide.Demand3 Wide.bound
exact-wide = exact-at Wide.bound room

pub answered-wide : Wide.Answered Wide.bound
answered-wide p a ra b rb radii pair c paper domain passed =
    let m = accepted binary64 Wide.bound (read p) a ra b rb radii pair c paper domain passed in
    (output64 m.0, widened p a ra b rb radii pair c m.0 m.1)

-- of a state of this call there is one of `model`'s
pub no-circles-wide : Rounds.NoCircles Wide.bound
no-circles-wide p a ra b rb radii pair c paper o answered k x reached on =
    let n = narrow p a ra b rb radii pair c o answered in
    let R = reached-there a b p reached in
    let y = R.state in
    let N =
    no-circles binary64 Wide.bound room (read p) a ra b rb radii pair c paper n.output n.answered k y R.reached
    (goes_on a b p y (subst (Rounds.GoesOn a b p) R.is on)) in
    subst (λ (z : Rounds.State). Rounds.Nearer paper o.ending o.iterations z) (sym R.is)
    (subst (λ (e : Ending). Rounds.Nearer paper e o.iterations (state64 y)) n.ending
    (subst (λ (m : ℕ). Rounds.Nearer paper n.output.ending m (state64 y)) n.rounds (nearer-here paper n.output.ending n.output.iterations y N)))

pub exchange-wide : Wide.Exchange Wide.bound
exchange-wide = exchange-at Wide.bound room

pub shift-wide : Wide.Shift Wide.bound
shift-wide = shift-at Wide.bound room

-- ---- at the bound within which 20 rounds are enough, and 19 are told at most
room-in-time : Room binary64 Wide.bound_in_time
room-in-time = (lit≤ tt, lit≤ tt)

enough : (k : ℕ) → most_rounds ≤ k → EnoughRounds Wide.bound_in_time k
enough k h = record { quarterings = 6; small = lit< tt; rounds = h }

pub always-exact-wide : Wide.AlwaysExact Wide.bound_in_time
always-exact-wide p a ra b rb radii pair c paper domain arrays passed =
    let x =
    always-exact binary64 Wide.bound_in_time room-in-time (enough max_iterations (lit≤ tt)) (read p) a ra b rb radii pair c paper domain arrays passed in
    record {
      output = output64 x.output;
      answered = widened p a ra b rb radii pair c x.output x.answered;
      in_time = x.in_time;
      exact = subst (λ (k : SimplexCache). Exact (outline_a paper) (posed_b paper) x.output.ending k) (same-cache p a ra b rb radii pair c) x.exact;
    }

pub at-most-19-rounds-wide : Wide.TellsAtMost Wide.bound_in_time most_rounds
at-most-19-rounds-wide p a ra b rb radii pair c paper o answered =
    let n = narrow p a ra b rb radii pair c o answered in
    subst (λ (m : ℕ). m ≤ most_rounds) n.rounds
    (tells-at-most binary64 Wide.bound_in_time room-in-time most_rounds (lit≤ tt) (enough most_rounds (lit≤ tt)) (read p) a ra b rb radii pair c paper n.output
    n.answered)

pub exchange-always-wide : Wide.ExchangeAlways Wide.bound_in_time
exchange-always-wide p q a ra b rb radii radii' pair pair' c c' paper domain inverse k k' =
    let x = always-exact-wide p a ra b rb radii pair c paper domain k.arrays k.own in
    let y =
    always-exact-wide q b rb a ra radii' pair' c' (exchanged-paper paper inverse) (exchanged-in-domain paper inverse binary64 ra rb domain) k'.arrays
    k'.own in
    record {
      here = x.output;
      there = y.output;
      answered_here = x.answered;
      answered_there = y.answered;
      exchanged = exchange-at Wide.bound_in_time room-in-time p q a ra b rb radii radii' pair pair' c c' paper x.output y.output inverse k.arrays
          k'.arrays x.answered y.answered x.in_time y.in_time;
    }

pub shift-always-wide : Wide.ShiftAlways Wide.bound_in_time
shift-always-wide p q a ra b l rb radii radii' pair pair' c c' paper by domain moved stays k k' =
    let other = shifted-paper paper by l moved in
    let x = always-exact-wide p a ra b rb radii pair c paper domain k.arrays k.own in
    let y =
    always-exact-wide q a ra l rb radii' pair' c' other (shifted-in-domain paper by l moved binary64 ra rb domain stays.near_b stays.near_shift)
    k'.arrays k'.own in
    record {
      here = x.output;
      there = y.output;
      answered_here = x.answered;
      answered_there = y.answered;
      alike = shift-at Wide.bound_in_time room-in-time p q a ra b l rb radii radii' pair pair' c c' paper by x.output y.output moved k.arrays
          k'.arrays x.answered y.answered x.in_time y.in_time;
    }
