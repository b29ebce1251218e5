-- Where no call runs out of rounds, Ask 14 holds of every two calls: what it asks of them, that they are answered and do not end at the round limit, is
-- theirs already. Assumes nothing.
use Prim.Native.Nat.{ℕ}
use lib.Ieee.{Format}
use Rattle.model.specs.Distance.{max_iterations}
use Rattle.exact.specs.SquaredPaper.{Room}
use Rattle.round_limit.specs.RoundLimit.{EnoughRounds, bound_in_time}
use Rattle.exchange.proofs.Exchange.{exchanged-paper, exchanged-in-domain, exchange}
use Rattle.exchange.proofs.Shift.{shifted-paper, shifted-in-domain, shift}
use Rattle.round_limit.proofs.InTime.{always-exact, enough-in-the-call, room-in-time}
use Rattle.exchange_always.specs.Always.{ExchangeAlways, ShiftAlways}

pub exchange-always : (f : Format) (bound : ℕ) → Room f bound → EnoughRounds bound max_iterations → ExchangeAlways f bound
exchange-always f bound room enough p q a ra b rb radii radii' pair pair' c c' paper domain inverse k k' =
    let back = exchanged-paper paper inverse in
    let x = always-exact f bound room enough p a ra b rb radii pair c paper domain k.arrays k.own in
    let y =
    always-exact f bound room enough q b rb a ra radii' pair' c' back (exchanged-in-domain paper inverse f ra rb domain) k'.arrays k'.own in
    record {
      here = x.output;
      there = y.output;
      answered_here = x.answered;
      answered_there = y.answered;
      exchanged = exchange f bound room p q a ra b rb radii radii' pair pair' c c' paper x.output y.output inverse k.arrays k'.arrays
          x.answered y.answered x.in_time y.in_time;
    }

pub shift-always : (f : Format) (bound : ℕ) → Room f bound → EnoughRounds bound max_iterations → ShiftAlways f bound
shift-always f bound room enough p q a ra b l rb radii radii' pair pair' c c' paper by domain moved stays k k' =
    let other = shifted-paper paper by l moved in
    let x = always-exact f bound room enough p a ra b rb radii pair c paper domain k.arrays k.own in
    let y =
    always-exact f bound room enough q a ra l rb radii' pair' c' other (shifted-in-domain paper by l moved f ra rb domain stays.near_b stays.near_shift)
    k'.arrays k'.own in
    record {
      here = x.output;
      there = y.output;
      answered_here = x.answered;
      answered_there = y.answered;
      alike = shift f bound room p q a ra b l rb radii radii' pair pair' c c' paper by x.output y.output moved k.arrays k'.arrays
          x.answered y.answered x.in_time y.in_time;
    }

-- ---- at 16 for f32 and 22 for f64
pub exchange-always-on-squared-paper : (f : Format) → ExchangeAlways f (bound_in_time f)
exchange-always-on-squared-paper f = exchange-always f (bound_in_time f) (room-in-time f) (enough-in-the-call f)

pub shift-always-on-squared-paper : (f : Format) → ShiftAlways f (bound_in_time f)
shift-always-on-squared-paper f = shift-always f (bound_in_time f) (room-in-time f) (enough-in-the-call f)
