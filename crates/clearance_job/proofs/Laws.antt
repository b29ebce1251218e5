-- From the grid's numbers to the job's own. Assumes nothing.
use mathlib.Core.Path.{◌≡◌, refl, sym, ap, ◌∙◌, subst}
use mathlib.Core.Bool.{Bool, true, false, not}
use mathlib.Core.Logic.{◌⊎◌, inl, inr}
use mathlib.Core.List.{List}
use Prim.Native.Nat.{ℕ, max, ◌+◌, ◌*◌, ◌%◌, ◌^◌, ◌≤◌, ◌<◌}
use native.Mathlib.Nat.{lt_of_mul-lt-mul_right, add-mul}
use native.Mathlib.Omega.{arith}
use borrow.Author.Tests.{lt-leb}
use lib.Ieee.{Float, binary32, of_bits, to_bits}
use Rattle.integers.specs.Signed.{Int, 0Int, of_nat, ◌⊞◌, ◌⊠◌, ◌≼◌, ◌≺◌, ◌≃◌}
use Rattle.integers.specs.Whole.{signed}
use Rattle.integers.proofs.Signed.{le-or-lt, ⊠-comm}
use Rattle.plane.proofs.Weights.{⊠-mono}
use Rattle.plane.specs.Fraction.{◌≤ᶠ◌, ◌<ᶠ◌}
use Rattle.model.specs.declared.Vector.{Vector}
use Rattle.model.specs.Support.{point}
use Rattle.grid.specs.Units.{size, value}
use Rattle.grid.specs.Grid.{unit}
use Rattle.grid.proofs.Shifts.{unit-pos}
use Rattle.whole_way.specs.Mover.{share}
use Rattle.board.specs.declared.GridJob.{GridJob}
use Rattle.planned.specs.Planned.{worth_of, fraction_of, body_a, body_b, keep, end, Away, Clear, Touch, Open}
use Rattle.planned.proofs.Laws.{clear-between, away-up-to}
use Rattle.grid_job.specs.Placing.{OnBoard, FractionUp, FractionDown}
use Rattle.grid_job.proofs.Laws.{size-most}
use Rattle.clearance_verdict.specs.Verdict.{Span, ClearUpTo, Settled}
use Rattle.clearance_verdict.specs.declared.Stretch.{Stretch}
use Rattle.clearance_verdict.specs.declared.Answer.{Answer}
use Rattle.clearance_verdict.specs.declared.Answer.TheVariants as answer
use Rattle.clearance_job.specs.Promise.{Ended, Ranged, Started, Asked, Promised, Counted}
use Rattle.clearance_job.proofs.Patterns.{fraction-worth}

-- a zero with a sign is worth as much as one without
pub plain-zero : (x : Float) → to_bits binary32 x ≡ 2147483648 → (worth_of (of_bits binary32 0) ≡ worth_of x) × (to_bits binary32 (of_bits binary32 0) ≡ 0)
unfolding of_bits to_bits size
plain-zero x e = (ap value (sym e), refl)

-- the same of a move that is told by numbers of the same worth
pub asked_by : (x y from end : Float) (part : Stretch) → worth_of x ≡ worth_of from → worth_of y ≡ worth_of end → Asked x y part → Asked from end part
asked_by x y from end part e f h = record {
  span = h.span;
  starts = rw e at h.starts;
  within = rw f at h.within;
  ends = rw f at h.ends;
}

low_bits : (b : ℕ) → b ≤ 1065353216 → b % 2147483648 ≤ 1065353216
low_bits b h = omega arith

not_negative : (x : Float) → to_bits binary32 x ≤ 1065353216 → 0Int ≼ worth_of x
not_negative x h = rw (lt-leb 2147483648 (to_bits binary32 x) (omega arith)) (omega arith)

pub down_by : (x : Float) (r : ℕ) → FractionDown x r → to_bits binary32 x ≤ 1065353216 → of_nat r ⊠ of_nat unit ≼ worth_of x ⊠ of_nat 16777216
down_by x r h l = h.most (low_bits (to_bits binary32 x) l) (not_negative x l)

pub start-by : (x : Float) (r q : ℕ) → FractionDown x r → q ≤ r → to_bits binary32 x ≤ 1065353216 → of_nat q ⊠ of_nat unit ≼ worth_of x ⊠ of_nat 16777216
start-by x r q h l m = omega (
  arith,
  down_by x r h m,
  ⊠-mono (of_nat unit) (of_nat q) (of_nat r) (omega arith) (omega arith),
  ⊠-comm (of_nat q) (of_nat unit),
  ⊠-comm (of_nat r) (of_nat unit),
)

pub up_by : (x : Float) (r : ℕ) → FractionUp x r → to_bits binary32 x ≤ 1065353216 → worth_of x ⊠ of_nat 16777216 ≼ of_nat r ⊠ of_nat unit
up_by x r h l = h.least (low_bits (to_bits binary32 x) l)

pub past_by : (x : Float) (r q : ℕ) → FractionUp x r → r ≤ q → to_bits binary32 x ≤ 1065353216 → worth_of x ⊠ of_nat 16777216 ≼ of_nat q ⊠ of_nat unit
past_by x r q h l m = omega (
  arith,
  up_by x r h m,
  ⊠-mono (of_nat unit) (of_nat r) (of_nat q) (omega arith) (omega arith),
  ⊠-comm (of_nat r) (of_nat unit),
  ⊠-comm (of_nat q) (of_nat unit),
)

-- ---- a part is found
unit-cancels : (a b : ℕ) → of_nat a ⊠ of_nat unit ≺ of_nat b ⊠ of_nat unit → a < b
unfolding ◌⊠◌
unit-cancels a b h = lt_of_mul-lt-mul_right unit {m = a} {n = b} (omega arith)

one_more : (a : ℕ) → of_nat (a + 1) ⊠ of_nat unit ≃ of_nat a ⊠ of_nat unit ⊞ of_nat unit
unfolding ◌⊠◌
one_more a = omega (arith, add-mul a 1 unit)

whole-way : (z : Int) → z ≼ of_nat unit → z ⊠ of_nat 16777216 ≼ of_nat 16777216 ⊠ of_nat unit
unfolding ◌⊠◌
whole-way z h = omega arith

in_order : (y z : Int) → y ≼ z → y ⊠ of_nat 16777216 ≼ z ⊠ of_nat 16777216
unfolding ◌⊠◌
in_order y z h = omega arith

ended_by : (first up : ℕ) (end : Float) → first < up → FractionUp end up → Ended first end up
ended_by first up end l h = record { ends = up_by end up h; after = l; near = λ m. inl (h.near m) }

ended-past : (first up : ℕ) (end : Float) → up ≤ first → FractionUp end up → Ended first end (first + 1)
ended-past first up end l h = record { ends = past_by end up (first + 1) h (omega arith); after = omega arith; near = λ m. inr (omega arith) }

pub ended_at : (first up r : ℕ) (end : Float) → FractionUp end up → r ≡ max up (first + 1) → Ended first end r
ended_at first up r end h e = go (le-or-lt up first)
  where
    go : (up ≤ first) ⊎ (first < up) → Ended first end r
    go (inl l) = subst (λ (n : ℕ). Ended first end n) (omega (arith, e)) (ended-past first up end l h)
    go (inr l) = subst (λ (n : ℕ). Ended first end n) (omega (arith, e)) (ended_by first up end l h)

module _ (from end : Float) (down first low high : ℕ) (h : Started from end) (d : FractionDown from down) (f : first ≤ down) (g : first < 16777216)
    (l : FractionDown end low) (e : Ended first end high) where
  end-worth : worth_of end ≼ of_nat unit
  end-worth = fraction-worth (to_bits binary32 end) h.ends (size-most (to_bits binary32 end) (low_bits (to_bits binary32 end) h.ends))

  first-low : first < low + 1
  first-low = unit-cancels first (low + 1) (omega (
    arith,
    start-by from down first d f h.starts,
    in_order (worth_of from) (worth_of end) h.order,
    l.near h.ends,
    one_more low,
  ))

  pub low-high : low ≤ high
  low-high = at_most (unit-cancels low (high + 1) (omega (arith, down_by end low l h.ends, e.ends h.ends, one_more high, unit-pos)))
    where
      at_most : low < high + 1 → low ≤ high
      at_most m = omega arith

  pub high-whole : high ≤ 16777216
  high-whole = go (e.near h.ends)
    where
      at_most : high < 16777216 + 1 → high ≤ 16777216
      at_most m = omega arith

      go : (of_nat high ⊠ of_nat unit ≺ worth_of end ⊠ of_nat 16777216 ⊞ of_nat unit) ⊎ (high ≤ first + 1) → high ≤ 16777216
      go (inl m) = at_most (unit-cancels high (16777216 + 1) (omega (arith, m, whole-way (worth_of end) end-worth, one_more 16777216)))
      go (inr m) = omega arith

  pub high-low : high ≤ low + 1
  high-low = go (e.near h.ends)
    where
      at_most : high < low + 1 + 1 → high ≤ low + 1
      at_most m = omega arith

      go : (of_nat high ⊠ of_nat unit ≺ worth_of end ⊠ of_nat 16777216 ⊞ of_nat unit) ⊎ (high ≤ first + 1) → high ≤ low + 1
      go (inl m) = at_most (unit-cancels high (low + 1 + 1) (omega (arith, m, l.near h.ends, one_more low, one_more (low + 1))))
      go (inr m) = omega (arith, first-low)

-- ---- the promise
module _ (points_a points_b numbers : List Float) (from : Float) (job : GridJob) (axs ays bxs bys : List ℕ) (part : Stretch)
    (on : OnBoard points_a points_b numbers job axs ays bxs bys) (asked : Asked from (point numbers 1).x part) where
  ends : end points_a points_b numbers ≤ᶠ share 16777216 part.high
  ends = omega (arith, asked.ends, ⊠-comm (worth_of (point numbers 1).x) (of_nat 16777216), ⊠-comm (of_nat part.high) (of_nat unit))

  within : (t : ℕ) → t ≤ part.low → share 16777216 t ≤ᶠ end points_a points_b numbers
  within t h = omega (
    arith,
    asked.within,
    ⊠-mono (of_nat unit) (of_nat t) (of_nat part.low) (omega arith) (omega arith),
    ⊠-comm (worth_of (point numbers 1).x) (of_nat 16777216),
    ⊠-comm (of_nat part.low) (of_nat unit),
  )

  not-before : (u : ℕ) → u ≤ part.from → fraction_of from <ᶠ share 16777216 u → ⊥
  not-before u h l = omega (
    arith,
    l,
    asked.starts,
    ⊠-mono (of_nat unit) (of_nat u) (of_nat part.from) (omega arith) (omega arith),
    ⊠-comm (worth_of from) (of_nat 16777216),
    ⊠-comm (of_nat part.from) (of_nat unit),
  )

  up_to : (u : ℕ) → ClearUpTo job axs ays bxs bys part.from u → fraction_of from <ᶠ share 16777216 u → Away points_a points_b numbers (fraction_of from)
      (share 16777216 u)
  up_to u clear l = go (le-or-lt u part.from)
    where
      go : (u ≤ part.from) ⊎ (part.from < u) → Away points_a points_b numbers (fraction_of from) (share 16777216 u)
      go (inl h) = absurd (not-before u h l)
      go (inr h) = away-up-to points_a points_b numbers from part.from u asked.starts
          (clear h unit (2 ^ on.g) (body_a points_a points_b numbers) (body_b points_a points_b numbers) (keep points_a points_b numbers) on.stands)

  pub counted : (a : Answer) → Settled job part.from part.low part.high axs ays bxs bys a → Counted a
  counted (answer.Clear n) h = h.1
  counted (answer.Touch u t n) h = (omega (arith, h.touch.before, asked.span.over, asked.span.whole), h.few)
  counted (answer.Open u n) h = (omega (arith, h.before, asked.span.over, asked.span.whole), h.some, h.few)

  pub promised : (a : Answer) → Settled job part.from part.low part.high axs ays bxs bys a → Promised points_a points_b numbers from a
  promised (answer.Clear n) h = clear-between points_a points_b numbers from part.from part.high asked.starts ends
      (h.0 unit (2 ^ on.g) (body_a points_a points_b numbers) (body_b points_a points_b numbers) (keep points_a points_b numbers) on.stands)
  promised (answer.Touch u t n) h = record {
    order = h.touch.order;
    before = within t h.touch.before;
    clear = up_to u h.clear;
    touching = h.touch.touching unit (2 ^ on.g) (body_a points_a points_b numbers) (body_b points_a points_b numbers) (keep points_a points_b numbers)
        on.stands;
  }
  promised (answer.Open u n) h = record { before = within u h.before; clear = up_to u h.clear }

pub started : (numbers : List Float) (from : Float) (v : Vector) (p q : Float) → v ≡ point numbers 1
    → (worth_of p ≡ worth_of from) × (0Int ≼ worth_of from → worth_of from ≼ of_nat unit → to_bits binary32 p ≤ 1065353216)
    → (worth_of q ≡ worth_of v.x) × (0Int ≼ worth_of v.x → worth_of v.x ≼ of_nat unit → to_bits binary32 q ≤ 1065353216)
    → Ranged from (point numbers 1).x → Started p q
started numbers from v p q e hp hq h =
    let r : Ranged from v.x = subst (λ (w : Vector). Ranged from w.x) (sym e) h in
    record {
      starts = hp.1 r.least (omega (arith, r.order, r.most));
      ends = hq.1 (omega (arith, r.least, r.order)) r.most;
      order = rw (hp.0, hq.0) r.order;
    }
