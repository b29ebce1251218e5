-- A job that is not refused has ordinary patterns, and a start and an end in range. Assumes nothing.
use mathlib.Core.Path.{◌≡◌, refl, sym, ap, ◌∙◌, subst}
use mathlib.Core.Bool.{Bool, true, false, not, ◌&&◌, ◌||◌, cond, false≢true, true≢false}
use mathlib.Core.List.{List, [], ◌∷◌}
use Prim.Native.Nat.{ℕ, zero, suc, ◌+◌, ◌*◌, ◌/◌, ◌%◌, ◌^◌, ◌≤◌, ◌<◌}
use native.Mathlib.Nat.{not-suc-le-zero, le_of_suc-le-suc}
use native.Mathlib.Omega.{arith}
use borrow.Author.Tests.{ltb-false}
use lib.Dec.{T, eqb, ltb}
use lib.IntN.{ℤ, pos}
use lib.ListN.{length, get_or, take}
use lib.Seq.{length-take-le}
use lib.Ieee.{Float, nan, inf, fin, binary32, up, down, lt, eq, le, fits, of_bits, to_bits}
use lib.Ieee.Bits.{of_bits-fits}
use lib.Ieee.Exact.{HasValue}
use Rattle.integers.specs.Signed.{Int, 0Int, of_nat, ◌≼◌}
use Rattle.integers.specs.Whole.{signed}
use Rattle.model.specs.declared.Rotation.{Rotation}
use Rattle.model.specs.declared.Vector.{Vector}
use Rattle.model.specs.Ground.{abs}
use Rattle.model.specs.Ground as Ground
use Rattle.model.specs.Support.{point}
use Rattle.model.specs.Work.{move_at}
use Rattle.model.specs.Domain.{bad_outline, bad_part, bad_parts, bad_vector, bad_radius, bad_rotation, bad_centres, limit, least_square, most_square, squared}
use Rattle.model.specs.Domain.{pair_refusal, sweeps_refusal, fraction_refusal, slop_refusal}
use Rattle.model.proofs.Domain.{neither-refused, test-passed}
use Rattle.grid.specs.Units.{negative, size}
use Rattle.grid.specs.Grid.{unit}
use Rattle.grid.proofs.Worth.{float-worth}
use Rattle.planned.specs.Planned.{worth_of}
use Rattle.grid_job.specs.Placing.{UpTo, Ordinary}
use Rattle.grid_job.proofs.Laws.{pattern-more}
use Rattle.clearance_job.specs.Promise.{Ranged}
use Rattle.clearance_job.proofs.Patterns.{pattern-most}
use Rattle.clearance_call.specs.Call.{from_refusal, refusal_of}
use Rattle.clearance_call.proofs.Order.{Some, both, le-values, le-worth, some-between}
use Rattle.clearance_call.proofs.Laws.{test-holds, zero-some, one-some, not_negative}

neither : (s t : Bool) → (s || t) ≡ false → (s ≡ false) × (t ≡ false)
neither true t e = absurd (true≢false e)
neither false t e = (refl, e)

passes : (t : Bool) → not t ≡ false → t ≡ true
passes true e = refl
passes false e = absurd (true≢false e)

-- ---- sizes
abs-some : (x : Float) (t : Bool) (n : ℕ) (d : ℤ) → le (abs x) (fin t n d) ≡ true → Some x
unfolding abs le lt eq
abs-some nan t n d e = absurd (false≢true e)
abs-some (inf s) t n d e = absurd (false≢true e)
abs-some (fin s m i) t n d e = record { sign = s; over = m * up i; under = down i; value = (refl, refl) }

abs-value : (x : Float) (s : Bool) (a c : ℕ) → HasValue x s a c → HasValue (abs x) false a c
unfolding abs
abs-value nan s a c v = absurd v
abs-value (inf t) s a c v = absurd v
abs-value (fin t m i) s a c v = (refl, v.1)

-- L is 2 ^ E times the smallest number with a field
module _ (L : Float) (n : ℕ) (d : ℤ) (E : ℕ) (is : L ≡ fin false n d) (worth : HasValue L false (8388608 * 2 ^ E) (2 ^ 149)) where
  abs-most : (x : Float) → T (fits binary32 x) → le (abs x) L ≡ true → to_bits binary32 x % 2147483648 ≤ (E + 1) * 8388608
  abs-most x f e =
      let s = abs-some x false n d (subst (λ (y : Float). le (abs x) y ≡ true) is e) in
      let b = to_bits binary32 x in
      let v = float-worth x s.sign s.over s.under f s.value in
      let o = le-values (abs x) L false false (size b) (8388608 * 2 ^ E) (2 ^ 149) (abs-value x (negative b) (size b) (2 ^ 149) v.1) worth e in
      pattern-most E b (omega (arith, o))

  L-some : Some L
  L-some = record { sign = false; over = 8388608 * 2 ^ E; under = 2 ^ 149; value = worth }

  between : (s : Bool) (a M : ℕ) → signed false 0 ≼ signed s a → signed s a ≼ signed false M → a ≤ M
  between false a M h k = omega arith
  between true a M h k = omega arith

  zero-value : HasValue (Ground.zero binary32) false 0 (2 ^ 149)
  unfolding of_bits
  zero-value = (refl, refl)

  range-most : (x : Float) → T (fits binary32 x) → le (Ground.zero binary32) x ≡ true → le x L ≡ true → to_bits binary32 x % 2147483648 ≤ (E + 1) * 8388608
  range-most x f g e =
      let s = some-between (Ground.zero binary32) x L zero-some L-some g e in
      let b = to_bits binary32 x in
      let v = float-worth x s.sign s.over s.under f s.value in
      pattern-most E b (between (negative b) (size b) (8388608 * 2 ^ E)
      (le-values (Ground.zero binary32) x false (negative b) 0 (size b) (2 ^ 149) zero-value v.1 g)
      (le-values x L (negative b) false (size b) (8388608 * 2 ^ E) (2 ^ 149) v.1 worth e))

limit_is : limit binary32 ≡ fin false 1 (pos 20)
unfolding of_bits
limit_is = refl

limit-value : HasValue (limit binary32) false (8388608 * 2 ^ 146) (2 ^ 149)
unfolding of_bits
limit-value = (refl, refl)

one-is : Ground.one binary32 ≡ fin false 1 (pos 0)
unfolding of_bits
one-is = refl

one_value : HasValue (Ground.one binary32) false (8388608 * 2 ^ 126) (2 ^ 149)
unfolding of_bits
one_value = (refl, refl)

one-worth : worth_of (Ground.one binary32) ≡ of_nat unit
unfolding of_bits to_bits size unit
one-worth = refl

-- ---- what each test leaves
abbrev Place : Float → Type 0
Place x = to_bits binary32 x % 2147483648 ≤ 1233125376

abbrev Turn : Float → Type 0
Turn x = to_bits binary32 x % 2147483648 ≤ 1065353216

part-place : (x : Float) → T (fits binary32 x) → bad_part binary32 x ≡ false → Place x
part-place x f h = abs-most (limit binary32) 1 (pos 20) 146 limit_is limit-value x f (passes (le (abs x) (limit binary32)) h)

radius-place : (x : Float) → T (fits binary32 x) → bad_radius binary32 x ≡ false → Place x
radius-place x f h =
    let t = both (le (Ground.zero binary32) x) (le x (limit binary32)) (passes (le (Ground.zero binary32) x && le x (limit binary32)) h) in
    range-most (limit binary32) 1 (pos 20) 146 limit_is limit-value x f t.0 t.1

above-or : (x y : Float) → lt x y ≡ true → le x y ≡ true
unfolding le
above-or x y h = rw h refl

slop-place : (x : Float) → T (fits binary32 x) → slop_refusal binary32 x ≡ 0 → Place x
slop-place x f h =
    let t = both (lt (Ground.zero binary32) x) (le x (limit binary32)) (test-holds _ 8 (omega arith) h) in
    range-most (limit binary32) 1 (pos 20) 146 limit_is limit-value x f (above-or (Ground.zero binary32) x t.0) t.1

turn-parts : (q : Rotation) → T (fits binary32 q.c) → T (fits binary32 q.s) → bad_rotation binary32 q ≡ false → Turn q.c × Turn q.s
turn-parts q fc fs h =
    let C = le (abs q.c) (Ground.one binary32) in
    let S = le (abs q.s) (Ground.one binary32) in
    let t = passes (C && S && le (least_square binary32) (squared binary32 q) && le (squared binary32 q) (most_square binary32)) h in
    let u = both (C && S && le (least_square binary32) (squared binary32 q)) (le (squared binary32 q) (most_square binary32)) t in
    let v = both (C && S) (le (least_square binary32) (squared binary32 q)) u.0 in
    let w = both C S v.0 in (
      abs-most (Ground.one binary32) 1 (pos 0) 126 one-is one_value q.c fc w.0,
      abs-most (Ground.one binary32) 1 (pos 0) 126 one-is one_value q.s fs w.1,
    )

good-parts : (s : List Float) (i : ℕ) → bad_parts binary32 s ≡ false → i < length s → bad_part binary32 (get_or s i nan) ≡ false
unfolding bad_parts
good-parts [] i h l = absurd (not-suc-le-zero l)
good-parts (x ∷ s) zero h l = (neither (bad_part binary32 x) (bad_parts binary32 s) h).0
good-parts (x ∷ s) (suc i) h l = good-parts s i (neither (bad_part binary32 x) (bad_parts binary32 s) h).1 (le_of_suc-le-suc l)

abbrev Held : List Float → Type 0
Held s = (k : ℕ) → T (fits binary32 (get_or s k nan))

all-places : (s : List Float) → Held s → bad_parts binary32 s ≡ false → UpTo s 0 (length s) 1233125376
all-places s f h k l m = part-place (get_or s k nan) (f k) (good-parts s k h m)

pub short : (s : List Float) → bad_outline s ≡ false → length s / 2 ≤ 64
short s h =
    let t = neither (eqb (length s) 0 || eqb (length s % 2) 1) (ltb 128 (length s)) h in
    omega (arith, ltb-false 128 (length s) t.1)

pub alike : (j : ℕ) (l m : List ℕ) → j ≤ length l → j ≤ length m → length (take j l) ≡ length (take j m)
alike j l m h k = length-take-le j l h ∙ sym (length-take-le j m k)

-- ---- one number more
module _ (ns : List Float) where
  none : (i a : ℕ) → UpTo ns i i a
  none i a k l m = absurd (omega arith)

  more : (from i a : ℕ) → UpTo ns from i a → to_bits binary32 (get_or ns i nan) % 2147483648 ≤ a → UpTo ns from (i + 1) a
  more from i a u h = pattern-more ns from i a a u (omega arith) h

  two : (from i a : ℕ) → UpTo ns from i a → (to_bits binary32 (get_or ns i nan) % 2147483648 ≤ a) × (to_bits binary32 (get_or ns (i + 1) nan) % 2147483648 ≤ a)
      → UpTo ns from (i + 1 + 1) a
  two from i a u h = more from (i + 1) a (more from i a u h.0) h.1

  module _ (f : Held ns) where
    vector_places : (i : ℕ) → bad_vector binary32 (point ns i) ≡ false → Place (point ns i).x × Place (point ns i).y
    vector_places i h =
        let t = neither (bad_part binary32 (point ns i).x) (bad_part binary32 (point ns i).y) h in
        (part-place (point ns i).x (f (2 * i)) t.0, part-place (point ns i).y (f (2 * i + 1)) t.1)

module _ (a b ns : List Float) (from : Float) (passed : refusal_of a b ns from ≡ 0) where
  record Parts : Type 0 where
    pub pair : pair_refusal binary32 a b (point ns 0).x (point ns 0).y ≡ 0
    pub sweeps : sweeps_refusal binary32 (move_at ns 2) (move_at ns 7) ≡ 0
    pub fraction : fraction_refusal binary32 (point ns 1).x ≡ 0
    pub start : from_refusal from (point ns 1).x ≡ 0
    pub slop : slop_refusal binary32 (point ns 1).y ≡ 0

  parts : Parts
  unfolding refusal_of
  parts =
      let pair = neither-refused (pair_refusal binary32 a b (point ns 0).x (point ns 0).y) _ passed in
      let sweeps = neither-refused (sweeps_refusal binary32 (move_at ns 2) (move_at ns 7)) _ pair.1 in
      let fraction = neither-refused (fraction_refusal binary32 (point ns 1).x) _ sweeps.1 in
      let start = neither-refused (from_refusal from (point ns 1).x) _ fraction.1 in
      record { pair = pair.0; sweeps = sweeps.0; fraction = fraction.0; start = start.0; slop = start.1 }

  pub outlines : (bad_outline a ≡ false) × (bad_outline b ≡ false) × (bad_parts binary32 a ≡ false) × (bad_parts binary32 b ≡ false)
      × (bad_radius binary32 (point ns 0).x ≡ false) × (bad_radius binary32 (point ns 0).y ≡ false)
  outlines =
      let first = test-passed (bad_outline a) 0 _ parts.pair in
      let second = test-passed (bad_outline b) 1 _ first.1 in
      let third = test-passed (bad_parts binary32 a || bad_parts binary32 b) 2 _ second.1 in
      let fourth = test-passed (bad_radius binary32 (point ns 0).x || bad_radius binary32 (point ns 0).y) 3 0 third.1 in
      let p = neither (bad_parts binary32 a) (bad_parts binary32 b) third.0 in
      let r = neither (bad_radius binary32 (point ns 0).x) (bad_radius binary32 (point ns 0).y) fourth.0 in
      (first.0, second.0, p.0, p.1, r.0, r.1)

  module _ (fa : Held a) (fb : Held b) (f : Held ns) (ff : T (fits binary32 from)) where
    pub ranged : Ranged from (point ns 1).x
    ranged =
        let last = (point ns 1).x in
        let z = Ground.zero binary32 in
        let o = Ground.one binary32 in
        let e = both (le z last) (le last o) (test-holds _ 7 (omega arith) parts.fraction) in
        let s = both (le z from) (le from last) (test-holds _ 7 (omega arith) parts.start) in
        let last_Some = some-between z last o zero-some one-some e.0 e.1 in
        let from_some = some-between z from last zero-some last_Some s.0 s.1 in
        record {
          least = not_negative from ff from_some s.0;
          order = le-worth from last ff (f 2) from_some last_Some s.1;
          most = subst (λ (w : Int). worth_of last ≼ w) one-worth (le-worth last o (f 2) (of_bits-fits binary32 1065353216) last_Some one-some e.1);
        }

    pub ordinary : Ordinary a b ns
    unfolding move_at
    ordinary =
        let rotations = test-passed (bad_rotation binary32 (move_at ns 2).q1 || bad_rotation binary32 (move_at ns 2).q2 || bad_rotation binary32 (move_at ns 7
        ).q1 || bad_rotation binary32 (move_at ns 7).q2) 4 _ parts.sweeps in
        let centres = test-passed (bad_centres binary32 (move_at ns 2) || bad_centres binary32 (move_at ns 7)) 5 0 rotations.1 in
        let q3 = neither (bad_rotation binary32 (move_at ns 2).q1 || bad_rotation binary32 (move_at ns 2).q2 || bad_rotation binary32 (move_at ns 7).q1)
        (bad_rotation binary32 (move_at ns 7).q2) rotations.0 in
        let q2 = neither (bad_rotation binary32 (move_at ns 2).q1 || bad_rotation binary32 (move_at ns 2).q2) (bad_rotation binary32 (move_at ns 7).q1)
        q3.0 in
        let q1 = neither (bad_rotation binary32 (move_at ns 2).q1) (bad_rotation binary32 (move_at ns 2).q2) q2.0 in
        let c = neither (bad_centres binary32 (move_at ns 2)) (bad_centres binary32 (move_at ns 7)) centres.0 in
        let a2 = neither (bad_vector binary32 (point ns 2) || bad_vector binary32 (point ns 3)) (bad_vector binary32 (point ns 4)) c.0 in
        let a1 = neither (bad_vector binary32 (point ns 2)) (bad_vector binary32 (point ns 3)) a2.0 in
        let b2 = neither (bad_vector binary32 (point ns 7) || bad_vector binary32 (point ns 8)) (bad_vector binary32 (point ns 9)) c.1 in
        let b1 = neither (bad_vector binary32 (point ns 7)) (bad_vector binary32 (point ns 8)) b2.0 in
        let o = outlines in
        record {
          a = all-places a fa o.2;
          b = all-places b fb o.3;
          radii = two ns 0 0 1233125376 (none ns 0 1233125376) (radius-place (point ns 0).x (f 0) o.4, radius-place (point ns 0).y (f 1) o.5);
          move_a = two ns 3 8 1233125376 (two ns 3 6 1233125376 (two ns 3 4 1233125376 (more ns 3 3 1233125376 (none ns 3 1233125376) (slop-place (point ns 1
              ).y (f 3) parts.slop)) (vector_places ns f 2 a1.0)) (vector_places ns f 3 a1.1)) (vector_places ns f 4 a2.1);
          move_b = two ns 14 18 1233125376 (two ns 14 16 1233125376 (two ns 14 14 1233125376 (none ns 14 1233125376) (vector_places ns f 7 b1.0))
              (vector_places ns f 8 b1.1)) (vector_places ns f 9 b2.1);
          turns_a = two ns 10 12 1065353216 (two ns 10 10 1065353216 (none ns 10 1065353216) (turn-parts (move_at ns 2).q1 (f 10) (f 11) q1.0))
              (turn-parts (move_at ns 2).q2 (f 12) (f 13) q1.1);
          turns_b = two ns 20 22 1065353216 (two ns 20 20 1065353216 (none ns 20 1065353216) (turn-parts (move_at ns 7).q1 (f 20) (f 21) q2.1))
              (turn-parts (move_at ns 7).q2 (f 22) (f 23) q3.1);
        }
