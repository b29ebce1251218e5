-- `places::pattern` meets its contract: what is left of the doublings gives the same pattern. Assumes nothing.
use mathlib.Core.Path.{◌≡◌, refl, sym, ap, ◌∙◌}
use Prim.Native.Nat.{ℕ, ◌+◌, ◌-◌, ◌*◌, ◌≤◌, ◌<◌}
use native.Mathlib.Omega.{arith}
use Rattle.places.specs.Place.{pattern_from}
use Rattle.places.proofs.Laws.{doubled, long-enough, none_left}
use Rattle.places.proofs.pattern.Goals as goal

pub loop-doubled-init : goal.loop-doubled-init
loop-doubled-init c = (omega arith, refl)

pub returns-then-m-ge8388608 : goal.returns-then-m-ge8388608
returns-then-m-ge8388608 c = let l = c.loop-doubled in
    sym (long-enough (23 - l.doubled) l.m (omega (arith, c.loop-doubled-test.true)) c.if-m-ge8388608.true) ∙ l.invariant.1

pub loop-doubled-preserved : goal.loop-doubled-preserved
loop-doubled-preserved c = let l = c.loop-doubled in
    let less : 23 - (l.doubled + 1) ≡ 23 - l.doubled - 1 = omega arith in (
      omega arith,
      ap (λ (n : ℕ). pattern_from n (2 * l.m)) less
          ∙ sym (doubled (23 - l.doubled) l.m (omega (arith, c.loop-doubled-test.true)) c.if-m-ge8388608.false)
          ∙ l.invariant.1,
    )

pub returns : goal.returns
returns c = let l = c.loop-doubled in sym (none_left (23 - l.doubled) l.m (omega (arith, c.loop-doubled-test.false))) ∙ l.invariant.1
