-- `route_legs::walk` meets its contract: what is left to sweep comes to what the whole does. Assumes nothing.
use Rattle.route_legs.proofs.Walks.{at_first, leg-few, outline-few, few-calls-of, swept-in-order, stopped-in-order, ends-here, goes_on, all-passed}
use mathlib.Core.Path.{ap, ◌∙◌}
use mathlib.Core.Bool.{not}
use native.Mathlib.Omega.{arith}
use lib.Ieee.{binary32}
use borrow.Author.Rules.{rules}
use Rattle.route_legs.proofs.walk.Goals as goal

pub loop-k-init : goal.loop-k-init
loop-k-init c = let a = c.args in
    (omega arith, at_first binary32 a.lists.cart.now a.lists.waypoints.now a.lists.stills.now a.lists.lengths.now a.lists.slop a.sweeps)

pub sweep_at-answer-requires : goal.sweep_at-answer-requires
sweep_at-answer-requires c = let k = c.loop-k.k in
    let a = c.args in
    let p = c.requires.outlines_value in
    let inside = outline-few k a.outlines c.outline_of-outline.ensures p.1 in record {
      i_bound = (
        leg-few k a.outlines 1024 c.leg_of-leg.ensures (omega (arith, p.3)),
        omega (arith, inside, p.0),
        omega (arith, p.0, p.2),
      );
      lengths_value = c.requires.lengths_value;
    }

pub overflow_add-calls : goal.overflow_add-calls
overflow_add-calls c = let l = c.loop-k in
    let a = c.args in
    let few = few-calls-of binary32 a.lists.cart.now a.lists.waypoints.now a.lists.stills.now a.lists.lengths.now a.lists.slop _ _ c.calls_of-calls.result _
    c.sweep_at-answer.ensures c.calls_of-calls.ensures in
    omega (
      arith,
      few,
      l.invariant.0,
      c.requires.outlines_value.3,
    )

pub stop_at-requires : goal.stop_at-requires
stop_at-requires c = let k = c.loop-k.k in
    let a = c.args in
    let p = c.requires.outlines_value in
    let leg = leg-few k a.outlines 1024 c.leg_of-leg.ensures
    (omega (arith, p.3)) in
    (leg, omega (arith, outline-few k a.outlines c.outline_of-outline.ensures p.1, p.2))

pub returns-then-not-is_separated : goal.returns-then-not-is_separated
returns-then-not-is_separated c = let l = c.loop-k in
    let a = c.args in
    let all = c.requires.outlines_value.0 in
    let leg = c.leg_of-leg.ensures in
    let past = c.outline_of-outline.ensures in
    let swept = swept-in-order binary32 a.lists.cart.now a.lists.waypoints.now a.lists.stills.now a.lists.lengths.now a.lists.slop l.k a.outlines all leg past
    c.sweep_at-answer.ensures in
    let stopped = stopped-in-order binary32 a.lists.cart.now a.lists.waypoints.now a.lists.stills.now a.lists.lengths.now a.lists.slop l.k
    a.outlines all leg past _ c.stop_at.ensures in
    ends-here binary32 a.lists.cart.now a.lists.waypoints.now a.lists.stills.now a.lists.lengths.now a.lists.slop a.sweeps l.k l.calls _ _
    (omega arith) swept c.calls_of-calls.ensures _
    c.is_separated.ensures (ap not c.if-not-is_separated.true) _ stopped _ c.ended_by.ensures
    ∙ l.invariant.1

pub loop-k-preserved : goal.loop-k-preserved
loop-k-preserved c = let l = c.loop-k in
    let a = c.args in
    let calls = c.calls_of-calls in
    let answer = c.sweep_at-answer.ensures in
    let swept = swept-in-order binary32 a.lists.cart.now a.lists.waypoints.now a.lists.stills.now a.lists.lengths.now a.lists.slop l.k a.outlines
    c.requires.outlines_value.0
    c.leg_of-leg.ensures c.outline_of-outline.ensures answer in (
      omega (
        arith,
        few-calls-of binary32 a.lists.cart.now a.lists.waypoints.now a.lists.stills.now a.lists.lengths.now a.lists.slop _ _ calls.result _ answer
            calls.ensures,
        l.invariant.0,
      ),
      goes_on binary32 a.lists.cart.now a.lists.waypoints.now a.lists.stills.now a.lists.lengths.now a.lists.slop a.sweeps l.k l.calls _ _
          (omega arith) swept calls.ensures _ c.is_separated.ensures (ap not c.if-not-is_separated.false)
          ∙ l.invariant.1,
    )

pub returns : goal.returns
returns c = let l = c.loop-k in
    let a = c.args in
    all-passed binary32 a.lists.cart.now a.lists.waypoints.now a.lists.stills.now a.lists.lengths.now a.lists.slop a.sweeps l.k l.calls (omega arith)
    ∙ l.invariant.1
