-- `route_legs::route` meets its contract: each check in its order, then the walk. Assumes nothing.
use mathlib.Core.Path.{refl, ◌∙◌}
use Prim.Native.Nat.{◌/◌}
use native.Mathlib.Omega.{arith}
use lib.ListN.{length}
use lib.Ieee.{binary32}
use Rattle.route_legs.proofs.Checks.{sweeps-few, some-outline, no-multiple, too_few, too_many, no-outline, too-many-outlines, lengths_differ, all_right}
use Rattle.route_legs.proofs.route.Goals as goal

pub returns-then-waypoints-ne0 : goal.returns-then-waypoints-ne0
returns-then-waypoints-ne0 c = let a = c.args in
    no-multiple binary32 a.cart.now a.waypoints.now a.stills.now a.lengths.now a.slop c.if-waypoints-ne0.true

pub returns-then-places-lt2 : goal.returns-then-places-lt2
returns-then-places-lt2 c = let a = c.args in
    too_few binary32 a.cart.now a.waypoints.now a.stills.now a.lengths.now a.slop c.if-waypoints-ne0.false c.if-places-lt2.true

pub returns-then-places-gt-MOST_WAYPOINTS : goal.returns-then-places-gt-MOST_WAYPOINTS
returns-then-places-gt-MOST_WAYPOINTS c = let a = c.args in
    too_many binary32 a.cart.now a.waypoints.now a.stills.now a.lengths.now a.slop c.if-waypoints-ne0.false c.if-places-lt2.false
    c.if-places-gt-MOST_WAYPOINTS.true

pub returns-then-outlines-eq0 : goal.returns-then-outlines-eq0
returns-then-outlines-eq0 c = let a = c.args in
    no-outline binary32 a.cart.now a.waypoints.now a.stills.now a.lengths.now a.slop c.if-waypoints-ne0.false
    c.if-places-lt2.false c.if-places-gt-MOST_WAYPOINTS.false c.if-outlines-eq0.true

pub returns-then-outlines-gt-MOST_OUTLINES : goal.returns-then-outlines-gt-MOST_OUTLINES
returns-then-outlines-gt-MOST_OUTLINES c = let a = c.args in
    too-many-outlines binary32 a.cart.now a.waypoints.now a.stills.now a.lengths.now a.slop c.if-waypoints-ne0.false
    c.if-places-lt2.false c.if-places-gt-MOST_WAYPOINTS.false c.if-outlines-eq0.false c.if-outlines-gt-MOST_OUTLINES.true

pub returns-then-start_of-stills : goal.returns-then-start_of-stills
returns-then-start_of-stills c = let a = c.args in
    lengths_differ binary32 a.cart.now a.waypoints.now a.stills.now a.lengths.now a.slop
    c.if-waypoints-ne0.false c.if-places-lt2.false
    c.if-places-gt-MOST_WAYPOINTS.false c.if-outlines-eq0.false c.if-outlines-gt-MOST_OUTLINES.false
    (rw c.start_of.ensures.0 at c.if-start_of-stills.true)

pub overflow_mul-sweeps : goal.overflow_mul-sweeps
overflow_mul-sweeps c = let a = c.args in
    omega (
      arith,
      sweeps-few (length a.waypoints.now / 4) (length a.lengths.now) c.if-places-gt-MOST_WAYPOINTS.false
          c.if-outlines-gt-MOST_OUTLINES.false,
    )

pub overflow_cast-sweeps : goal.overflow_cast-sweeps
overflow_cast-sweeps c = let a = c.args in
    omega (
      arith,
      sweeps-few (length a.waypoints.now / 4) (length a.lengths.now) c.if-places-gt-MOST_WAYPOINTS.false
          c.if-outlines-gt-MOST_OUTLINES.false,
    )

pub walk-requires : goal.walk-requires
walk-requires c =
    let a = c.args in
    record {
      outlines_value = (
        refl,
        some-outline _ c.if-outlines-eq0.false,
        c.if-outlines-gt-MOST_OUTLINES.false,
        sweeps-few (length a.waypoints.now / 4) (length a.lengths.now) c.if-places-gt-MOST_WAYPOINTS.false c.if-outlines-gt-MOST_OUTLINES.false,
      );
      lengths_value = rw c.start_of.ensures.0 at c.if-start_of-stills.false;
    }

pub returns : goal.returns
returns c = let a = c.args in
    c.walk.ensures ∙ all_right binary32 a.cart.now a.waypoints.now a.stills.now a.lengths.now a.slop
    c.if-waypoints-ne0.false c.if-places-lt2.false
    c.if-places-gt-MOST_WAYPOINTS.false c.if-outlines-eq0.false c.if-outlines-gt-MOST_OUTLINES.false
    (rw c.start_of.ensures.0 at c.if-start_of-stills.false)
