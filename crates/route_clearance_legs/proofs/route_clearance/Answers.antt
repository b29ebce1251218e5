-- `route_clearance_legs::route_clearance` meets its contract: each check in its order, then the walk. Assumes nothing.
use mathlib.Core.Path.{refl}
use Prim.Native.Nat.{◌/◌}
use native.Mathlib.Omega.{arith}
use lib.ListN.{length}
use Rattle.route_legs.proofs.Checks.{sweeps-few, some-outline}
use Rattle.route_clearance_legs.proofs.Checks.{no-multiple, too_few, too_many, no-outline, too-many-outlines, lengths_differ, nothing-wrong}
use Rattle.route_clearance_legs.specs.Looks.{wrongly, walked}
use borrow.Author.Rules.{rules}
use Rattle.route_clearance_legs.proofs.route_clearance.Goals as goal

pub returns-then-waypoints-ne0 : goal.returns-then-waypoints-ne0
returns-then-waypoints-ne0 c = let a = c.args in
    wrongly (no-multiple a.waypoints.now a.stills.now a.lengths.now c.if-waypoints-ne0.true) (omega arith)

pub returns-then-places-lt2 : goal.returns-then-places-lt2
returns-then-places-lt2 c = let a = c.args in
    wrongly (too_few a.waypoints.now a.stills.now a.lengths.now c.if-waypoints-ne0.false c.if-places-lt2.true) (omega arith)

pub returns-then-places-gt-MOST_WAYPOINTS : goal.returns-then-places-gt-MOST_WAYPOINTS
returns-then-places-gt-MOST_WAYPOINTS c = let a = c.args in
    wrongly (too_many a.waypoints.now a.stills.now a.lengths.now c.if-waypoints-ne0.false c.if-places-lt2.false
    c.if-places-gt-MOST_WAYPOINTS.true) (omega arith)

pub returns-then-outlines-eq0 : goal.returns-then-outlines-eq0
returns-then-outlines-eq0 c = let a = c.args in
    wrongly (no-outline a.waypoints.now a.stills.now a.lengths.now c.if-waypoints-ne0.false
    c.if-places-lt2.false c.if-places-gt-MOST_WAYPOINTS.false c.if-outlines-eq0.true) (omega arith)

pub returns-then-outlines-gt-MOST_OUTLINES : goal.returns-then-outlines-gt-MOST_OUTLINES
returns-then-outlines-gt-MOST_OUTLINES c = let a = c.args in
    wrongly (too-many-outlines a.waypoints.now a.stills.now a.lengths.now c.if-waypoints-ne0.false
    c.if-places-lt2.false c.if-places-gt-MOST_WAYPOINTS.false c.if-outlines-eq0.false c.if-outlines-gt-MOST_OUTLINES.true) (omega arith)

pub returns-then-start_of-stills : goal.returns-then-start_of-stills
returns-then-start_of-stills c = let a = c.args in
    wrongly (lengths_differ a.waypoints.now a.stills.now a.lengths.now
    c.if-waypoints-ne0.false c.if-places-lt2.false
    c.if-places-gt-MOST_WAYPOINTS.false c.if-outlines-eq0.false c.if-outlines-gt-MOST_OUTLINES.false
    (rw c.start_of.ensures.0 at c.if-start_of-stills.true)) (omega arith)

pub overflow_mul-pairs : goal.overflow_mul-pairs
overflow_mul-pairs c = let a = c.args in
    omega (
      arith,
      sweeps-few (length a.waypoints.now / 4) (length a.lengths.now) c.if-places-gt-MOST_WAYPOINTS.false
          c.if-outlines-gt-MOST_OUTLINES.false,
    )

pub overflow_cast-pairs : goal.overflow_cast-pairs
overflow_cast-pairs c = let a = c.args in
    omega (
      arith,
      sweeps-few (length a.waypoints.now / 4) (length a.lengths.now) c.if-places-gt-MOST_WAYPOINTS.false
          c.if-outlines-gt-MOST_OUTLINES.false,
    )

pub walk-requires : goal.walk-requires
walk-requires c = let a = c.args in record {
  outlines_value = (
    refl,
    some-outline _ c.if-outlines-eq0.false,
    c.if-outlines-gt-MOST_OUTLINES.false,
    sweeps-few (length a.waypoints.now / 4) (length a.lengths.now) c.if-places-gt-MOST_WAYPOINTS.false c.if-outlines-gt-MOST_OUTLINES.false,
  );
  lengths_value = rw c.start_of.ensures.0 at c.if-start_of-stills.false;
}

pub returns : goal.returns
returns c = let a = c.args in
    walked (nothing-wrong a.waypoints.now a.stills.now a.lengths.now
    c.if-waypoints-ne0.false c.if-places-lt2.false
    c.if-places-gt-MOST_WAYPOINTS.false c.if-outlines-eq0.false c.if-outlines-gt-MOST_OUTLINES.false
    (rw c.start_of.ensures.0 at c.if-start_of-stills.false)) c.walk.ensures
