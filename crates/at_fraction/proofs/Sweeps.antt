-- The gap is the distance that a sweep works at that time from no corners, whatever its radii, its last time and its slop. Assumes nothing.
use mathlib.Core.Bool.{false}
use mathlib.Core.List.{List}
use mathlib.Core.Path.{◌≡◌, refl}
use lib.Ieee.{Float, Format}
use Rattle.model.specs.declared.Pose.{Pose}
use Rattle.model.specs.declared.Sweep.{Sweep}
use Rattle.model.specs.declared.SimplexCache.{SimplexCache}
use Rattle.model.specs.declared.Rounds.{Rounds}
use Rattle.model.specs.declared.Ending.{Ending}
use Rattle.model.specs.declared.Ending.TheVariants.{Touching, Settled, RoundLimit}
use Rattle.model.specs.declared.WitnessPoints.{WitnessPoints}
use Rattle.model.specs.Ground.{inverse_times}
use Rattle.model.specs.Ground as Ground
use Rattle.model.specs.Distance.{rounds, witness_points, measured_by, measure}
use Rattle.model.specs.Sweep.{transform_at, shifted}
use Rattle.model.specs.SweepToi.{sweep_pair, closest_at, sweep_task, no_corners}
use Rattle.at_fraction.specs.Moment.{gap}

-- a measurement without radii does not look at them
by-no-radii : (f : Format) (e : Ending) (ra rb : Float) (w : WitnessPoints) (r : Rounds) →
    (measured_by f e false ra rb w r).distance ≡ (measured_by f e false (Ground.zero f) (Ground.zero f) w r).distance
by-no-radii f Touching ra rb w r = refl
by-no-radii f Settled ra rb w r = refl
by-no-radii f RoundLimit ra rb w r = refl

no-radii : (f : Format) (p : Pose) (a : List Float) (ra : Float) (b : List Float) (rb : Float) (c : SimplexCache) →
    (measure f p a ra b rb false sweep_pair c).output.distance ≡ (measure f p a (Ground.zero f) b (Ground.zero f) false sweep_pair c).output.distance
unfolding measure
no-radii f p a ra b rb c = let r = rounds f a b p c in by-no-radii f r.ending ra rb (witness_points f r.simplex r.count) r

pub gap-is-the-sweeps : (f : Format) (a : List Float) (wa : Sweep) (b : List Float) (wb : Sweep) (t ra rb tmax slop : Float) →
    (closest_at f (sweep_task f ra wa rb wb tmax slop) a b t no_corners).distance ≡ gap f a wa b wb t
unfolding gap closest_at sweep_task
gap-is-the-sweeps f a wa b wb t ra rb tmax slop =
    no-radii f (inverse_times f (transform_at f (shifted f wa wa.c1) t) (transform_at f (shifted f wb wa.c1) t)) a ra b rb no_corners
