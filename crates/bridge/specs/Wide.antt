-- A record of model as the record of the f64 crates with the same parts. A value of `lib.Ieee` belongs to no width, so no part changes.
use Rattle.std.specs.Prelude.{List, map, Result, Ok, Err}
use Rattle.model.specs.declared.Vector.{Vector}
use Rattle.model.specs.declared.Rotation.{Rotation}
use Rattle.model.specs.declared.Pose.{Pose}
use Rattle.model.specs.declared.Sweep.{Sweep}
use Rattle.model.specs.declared.SimplexVertex.{SimplexVertex}
use Rattle.model.specs.declared.Solved.{Solved}
use Rattle.model.specs.declared.Rounds.{Rounds}
use Rattle.model.specs.declared.WitnessPoints.{WitnessPoints}
use Rattle.model.specs.declared.ProxyDistanceOutput.{ProxyDistanceOutput}
use Rattle.model.specs.declared.Measurement.{Measurement}
use Rattle.model.specs.declared.Distance.{Distance}
use Rattle.model.specs.declared.SeparationFunction.{SeparationFunction}
use Rattle.model.specs.declared.MinSeparation.{MinSeparation}
use Rattle.model.specs.declared.Search.{Search}
use Rattle.model.specs.declared.SweepTask.{SweepTask}
use Rattle.model.specs.declared.Closest.{Closest}
use Rattle.model.specs.declared.RootSearch.{RootSearch}
use Rattle.model.specs.declared.Contact.{Contact}
use Rattle.model.specs.declared.SweepAnswer.{SweepAnswer}
use Rattle.model.specs.declared.SweepAnswer.TheVariants as SweepAnswer
use Rattle.model.specs.declared.Swept.{Swept}
use Rattle.model.specs.declared.Verdict.{Verdict}
use Rattle.model.specs.declared.Refusal.{Refusal}
use Rattle.model.specs.declared.Worked.{Worked}
use Rattle.model.specs.Work.{BlockAnswer}
use Rattle.model64.specs.declared.Vector.{Vector as Vector64}
use Rattle.model64.specs.declared.Rotation.{Rotation as Rotation64}
use Rattle.model64.specs.declared.Pose.{Pose as Pose64}
use Rattle.model64.specs.declared.Sweep.{Sweep as Sweep64}
use Rattle.model64.specs.declared.SimplexVertex.{SimplexVertex as SimplexVertex64}
use Rattle.model64.specs.declared.Solved.{Solved as Solved64}
use Rattle.model64.specs.declared.Rounds.{Rounds as Rounds64}
use Rattle.model64.specs.declared.WitnessPoints.{WitnessPoints as WitnessPoints64}
use Rattle.model64.specs.declared.ProxyDistanceOutput.{ProxyDistanceOutput as ProxyDistanceOutput64}
use Rattle.model64.specs.declared.Measurement.{Measurement as Measurement64}
use Rattle.model64.specs.declared.Distance.{Distance as Distance64}
use Rattle.model64.specs.declared.SeparationFunction.{SeparationFunction as SeparationFunction64}
use Rattle.model64.specs.declared.MinSeparation.{MinSeparation as MinSeparation64}
use Rattle.model64.specs.declared.Search.{Search as Search64}
use Rattle.model64.specs.declared.SweepTask.{SweepTask as SweepTask64}
use Rattle.model64.specs.declared.Closest.{Closest as Closest64}
use Rattle.model64.specs.declared.RootSearch.{RootSearch as RootSearch64}
use Rattle.model64.specs.declared.Contact.{Contact as Contact64}
use Rattle.model64.specs.declared.SweepAnswer.{SweepAnswer as SweepAnswer64}
use Rattle.model64.specs.declared.SweepAnswer.TheVariants as SweepAnswer64
use Rattle.model64.specs.declared.Swept.{Swept as Swept64}
use Rattle.model64.specs.declared.Verdict.{Verdict as Verdict64}
use Rattle.model64.specs.declared.Worked.{Worked as Worked64}
use Rattle.model64.specs.Work.{BlockAnswer as BlockAnswer64}

abbrev pub vector64 : Vector → Vector64
vector64 v = record { x = v.x; y = v.y }

abbrev pub rotation64 : Rotation → Rotation64
rotation64 q = record { c = q.c; s = q.s }

abbrev pub pose64 : Pose → Pose64
pose64 p = record { rotation = rotation64 p.rotation; translation = vector64 p.translation }

abbrev pub sweep64 : Sweep → Sweep64
sweep64 w =
    record { local_center = vector64 w.local_center; c1 = vector64 w.c1; c2 = vector64 w.c2; q1 = rotation64 w.q1; q2 = rotation64 w.q2 }

abbrev pub checked_pose64 : Result Pose Refusal → Result Pose64 Refusal
checked_pose64 (Ok p) = Ok (pose64 p)
checked_pose64 (Err r) = Err r

abbrev pub vertex64 : SimplexVertex → SimplexVertex64
vertex64 v =
    record { wa = vector64 v.wa; wb = vector64 v.wb; w = vector64 v.w; a = v.a; index_a = v.index_a; index_b = v.index_b }

abbrev pub simplex64 : List SimplexVertex → List SimplexVertex64
simplex64 s = map vertex64 s

abbrev pub solved64 : Solved → Solved64
solved64 r = record { simplex = simplex64 r.simplex; count = r.count; direction = vector64 r.direction }

abbrev pub rounds64 : Rounds → Rounds64
rounds64 r =
    record { ending = r.ending; simplex = simplex64 r.simplex; count = r.count; direction = vector64 r.direction; iterations = r.iterations }

abbrev pub witness_points64 : WitnessPoints → WitnessPoints64
witness_points64 w = record { a = vector64 w.a; b = vector64 w.b }

abbrev pub output64 : ProxyDistanceOutput → ProxyDistanceOutput64
output64 o = record {
  point_a = vector64 o.point_a;
  point_b = vector64 o.point_b;
  normal = vector64 o.normal;
  distance = o.distance;
  iterations = o.iterations;
  ending = o.ending;
}

abbrev pub measurement64 : Measurement → Measurement64
measurement64 m = record { output = output64 m.output; cache = m.cache }

abbrev pub answer64 : Result ProxyDistanceOutput Refusal → Result ProxyDistanceOutput64 Refusal
answer64 (Ok o) = Ok (output64 o)
answer64 (Err r) = Err r

abbrev pub distance64 : Distance → Distance64
distance64 d = record { answer = answer64 d.answer; cache = d.cache }

abbrev pub function64 : SeparationFunction → SeparationFunction64
function64 g = record {
  sweep_a = sweep64 g.sweep_a;
  sweep_b = sweep64 g.sweep_b;
  local_point = vector64 g.local_point;
  axis = vector64 g.axis;
  ty = g.ty;
}

abbrev pub min_separation64 : MinSeparation → MinSeparation64
min_separation64 m = record { separation = m.separation; index_a = m.index_a; index_b = m.index_b }

abbrev pub search64 : Search → Search64
search64 x = record { least = min_separation64 x.least; corners = x.corners }

abbrev pub task64 : SweepTask → SweepTask64
task64 w = record {
  sweep_a = sweep64 w.sweep_a;
  sweep_b = sweep64 w.sweep_b;
  origin = vector64 w.origin;
  radius_a = w.radius_a;
  radius_b = w.radius_b;
  t_max = w.t_max;
  target = w.target;
  tolerance = w.tolerance;
}

abbrev pub closest64 : Closest → Closest64
closest64 x = record { distance = x.distance; point = vector64 x.point; normal = vector64 x.normal; cache = x.cache }

abbrev pub root_search64 : RootSearch → RootSearch64
root_search64 r = record { t = r.t; steps = r.steps }

abbrev pub contact64 : Contact → Contact64
contact64 x = record { fraction = x.fraction; point = vector64 x.point; normal = vector64 x.normal }

abbrev pub sweep_answer64 : SweepAnswer → SweepAnswer64
sweep_answer64 (SweepAnswer.Overlapped n) = SweepAnswer64.Overlapped n
sweep_answer64 (SweepAnswer.Hit x n) = SweepAnswer64.Hit (contact64 x) n
sweep_answer64 (SweepAnswer.Separated x n) = SweepAnswer64.Separated (contact64 x) n
sweep_answer64 (SweepAnswer.Failed x n) = SweepAnswer64.Failed (contact64 x) n
sweep_answer64 (SweepAnswer.Refused n) = SweepAnswer64.Refused n

abbrev pub swept64 : Swept → Swept64
swept64 x = record { answer = sweep_answer64 x.answer; corners = x.corners }

abbrev pub verdict64 : Verdict → Verdict64
verdict64 v = record { status = v.status; contact = contact64 v.contact; counts = v.counts; corners = v.corners }

abbrev pub outcome64 : Result Verdict Refusal → Result Verdict64 Refusal
outcome64 (Ok v) = Ok (verdict64 v)
outcome64 (Err r) = Err r

abbrev pub worked64 : Worked → Worked64
worked64 w = record { job = w.job; verdict = verdict64 w.verdict }

abbrev pub block_answer64 : BlockAnswer → BlockAnswer64
block_answer64 (Ok w) = Ok (worked64 w)
block_answer64 (Err r) = Err r
