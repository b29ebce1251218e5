-- What the entry points for one moment tell. Assumes nothing.
use mathlib.Core.Path.{◌≡◌, refl}
use mathlib.Core.Bool.{true, false, ◌&&◌}
use mathlib.Core.List.{List}
use Prim.Native.Nat.{ℕ}
use borrow.Author.Tests.{eqb-true}
use lib.Dec.{eqb}
use lib.ListN.{length}
use lib.Ieee.{Float, binary32}
use Rattle.std.proofs.Common.{Result}
use Rattle.model.specs.declared.Sweep.{Sweep}
use Rattle.model.specs.declared.Refusal.{Refusal}
use Rattle.model.specs.declared.Pose.{Pose}
use Rattle.model.proofs.DistanceCall.{both}
use Rattle.model.specs.Work.{move_at}
use Rattle.at_fraction.specs.Moment.{gap_at}
use Rattle.foldflake.specs.Moment.{pose_number, pose_after, pose_fits, pose_call, PoseTold, gap_number, gap_after, gap_fits, gap_call, GapTold}

module _ (ns : List Float) (t : Float) (out : List Float) where
  pub pose-room : pose_fits ns out ≡ true → length out ≡ 4
  pose-room fits = eqb-true _ _ (both (eqb (length ns) 10) (eqb (length out) 4) fits).1

  pub pose-told : (x : Result Pose Refusal) (out' : List Float) (r : ℕ) → pose_fits ns out ≡ true → x ≡ pose_call ns t →
      (r ≡ pose_number x) × (out' ≡ pose_after x out) → PoseTold ns t out out' r
  pose-told x out' r fits is told = record { number = rw (fits, ← is) told.0; posed = rw (fits, ← is) told.1 }

  pub pose-misfit : pose_fits ns out ≡ false → PoseTold ns t out out 255
  pose-misfit fits = record { number = rw fits refl; posed = rw fits refl }

module _ (a na b nb : List Float) (t : Float) (out : List Float) where
  pub gap-room : gap_fits na nb out ≡ true → length out ≡ 1
  gap-room fits = eqb-true _ _ (both (eqb (length na) 10 && eqb (length nb) 10) (eqb (length out) 1) fits).1

  pub gap-told : (wa wb : Sweep) (x : Result Float Refusal) (out' : List Float) (r : ℕ) → gap_fits na nb out ≡ true → wa ≡ move_at na 0 → wb ≡ move_at nb 0 →
      x ≡ gap_at binary32 a wa b wb t → (r ≡ gap_number x) × (out' ≡ gap_after x out) → GapTold a na b nb t out out' r
  gap-told wa wb x out' r fits from-a from-b is told =
      let call : x ≡ gap_call a na b nb t = rw (from-a, from-b) at is in
      record { number = rw (fits, ← call) told.0; apart = rw (fits, ← call) told.1 }

  pub gap-misfit : gap_fits na nb out ≡ false → GapTold a na b nb t out out 255
  gap-misfit fits = record { number = rw fits refl; apart = rw fits refl }
