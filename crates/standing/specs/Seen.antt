-- What the check of a piece finds: of a proposal, of each body over the piece, of all corners.
use Rattle.std.specs.Prelude.{◌≡◌, ◌⊎◌, List, ℕ, ◌+◌, ◌*◌, ◌≤◌, ◌<◌}
use Rattle.integers.specs.Signed.{of_nat, ◌⊠◌, ◌≼◌}
use Rattle.plane.specs.Plane.{dot}
use Rattle.board.specs.declared.Vector.{Vector}
use Rattle.board.specs.Pairs.{point_of, Sized}
use Rattle.board.specs.declared.GridBody.{GridBody}
use Rattle.board.specs.declared.GridJob.{GridJob}
use Rattle.board.specs.declared.Proposal.{Proposal}
use Rattle.board.specs.declared.Arc.{Arc}
use Rattle.standing.specs.Form.{ArcSmall, AllAway}
use Rattle.standing.specs.Window.{Steady}
use Rattle.standing.specs.Cut.{MidVector, IsArc}

-- ---- a proposal
pub record LengthsFit (p : Proposal) : Type 0 where
  pub a0 : p.a0 ≤ 4294967296
  pub a1 : p.a1 ≤ 4294967296
  pub b0 : p.b0 ≤ 4294967296
  pub b1 : p.b1 ≤ 4294967296

-- an axis of length at most 2^28
pub record AxisFits (n : Vector) : Type 0 where
  pub small : Sized 268435456 n
  pub short : dot (point_of n) (point_of n) ≼ of_nat 268435456 ⊠ of_nat 268435456

-- ---- one body
pub record BodyReady (o : GridBody) (l0 l1 k0 k1 : ℕ) : Type 0 where
  pub first : Sized 1073741824 o.q1
  pub last : Sized 1073741824 o.q2
  pub l0-small : l0 ≤ 4294967296
  pub l1-small : l1 ≤ 4294967296
  pub k0-small : k0 ≤ 16777216
  pub k1-small : k1 ≤ 16777216

-- r is its turn from k0 / 2^24 of the way to k1 / 2^24 of it
pub record ArcAt (o : GridBody) (l0 l1 k0 k1 : ℕ) (r : Arc) : Type 0 where
  pub start : Vector
  pub end : Vector
  pub at-start : MidVector k0 o.q1 o.q2 start
  pub at-end : MidVector k1 o.q1 o.q2 end
  pub is : IsArc l0 l1 start end r

-- what a turn's parts are off by, in 2^30-ths: a heading is off by 2, lengthened by l / 2^26, and a half of 1 is what its own rounding takes
pub record Blurred (l0 l1 r : ℕ) : Type 0 where
  pub first : l0 + 33554432 ≤ 33554432 * r
  pub last : l1 + 33554432 ≤ 33554432 * r
  pub few : r ≤ 130

-- r is at least 5 / 8 of R (y + 1) / 2^30
pub record Reach (R y r : ℕ) : Type 0 where
  pub enough : 5 * (of_nat R ⊠ of_nat (y + 1)).plus ≤ 8589934592 * r + 5 * (of_nat R ⊠ of_nat (y + 1)).minus
  pub small : r ≤ 268435456

-- It turns: its squared length is off by at most y, and neither the window nor the blur moves a corner by more than E.
pub record Turning (a : Arc) (l0 l1 R E : ℕ) : Type 0 where
  pub y : ℕ
  pub r : ℕ
  pub some0 : 0 < l0
  pub some1 : 0 < l1
  pub steady : Steady a y
  pub tame : y < 134216000
  pub blurred : Blurred l0 l1 r
  pub reach : Reach (R + 3) (y + 10 * r) E

-- It counts as a disc.
pub record Still (l0 l1 R E : ℕ) : Type 0 where
  pub none0 : l0 ≡ 0
  pub none1 : l1 ≡ 0
  pub reach : R + 4 ≤ E

pub record Seen (a : Arc) (l0 l1 R E : ℕ) : Type 0 where
  pub arc : ArcSmall a
  pub small : E ≤ 805306372
  pub kind : Turning a l0 l1 R E ⊎ Still l0 l1 R E

-- ---- the whole check: every corner of b stays beyond every corner of a by the distance to keep, the margins, and 28 for all other roundings
pub record PieceSeen (job : GridJob) (k0 k1 : ℕ) (p : Proposal) (axs ays bxs bys : List ℕ) : Type 0 where
  pub order : k0 < k1
  pub ends : k1 ≤ 16777216
  pub lengths : LengthsFit p
  pub axis0 : AxisFits p.n0
  pub axis1 : AxisFits p.n1
  pub arc_a : Arc
  pub arc_b : Arc
  pub is_a : ArcAt job.a p.a0 p.a1 k0 k1 arc_a
  pub is_b : ArcAt job.b p.b0 p.b1 k0 k1 arc_b
  pub ea : ℕ
  pub eb : ℕ
  pub seen_a : Seen arc_a p.a0 p.a1 job.a.reach ea
  pub seen_b : Seen arc_b p.b0 p.b1 job.b.reach eb
  pub start : Vector
  pub end : Vector
  pub at-start : MidVector k0 job.d1 job.d2 start
  pub at-end : MidVector k1 job.d1 job.d2 end
  pub far : AllAway p.n0 p.n1 arc_a arc_b start end (268435456 * (job.up + ea + eb + 28)) axs ays bxs bys
