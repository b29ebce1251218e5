-- The join: where a job on the grid stands for two bodies on their way, a piece that the check has seen is settled, so that at each of its moments they are
-- away from each other. Assumes nothing.
use mathlib.Core.Path.{◌≡◌, refl}
use mathlib.Core.List.{List}
use Prim.Native.Nat.{ℕ, ◌+◌, ◌*◌, ◌≤◌, ◌<◌}
use native.Mathlib.Nat.{mul-le-mul}
use native.Mathlib.Omega.{arith}
use lib.ListN.{length}
use Rattle.integers.specs.Signed.{Int, 0Int, of_nat, ◌⊞◌, ◌⊟◌, ◌⊠◌, ◌≼◌, ◌≺◌, ◌≃◌}
use Rattle.integers.specs.Whole.{Within}
use Rattle.integers.proofs.Signed.{⊠-zero, ⊠-cong-r}
use Rattle.plane.specs.Plane.{Point, scaled, sum}
use Rattle.whole_move.specs.Blend.{twice}
use Rattle.whole_move.specs.Piece.{Controls, Body, control, Away, Near, Checked}
use Rattle.whole_way.specs.Mover.{Mover, Piece, piece_from, on_piece, share, AwayBetween, Settled, resized}
use Rattle.whole_way.proofs.Join.{settled-between}
use Rattle.whole_way.proofs.Resized.{between-resized}
use Rattle.board.specs.Pairs.{int_of, point_of}
use Rattle.board.specs.declared.GridJob.{GridJob}
use Rattle.board.specs.declared.Proposal.{Proposal}
use Rattle.board.specs.Board.{Fits, StandsFor, ClearBetween}
use Rattle.standing.specs.Form.{grid_body, origin}
use Rattle.standing.specs.Seen.{PieceSeen}
use Rattle.standing.proofs.Numbers.{turn_length, window_width, margin}
use Rattle.standing.proofs.Numbers as numbers
use Rattle.standing.proofs.Bodies.{enlarged_body, planned, shown, Shows, shows}
use Rattle.standing.proofs.Centres.{placed, Same, away-carried, step, same-controls, centre_off, off-near, end-part, middle-part}

module _ (job : GridJob) (k0 k1 : ℕ) (p : Proposal) (axs ays bxs bys : List ℕ) (fits : Fits job axs ays bxs bys) (seen : PieceSeen job k0 k1 p axs ays bxs
    bys)
    (U G : ℕ) (a b : Mover) (keep : ℕ) (stands : StandsFor U G job axs ays bxs bys a b keep) where
  start : k0 ≤ 16777216
  start = omega (arith, seen.order, seen.ends)

  abbrev some : 0 < U
  some = stands.some_unit

  abbrev piece : Piece
  piece = piece_from 16777216 k0 k1 (omega arith) start seen.ends

  abbrev on_a : (s t : ℕ) → Body
  on_a s t = on_piece piece (67108864 * U) s t (resized G a)

  abbrev on_b : (s t : ℕ) → Body
  on_b s t = on_piece piece (67108864 * U) s t (resized G b)

  -- A's centre as it is, and B's as the grid has it from there
  abbrev centre_a : Controls
  centre_a = (on_a 1 1).centre

  abbrev grid_centre : Controls
  grid_centre = (grid_body (point_of seen.start) (point_of seen.end) seen.arc_b bxs bys).centre

  abbrev centre_b : Controls
  centre_b = placed (step U) centre_a grid_centre

  itself : (x : Int) → Within (2 * 0) (x ⊟ x)
  itself x = record { upper = omega arith; lower = omega arith }

  near_a : Near (2 * 0) centre_a centre_a
  near_a = record {
    x0 = itself centre_a.p0.x;
    y0 = itself centre_a.p0.y;
    x1 = itself centre_a.p1.x;
    y1 = itself centre_a.p1.y;
    x2 = itself centre_a.p2.x;
    y2 = itself centre_a.p2.y;
  }

  near_b : Near (2 * centre_off U) (on_b 1 1).centre centre_b
  near_b =
      let s = seen.start in
      let e = seen.end in
      let x0 = off-near U G k0 start b.centre1.x b.centre2.x a.centre1.x a.centre2.x job.d1.x job.d2.x s.x stands.centre1.x
      stands.centre2.x seen.at-start.x in
      let y0 = off-near U G k0 start b.centre1.y b.centre2.y a.centre1.y a.centre2.y job.d1.y job.d2.y s.y stands.centre1.y
      stands.centre2.y seen.at-start.y in
      let x1 = off-near U G k1 seen.ends b.centre1.x b.centre2.x a.centre1.x a.centre2.x job.d1.x job.d2.x e.x
      stands.centre1.x stands.centre2.x seen.at-end.x in
      let y1 = off-near U G k1 seen.ends b.centre1.y b.centre2.y a.centre1.y a.centre2.y job.d1.y job.d2.y e.y
      stands.centre1.y stands.centre2.y seen.at-end.y in
      record {
        x0 = end-part U G k0 b.centre1.x b.centre2.x a.centre1.x a.centre2.x (int_of s.x) x0;
        y0 = end-part U G k0 b.centre1.y b.centre2.y a.centre1.y a.centre2.y (int_of s.y) y0;
        x1 = middle-part U G k0 k1 b.centre1.x b.centre2.x a.centre1.x a.centre2.x (int_of s.x) (int_of e.x) x0 x1;
        y1 = middle-part U G k0 k1 b.centre1.y b.centre2.y a.centre1.y a.centre2.y (int_of s.y) (int_of e.y) y0 y1;
        x2 = end-part U G k1 b.centre1.x b.centre2.x a.centre1.x a.centre2.x (int_of e.x) x1;
        y2 = end-part U G k1 b.centre1.y b.centre2.y a.centre1.y a.centre2.y (int_of e.y) y1;
      }

  -- ---- each body as the check is shown it
  none_off : 0 ≤ 1125899906842624 * (U * U * 0)
  none_off = omega arith

  body_a : Shows U G some k0 k1 start seen.ends job.a axs ays a stands.body_a fits.body_a.inside centre_a 0 0 none_off seen.arc_a p.a0 p.a1
      near_a seen.is_a seen.seen_a.arc seen.ea
  body_a = shows U G some k0 k1 start seen.ends job.a axs ays a stands.body_a fits.body_a.inside centre_a 0 0 none_off seen.arc_a p.a0 p.a1
      near_a seen.is_a seen.seen_a.arc seen.ea
      fits.body_a.near seen.seen_a.kind

  some_off : centre_off U ≤ 1125899906842624 * (U * U * 3)
  some_off = omega arith

  body_b : Shows U G some k0 k1 start seen.ends job.b bxs bys b stands.body_b fits.body_b.inside centre_b (centre_off U) 3 some_off seen.arc_b
      p.b0 p.b1 near_b seen.is_b seen.seen_b.arc seen.eb
  body_b = shows U G some k0 k1 start seen.ends job.b bxs bys b stands.body_b fits.body_b.inside centre_b (centre_off U) 3 some_off seen.arc_b
      p.b0 p.b1 near_b seen.is_b seen.seen_b.arc seen.eb
      fits.body_b.near seen.seen_b.kind

  -- ---- corners
  origin-adds : (x k : Int) → x ≃ x ⊞ step U ⊠ (k ⊠ 0Int)
  origin-adds x k = omega (arith, ⊠-cong-r (step U) (k ⊠ 0Int) 0Int (⊠-zero k), ⊠-zero (step U))

  same_a : Same centre_a (placed (step U) centre_a (grid_body origin origin seen.arc_a axs ays).centre)
  same_a = record {
    x0 = origin-adds centre_a.p0.x (of_nat 2147483648);
    y0 = origin-adds centre_a.p0.y (of_nat 2147483648);
    x1 = origin-adds centre_a.p1.x (of_nat 1073741824);
    y1 = origin-adds centre_a.p1.y (of_nat 1073741824);
    x2 = origin-adds centre_a.p2.x (of_nat 2147483648);
    y2 = origin-adds centre_a.p2.y (of_nat 2147483648);
  }

  same_b : Same centre_b (placed (step U) centre_a grid_centre)
  same_b = record { x0 = refl; y0 = refl; x1 = refl; y1 = refl; x2 = refl; y2 = refl }

  some_step : 0Int ≺ step U
  some_step = omega (arith, numbers.some_square U some)

  far : (i j : ℕ) → i < a.count → j < b.count
      → Away (point_of p.n0) (point_of p.n1) (of_nat 268435456 ⊠ (of_nat (margin U job.up) ⊞ of_nat (margin U (seen.ea + 7 + 2 * 0)) ⊞ of_nat (margin U
      (seen.eb + 7 + 2 * 3))))
      (control (enlarged_body U centre_a seen.arc_a axs ays) i) (control (enlarged_body U centre_b seen.arc_b bxs bys) j)
  far i j h l = away-carried (point_of p.n0) (point_of p.n1)
      (record { plus = 2147483648 * (268435456 * (job.up + seen.ea + seen.eb + 28)); minus = 4611686018427387904 })
      (of_nat 268435456 ⊠ (of_nat (margin U job.up) ⊞ of_nat (margin U (seen.ea + 7 + 2 * 0)) ⊞ of_nat (margin U (seen.eb + 7 + 2 * 3))))
      (step U) centre_a (control (grid_body origin origin seen.arc_a axs ays) i) (control (grid_body (point_of seen.start) (point_of seen.end)
      seen.arc_b bxs bys) j)
      (control (enlarged_body U centre_a seen.arc_a axs ays) i) (control (enlarged_body U centre_b seen.arc_b bxs bys) j)
      some_step (numbers.away-law U some job.up seen.ea seen.eb)
      (same-controls U centre_a centre_a origin origin seen.arc_a axs ays same_a i)
      (same-controls U centre_a centre_b (point_of seen.start) (point_of seen.end) seen.arc_b bxs bys same_b j)
      (seen.far i j (omega (arith, stands.body_a.count)) (omega (arith, stands.body_b.count)))

  -- ---- the piece
  settled : Settled 1073741824 (G * keep) (resized G a) (resized G b) piece
  settled = record {
    f = 67108864 * U;
    F = turn_length U;
    slack = window_width U;
    room = margin U job.up;
    sa = body_a.s0;
    ta = body_a.s1;
    sb = body_b.s0;
    tb = body_b.s1;
    some = (omega arith, body_a.some0, body_a.some1, body_b.some0, body_b.some1);
    F-is = numbers.length-law U some;
    wide = numbers.wide-law U some;
    enough = numbers.keep-law U some (G * keep) job.up stands.up;
    checked = record {
      n0 = point_of p.n0;
      n1 = point_of p.n1;
      N = 268435456;
      margin_a = margin U (seen.ea + 7 + 2 * 0);
      margin_b = margin U (seen.eb + 7 + 2 * 3);
      shown_a = control (enlarged_body U centre_a seen.arc_a axs ays);
      shown_b = control (enlarged_body U centre_b seen.arc_b bxs bys);
      length0 = seen.axis0.short;
      length1 = seen.axis1.short;
      body_a = body_a.as-shown;
      body_b = body_b.as-shown;
      away = far;
    };
  }

-- the theorem
pub seen-is-clear : (job : GridJob) (k0 k1 : ℕ) (p : Proposal) (axs ays bxs bys : List ℕ) → Fits job axs ays bxs bys → PieceSeen job k0 k1 p axs ays bxs
    bys → ClearBetween job k0 k1 axs ays bxs bys
seen-is-clear job k0 k1 p axs ays bxs bys fits seen unit finer a b keep stands =
    between-resized 1073741824 keep finer a b (share 16777216 k0) (share 16777216 k1) stands.some_finer
    (settled-between 1073741824 (finer * keep) (resized finer a) (resized finer b) (omega arith) 16777216 k0 k1 (omega arith)
    (start job k0 k1 p axs ays bxs bys fits seen unit finer a b keep stands) seen.ends seen.order (settled job k0 k1 p axs ays bxs bys fits seen unit
    finer a b keep stands))
