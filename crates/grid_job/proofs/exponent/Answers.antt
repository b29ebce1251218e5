-- `grid_job::exponent` meets its contract. Assumes nothing.
use mathlib.Core.Path.{sym, subst}
use native.Mathlib.Omega.{arith}
use lib.ListN.{length}
use Rattle.std.proofs.Common.{ℕ, ◌≤◌, ◌-◌, ◌/◌, Option, Some, None, MatchOption}
use Rattle.std.specs.Option.{SomeIff}
use Rattle.grid_job.specs.Placing.{Suits}
use Rattle.grid_job.proofs.Laws.{all_near}
use Rattle.grid_job.proofs.exponent.Goals as goal

chosen : (o : Option ℕ) (P N : Type 0) (v : ℕ) (S : ℕ → Type 0) → ((P → ⊥) → N) → (P → S v) → SomeIff o P v → MatchOption o N S
chosen None P N v S f g h = f h
chosen (Some x) P N v S f g h = subst S (sym h.1) (g h.0)

pub returns : goal.returns
returns c =
    let f = c.args in
    let a = c.largest-a in
    let b = c.largest-b in
    let d = c.largest-c in
    let e = c.largest-d in
    let g = c.largest-e in
    chosen c.checked_sub.result _ _ _ _
    (λ over o.
    let la = a.ensures.2 1233125376 (omega arith) o.a in
    let lb = b.ensures.2 1233125376 la o.b in
    let ld = d.ensures.2 1233125376 lb o.radii in
    let le = e.ensures.2 1233125376 ld o.move_a in
    let lg = g.ensures.2 1233125376 le o.move_b in
    over (omega (arith, lg)))
    (λ within.
    let some = all_near f.numbers.now 3 10 e.result g.result e.ensures.1 g.ensures.0 within in
    record {
      a = all_near f.points_a.now 0 (length f.points_a.now) a.result g.result a.ensures.1 (omega (
        arith,
        b.ensures.0,
        d.ensures.0,
        e.ensures.0,
        g.ensures.0,
      )) within;
      b = all_near f.points_b.now 0 (length f.points_b.now) b.result g.result b.ensures.1 (omega (
        arith,
        d.ensures.0,
        e.ensures.0,
        g.ensures.0,
      )) within;
      radii = all_near f.numbers.now 0 2 d.result g.result d.ensures.1 (omega (arith, e.ensures.0, g.ensures.0)) within;
      slop = λ k l m. some k l (omega arith);
      move_a = λ k l m. some k (omega arith) m;
      move_b = all_near f.numbers.now 14 20 g.result g.result g.ensures.1 (omega arith) within;
    })
    c.checked_sub.ensures
