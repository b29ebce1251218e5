-- `grid_job::turned` meets its contract. Assumes nothing.
use native.Mathlib.Omega.{arith}
use Rattle.grid.specs.Grid.{int_of}
use Rattle.grid_job.proofs.Laws.{turned-law, turned-small}
use borrow.Author.Rules.{rules}
use Rattle.grid_job.proofs.turned.Goals as goal

pub returns-then-b-gt1065353216 : goal.returns-then-b-gt1065353216
returns-then-b-gt1065353216 c = record { near = λ h. absurd (omega arith); small = λ h. absurd (omega (arith, c.to_bits-b.ensures)) }

pub returns : goal.returns
returns c = let b = c.to_bits-b in
    record {
      near = λ h. turned-law c.args.x b.result (int_of c.grid-a.result) b.ensures (omega arith) c.grid-a.ensures;
      small = λ h. turned-small b.result (int_of c.grid-a.result) (omega arith) c.grid-a.ensures;
    }
