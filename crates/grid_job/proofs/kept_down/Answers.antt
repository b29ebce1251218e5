-- `grid_job::kept_down` meets its contract. Assumes nothing.
use native.Mathlib.Omega.{arith}
use mathlib.Core.Path.{ap, ◌∙◌}
use lib.Ieee.{binary32, to_bits}
use Rattle.model.specs.declared.Vector.{Vector}
use Rattle.grid_job.proofs.Laws.{keep-down-law}
use borrow.Author.Rules.{rules}
use Rattle.grid_job.proofs.kept_down.Goals as goal

pub returns : goal.returns
returns c = let f = c.args in
    let p = c.point-radii.ensures in
    let q = c.point-limits.ensures in
    keep-down-law f.numbers.now f.g c.keep_down.result c.to_bits.result c.to_bits-2.result
    c.to_bits-3.result
    (c.to_bits.ensures ∙ ap (λ (v : Vector). to_bits binary32 v.y) q) (c.to_bits-2.ensures ∙ ap (λ (v :
    Vector). to_bits binary32 v.x) p) (c.to_bits-3.ensures ∙ ap (λ (v : Vector). to_bits binary32 v.y) p)
    c.requires.0 c.requires.1
    c.keep_down.ensures.1
