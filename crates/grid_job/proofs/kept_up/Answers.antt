-- `grid_job::kept_up` meets its contract. Assumes nothing.
use native.Mathlib.Omega.{arith}
use mathlib.Core.Path.{ap, ◌∙◌}
use lib.Ieee.{binary32, to_bits}
use Rattle.model.specs.declared.Vector.{Vector}
use Rattle.grid_job.proofs.Laws.{keep-up-law, keep-up-small}
use borrow.Author.Rules.{rules}
use Rattle.grid_job.proofs.kept_up.Goals as goal

pub returns : goal.returns
returns c = let f = c.args in
    let p = c.point-radii.ensures in
    let q = c.point-limits.ensures in
    let k = c.keep_up.result in
    let s = c.to_bits in
    let x = c.to_bits-2 in
    let y = c.to_bits-3 in
    let es = s.ensures ∙ ap (λ (v : Vector). to_bits binary32 v.y) q in
    let ex = x.ensures ∙ ap (λ (v : Vector). to_bits binary32 v.x) p in
    let ey = y.ensures ∙ ap (λ (v : Vector). to_bits binary32 v.y) p in
    let h = c.requires in (
      keep-up-law f.numbers.now f.g k s.result x.result y.result es ex ey h.0 h.1 c.keep_up.ensures.1,
      keep-up-small f.numbers.now f.g k s.result x.result y.result es ex ey h.0 h.1 c.keep_up.ensures.1,
    )
