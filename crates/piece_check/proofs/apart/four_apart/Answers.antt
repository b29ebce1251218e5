-- `apart::four_apart` meets its contract: each of the four forms says its part. Assumes nothing.
use Rattle.piece_check.proofs.Forms.{away-law}
use Rattle.piece_check.proofs.apart.four_apart.Goals as goal
use Rattle.piece_check.proofs.apart.four_apart.Goals.{then-form_apart, else-form_apart, then-form_apart-2, else-form_apart-2}

pub returns-then-form_apart-3 : goal.returns-then-form_apart-3
returns-then-form_apart-3 c =
    let a = c.args in
    elim c.if-form_apart-2.branch [
      | then-form_apart-2 v ↦ elim c.if-form_apart.branch [
        | then-form_apart w ↦ λ h. away-law a.n0 a.n1 a.a a.b a.d0 a.d2 a.k a.on.a.xs.now a.on.a.ys.now a.on.b.xs.now a.on.b.ys.now
            (c.form_apart.ensures w.if-form_apart.true)
            (w.form_apart-then-form_apart.ensures cc)
            (v.form_apart-then-form_apart-2.ensures cc)
            (c.form_apart-then-form_apart-3.ensures h)
        | else-form_apart w ↦ λ h. absurd cc
      ]
      | else-form_apart-2 v ↦ λ h. absurd cc
    ]
