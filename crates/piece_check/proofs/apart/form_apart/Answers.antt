-- `apart::form_apart` meets its contract. Assumes nothing.
use Rattle.piece_check.proofs.Forms.{form-law}
use Rattle.piece_check.proofs.apart.form_apart.Goals as goal

pub returns : goal.returns
returns c = λ h.
    let a = c.args in
    form-law a.m a.n a.a0 a.a1 a.b0 a.b1 a.d0 a.d1 a.k c.lean-wa.result
    c.lean-wb.result c.across-c.result 864691128455135232 a.on.a.xs.now a.on.a.ys.now a.on.b.xs.now a.on.b.ys.now
    c.lean-wa.ensures c.lean-wb.ensures c.across-c.ensures c.requires.corners-a
    c.requires.corners-b (c.beyond.ensures h)
