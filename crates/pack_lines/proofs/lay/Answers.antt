-- `pack_lines::lay` meets its contract: the start of an array of that length, copied. Assumes nothing.
use mathlib.Core.Path.{◌≡◌, sym, ap, ◌∙◌}
use Prim.Native.Nat.{ℕ, ◌≤◌}
use native.Mathlib.Omega.{arith}
use lib.ListN.{length, take}
use lib.Seq.{length-take-le}
use Rattle.text.proofs.Lengths.{roomy}
use Rattle.job_text.proofs.Compared.{put-start}
use Rattle.std.proofs.Math.Nat.{min-le_right}
use Rattle.std.proofs.lemmas.List.{take_min}
use Rattle.pack_lines.proofs.lay.Goals as goal

pub slice_bounds-old-end : goal.slice_bounds-old-end
slice_bounds-old-end c = omega (arith, c.well_formed.0.1.0.1, c.min-n.ensures, min-le_right c.args.size 855)

pub slice_bounds-put_text-end : goal.slice_bounds-put_text-end
slice_bounds-put_text-end c = sym (length-take-le _ _ (omega (arith, c.well_formed.0.1.0.1, c.min-n.ensures, min-le_right c.args.size 855)))

pub returns : goal.returns
returns c = let n = c.min-n in
    let most : n.result ≤ 855 = omega (arith, n.ensures, min-le_right c.args.size 855) in
    let size : length (take n.result c.args.old) ≡ n.result = length-take-le n.result c.args.old (omega (arith, c.well_formed.0.1.0.1, most)) in
    let put = roomy (length (take n.result c.args.old)) c.put_text.ensures (omega (arith, size, most, c.requires)) in (
      put-start put ∙ ap (λ (k : ℕ). take k c.args.old) n.ensures ∙ rw c.well_formed.0.1.0.1 at (take_min c.args.size c.args.old),
      omega (arith, put.place, size, most),
    )
