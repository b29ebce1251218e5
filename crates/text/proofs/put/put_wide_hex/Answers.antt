-- `text::put::put_wide_hex` meets its contract: nothing where there is no room, else the digits of the upper half, those of the lower, and their end.
-- Assumes nothing.
use mathlib.Core.Path.{◌≡◌, sym, ◌∙◌}
use Prim.Native.Nat.{◌+◌, ◌≤◌}
use native.Mathlib.Omega.{arith}
use lib.ListN.{length, take}
use lib.Seq.{length-take-le}
use borrow.Author.Tests.{ltb-false}
use Rattle.text.proofs.Pasted.{put-nothing, put_then}
use Rattle.text.proofs.Digits.{halves}
use borrow.Author.Rules.{rules}
use Rattle.text.proofs.put.put_wide_hex.Goals as goal

pub returns-then-lacks : goal.returns-then-lacks
returns-then-lacks c = simp (← c.lacks.ensures, c.if-lacks.true) (put-nothing _ _)

pub slice_bounds-copy-end : goal.slice_bounds-copy-end
slice_bounds-copy-end c = sym (length-take-le 8 c.hex_digits-upper.result (search rules))

pub copy-half-requires : goal.copy-half-requires
copy-half-requires c =
    let eight : length (take 8 c.hex_digits-upper.result) ≡ 8 = length-take-le 8 c.hex_digits-upper.result (search rules) in
    let room : c.args.at + 17 ≤ length c.args.out.now = ltb-false _ _ (sym c.lacks.ensures ∙ c.if-lacks.false) in
    omega arith

pub copy-requires : goal.copy-requires
copy-requires c =
    let eight : length (take 8 c.hex_digits-upper.result) ≡ 8 = length-take-le 8 c.hex_digits-upper.result (search rules) in
    let room : c.args.at + 17 ≤ length c.args.out.now = ltb-false _ _ (sym c.lacks.ensures ∙ c.if-lacks.false) in
    let e = c.copy-half.ensures.place in
    let k = c.copy-half.auto.out in
    search rules

pub returns : goal.returns
returns c =
    let room : c.args.at + 17 ≤ length c.args.out.now = ltb-false _ _ (sym c.lacks.ensures ∙ c.if-lacks.false) in
    simp (
      ← c.lacks.ensures,
      c.if-lacks.false,
      halves c.args.n c.args.end,
      ← c.hex_digits-lower.ensures,
      ← c.hex_digits-upper.ensures,
    )
    (put_then (omega arith) c.copy-half.ensures c.copy.ensures)
