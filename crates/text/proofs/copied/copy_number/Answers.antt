-- `text::copied::copy_number` meets its contract: one digit by itself; of more the digits of `io` are those of the sheet, and the end is one store more. Assumes nothing.
use Prim.Native.Nat.{◌<◌, ◌≤◌}
use native.Mathlib.Omega.{arith}
use lib.ListN.{length}
use Rattle.text.proofs.Pasted.{put_then, put_byte}
use Rattle.text.proofs.Digits.{fewest-digits, at-most-twenty}
use borrow.Author.Rules.{rules}
use Rattle.text.proofs.copied.copy_number.Goals as goal

pub copy-e-requires : goal.copy-e-requires
copy-e-requires c =
    let few : c.decimal-k.result ≤ 20 = at-most-twenty _ _ c.decimal-k.ensures.len (search rules) in
    omega (arith, c.decimal-k.ensures.in_bounds)

pub bounds-out-e : goal.bounds-out-e
bounds-out-e c =
    let few : c.decimal-k.result ≤ 20 = at-most-twenty _ _ c.decimal-k.ensures.len (search rules) in
    omega (arith, c.copy-e.ensures.place, c.copy-e.auto.out, c.decimal-k.ensures.in_bounds, c.requires)

pub overflow_add-result : goal.overflow_add-result
overflow_add-result c =
    let few : c.decimal-k.result ≤ 20 = at-most-twenty _ _ c.decimal-k.ensures.len (search rules) in
    let inside : c.copy-e.result < length c.copy-e.new.out = omega (arith, c.copy-e.ensures.place, c.copy-e.auto.out, c.decimal-k.ensures.in_bounds, c.requires) in
    search rules

pub returns : goal.returns
returns c =
    let few : c.decimal-k.result ≤ 20 = at-most-twenty _ _ c.decimal-k.ensures.len (search rules) in
    let inside : c.copy-e.result < length c.copy-e.new.out = omega (arith, c.copy-e.ensures.place, c.copy-e.auto.out, c.decimal-k.ensures.in_bounds, c.requires) in
    put_then (search rules)
    (rw (c.decimal-k.ensures.digits, fewest-digits _ _ c.decimal-k.ensures.len few) at c.copy-e.ensures)
    (put_byte _ _ _ inside)
