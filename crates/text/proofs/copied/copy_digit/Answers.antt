-- `text::copied::copy_digit` meets its contract: a number below 10 is one digit, and digit and end are a store each. Assumes nothing.
use Prim.Native.Nat.{◌+◌, ◌<◌}
use native.Mathlib.Omega.{arith}
use mathlib.Core.List.{[], ◌∷◌}
use lib.ListN.{length-set}
use Rattle.text.proofs.Pasted.{put_then, put_byte}
use Rattle.text.proofs.Digits.{one-digit}
use Rattle.text.proofs.copied.copy_digit.Goals as goal

pub bounds-out-last : goal.bounds-out-last
bounds-out-last c = simp length-set (omega arith)

pub returns : goal.returns
returns c = let a = c.args in
    let digit : a.d < 10 = c.requires.1 in
    rw (one-digit a.d digit)
    (put_then {s = (48 + a.d) ∷ []} (omega arith) (put_byte a.out.now a.at (48 + a.d) (omega arith)) (put_byte _ _ _ (simp length-set (omega arith))))
