-- `any_contact_search::write_found` meets its contract: nothing where there is no room, else `none` or the number. Assumes nothing.
use Prim.Native.Nat.{◌≤◌}
use borrow.Author.Rules.{rules}
use borrow.Author.Tests.{lt-ltb, le-ltb, eq-eqb, ne_eqb}
use native.Mathlib.Omega.{arith}
use lib.ListN.{length}
use Rattle.text.proofs.Pasted.{put-nothing}
use Rattle.any_contact_search.proofs.write_found.Goals as goal

pub returns-then-out-lt-LONGEST_TEXT : goal.returns-then-out-lt-LONGEST_TEXT
returns-then-out-lt-LONGEST_TEXT c = simp (lt-ltb _ _ c.if-out-lt-LONGEST_TEXT.true) (put-nothing _ _)

pub returns-then-found-eq0 : goal.returns-then-found-eq0
returns-then-found-eq0 c = let room : 21 ≤ length c.args.out.now = c.if-out-lt-LONGEST_TEXT.false in
    let enough : 5 ≤ length c.args.out.now = omega arith in
    simp (le-ltb _ _ room, eq-eqb _ _ c.if-found-eq0.true)
    (rw (le-ltb _ _ enough) at c.put_text.ensures)

pub returns : goal.returns
returns c = let room : 21 ≤ length c.args.out.now = c.if-out-lt-LONGEST_TEXT.false in
    simp (le-ltb _ _ room, ne_eqb _ _ c.if-found-eq0.false) (rw (le-ltb _ _ room) at c.put_number.ensures)
