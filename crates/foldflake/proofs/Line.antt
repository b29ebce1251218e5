-- The line of one block, told as what stands at the start of the lent bytes. Assumes nothing.
use mathlib.Core.Path.{◌≡◌, refl}
use mathlib.Core.Bool.{true, false, ◌||◌}
use mathlib.Core.List.{List, [], ◌++◌}
use Prim.Native.Nat.{ℕ}
use native.Mathlib.Omega.{arith}
use native.Mathlib.Nat.{zero-add}
use borrow.Author.Tests.{eq-eqb, ne_eqb}
use lib.Dec.{eqb, ltb}
use lib.ListN.{length, drop}
use lib.Ieee.{binary32}
use Rattle.model.specs.Work.{block_answer}
use Rattle.text.specs.Put.{pasted, Put}
use Rattle.model.specs.Parts.{count_limit}
use Rattle.sheet_lines.specs.Part.{line_for}
use Rattle.foldflake.specs.Entry.{line_to, LineTold}

at-start : {d s d' : List ℕ} {e : ℕ} → Put d 0 s d' e → (e ≡ length s) × (d' ≡ s ++ drop (length s) d)
unfolding pasted
at-start {d} {s} {d'} {e} p = (omega (arith, p.place), rw (zero-add (length s)) at p.bytes)

module _ (n : ℕ) (block out : List ℕ) where
  no_line : line_to n block out ≡ [] → LineTold n block out out 0
  no_line e = record { size = rw e refl; bytes = rw e refl }

  pub not-a-block : (length block ≡ 512 → ⊥) → LineTold n block out out 0
  not-a-block h = no_line (simp (ne_eqb (length block) 512 h))

  pub not-a-number : length block ≡ 512 → (eqb n 0 || ltb count_limit n) ≡ true → LineTold n block out out 0
  not-a-number whole e = no_line (simp (eq-eqb (length block) 512 whole, e))

  pub one_line : (out' : List ℕ) (r : ℕ) → length block ≡ 512 → (eqb n 0 || ltb count_limit n) ≡ false →
      Put out 0 (line_for n (block_answer binary32 block) (length out)) out' r → LineTold n block out out' r
  one_line out' r whole good put =
      let is : line_to n block out ≡ line_for n (block_answer binary32 block) (length out) = simp (eq-eqb _ _ whole, good) in
      record { size = rw is (at-start put).0; bytes = rw is (at-start put).1 }
