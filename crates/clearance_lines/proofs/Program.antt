-- Whatever a run by the contract of `write_part` prints of a file are the lines and the totals of one list of answers, one for each block of the file and
-- each true of it. Assumes nothing.
use mathlib.Core.Path.{◌≡◌, refl, sym, ◌∙◌}
use mathlib.Core.Bool.{true, false, true≢false}
use mathlib.Core.List.{List, [], ◌∷◌, ◌++◌, append-nil, append_assoc}
use Prim.Native.Nat.{ℕ, ◌+◌, ◌%◌, ◌≤◌, ◌<◌}
use native.Mathlib.Omega.{arith}
use borrow.Author.Tests.{lt-ltb, le-ltb}
use lib.ListN.{length, take, drop, length-append}
use lib.Seq.{take-append_seam}
use Rattle.model.specs.declared.Totals.{Totals}
use Rattle.model.specs.Blocks.{blocks}
use Rattle.model.specs.Parts.{together, count_limit, part_size}
use Rattle.model.specs.Sheet.{none, total_line}
use Rattle.model.proofs.Blocks.{blocks-in-two-parts, whole-counted}
use Rattle.text.specs.Put.{Put, pasted}
use Rattle.runs.specs.Run.{Cut}
use Rattle.clearance_block.specs.declared.BlockCleared.{BlockCleared}
use Rattle.clearance_block.specs.Answer.{AnswersOf}
use Rattle.clearance_lines.specs.Lines.{lines_from, totals_from}
use Rattle.clearance_lines.specs.Part.{fits, Printed}
use Rattle.clearance_lines.specs.Program.{Step, bytes_of, Ran, ends, goes_on}
use Rattle.clearance_lines.proofs.Folds.{lines-append, totals-append, answers-append, as_many, blocks-counted, totals-add-up}
use Rattle.clearance_lines.proofs.Run.{Counting, fitting}

-- what was put at the start can be taken from there
taken : {d d' s : List ℕ} {e : ℕ} → Put d 0 s d' e → take e d' ≡ s
unfolding pasted
taken {d} {s = s} p = let e : 0 + length s ≡ length s = omega arith in rw (p.bytes, p.place, e) (take-append_seam s (drop (length s) d))

-- ---- a step where there is room for all
module _ {t : Totals} {p : List ℕ} (s : Step t p) (room : fits (length p) part_size t ≡ true) where
  roomy : fits (length p) (length s.lent) t ≡ true
  roomy = rw s.size room

  step-sound : AnswersOf (blocks p) s.worked.came
  step-sound = s.worked.sound roomy

  after : s.written.totals ≡ totals_from t s.worked.came
  after = s.worked.totals ∙ rw roomy

  short-ends : length p < part_size → s.written.last ≡ true
  short-ends h = s.worked.last ∙ rw (roomy, lt-ltb (length p) part_size h)

  full-goes-on : part_size ≤ length p → s.written.last ≡ false
  full-goes-on h = s.worked.last ∙ rw (roomy, le-ltb (length p) part_size h)

  short-bytes : length p < part_size → bytes_of s ≡ lines_from t.blocks s.worked.came ++ total_line (totals_from t s.worked.came)
  short-bytes h = taken s.worked.text ∙ rw (roomy, lt-ltb (length p) part_size h)

  full-bytes : part_size ≤ length p → bytes_of s ≡ lines_from t.blocks s.worked.came
  full-bytes h = taken s.worked.text ∙ rw (roomy, le-ltb (length p) part_size h, append-nil (lines_from t.blocks s.worked.came))

-- ---- the whole run, from given totals on
record PrintedFrom (t : Totals) (b text : List ℕ) : Type 0 where
  pub came : List BlockCleared
  pub sound : AnswersOf (blocks b) came
  pub lines : text ≡ lines_from t.blocks came ++ total_line (totals_from t came)

first_then : (t t₁ : Totals) (xs ys : List BlockCleared) (text bytes rest : List ℕ) → t₁ ≡ totals_from t xs → text ≡ bytes ++ rest
    → bytes ≡ lines_from t.blocks xs → rest ≡ lines_from t₁.blocks ys ++ total_line (totals_from t₁ ys)
    → text ≡ lines_from t.blocks (xs ++ ys) ++ total_line (totals_from t (xs ++ ys))
first_then t t₁ xs ys text bytes rest e whole first later =
    rw (whole, first, later, e, lines-append t.blocks xs ys, totals-append t xs ys, blocks-counted t xs)
    (sym (append_assoc (lines_from t.blocks xs) _ _))

ran-from : (t : Totals) (ps : List (List ℕ)) {text : List ℕ} → Cut {S = Unit {0}} (λ u. part_size) (λ u p. u) tt ps → Counting t (together ps)
    → Ran t ps text → PrintedFrom t (together ps) text
unfolding Cut together
ran-from t [] cut can ran = absurd cut
ran-from t (p ∷ []) cut can (ends s over e) =
    let room = fitting (length p) t (p ++ []) (omega (arith, cut)) can in
    record { came = s.worked.came; sound = rw (append-nil p) (step-sound s room); lines = e ∙ short-bytes s room cut }
ran-from t (p ∷ []) cut can (goes_on s more later e) =
    let room = fitting (length p) t (p ++ []) (omega (arith, cut)) can in
    absurd (true≢false (sym (short-ends s room cut) ∙ more))
ran-from t (p ∷ q ∷ r) cut can (ends s over e) =
    let room = fitting (length p) t (p ++ together (q ∷ r)) (omega (arith, cut.0)) can in
    absurd (true≢false (sym over ∙ full-goes-on s room (omega (arith, cut.0))))
ran-from t (p ∷ q ∷ r) cut can (goes_on s more later e) =
    let rest = together (q ∷ r) in
    let room = fitting (length p) t (p ++ rest) (omega (arith, cut.0)) can in
    let full : length p ≡ part_size = cut.0 in
    let multiple : length p % 512 ≡ 0 = rw full in
    let xs = s.worked.came in
    let on : s.written.totals ≡ totals_from t xs = after s room in
    let number : s.written.totals.blocks ≡ t.blocks + length xs = rw on (blocks-counted t xs) in
    let left : s.written.totals.blocks + length rest < count_limit = omega (
      arith,
      can.left,
      number,
      as_many (blocks p) xs (step-sound s room),
      whole-counted p multiple,
      length-append p rest,
      full,
    ) in
    let v = ran-from s.written.totals (q ∷ r) cut.1 (record { sums = rw on (totals-add-up t xs can.sums); left = left }) later in
    record {
      came = xs ++ v.came;
      sound = rw (blocks-in-two-parts p rest multiple) (answers-append (blocks p) (blocks rest) xs v.came (step-sound s room) v.sound);
      lines = first_then t s.written.totals xs v.came _ _ _ on e (full-bytes s room (omega (arith, full))) v.lines;
    }

-- for every file that a machine can hold, read in parts of 64 KiB with a shorter last one
pub ran-prints : (ps : List (List ℕ)) {text : List ℕ} → Cut {S = Unit {0}} (λ u. part_size) (λ u p. u) tt ps → length (together ps) < count_limit
    → Ran none ps text → Printed (together ps) text
ran-prints ps cut small ran =
    let v = ran-from none ps cut (record { sums = refl; left = omega (arith, small) }) ran in
    record { came = v.came; sound = v.sound; lines = v.lines }
