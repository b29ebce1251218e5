-- A block is refused over its whole move just where the sheet refuses it: the call's refusals from 0 are the sweep's, and a sweep that no check refuses is
-- not refused. So both print the same refused lines, and count as many blocks and refusals. Assumes nothing.
use Rattle.std.proofs.Common.{Result, Ok, Err}
use mathlib.Core.Path.{◌≡◌, refl, sym, ap, ◌∙◌}
use mathlib.Core.Bool.{Bool, true, false, cond}
use mathlib.Core.List.{List, [], ◌∷◌, ◌++◌, map}
use Prim.Native.Nat.{ℕ, zero, suc, ◌+◌, ◌-◌, ◌≤◌, ◌<◌}
use native.Mathlib.Omega.{arith}
use lib.Dec.{eqb}
use lib.Ieee.{Float, binary32, of_bits}
use lib.ListN.{length}
use Rattle.model.specs.declared.Block.{Block}
use Rattle.model.specs.declared.Corners.{Corners}
use Rattle.model.specs.declared.BlockRefusal.{BlockRefusal}
use Rattle.model.specs.declared.SweepAnswer.{SweepAnswer}
use Rattle.model.specs.declared.SweepAnswer.TheVariants as swept
use Rattle.model.specs.declared.Status.{Status}
use Rattle.model.specs.declared.Status.TheVariants.{Overlapped, Hit, Separated, Failed}
use Rattle.model.specs.declared.Totals.{Totals}
use Rattle.model.specs.Ground as Ground
use Rattle.model.specs.Support.{point}
use Rattle.model.specs.Block.{checked_block, refused}
use Rattle.model.specs.Blocks.{blocks}
use Rattle.model.specs.SweepToi.{max_distance_iterations, no_corners, no_counts, sweep_task, sweep_refusal, sweep_by, sweep_time_of_impact}
use Rattle.model.specs.Corners.{sweep}
use Rattle.model.specs.Work.{move_at, sweep_for, numbers_of, points_a, points_b, told_by, told, of_job, answer_by, block_answer, BlockAnswer}
use Rattle.model.specs.Sheet.{answer_of, answers, answer_line, refused_line, none, one_worked}
use Rattle.model.specs.Sheet as Sheet
use Rattle.route_legs.proofs.Answers.{Answered, advance-answers}
use Rattle.clearance_call.specs.declared.Cleared.{Cleared}
use Rattle.clearance_call.specs.declared.Cleared.TheVariants.{Refused, Clear, Touch, Open}
use Rattle.clearance_call.specs.Call.{refusal_of, Told}
use Rattle.clearance_call.proofs.Whole.{as-the-sweep}
use Rattle.clearance_block.specs.declared.BlockCleared.{BlockCleared}
use Rattle.clearance_block.specs.Answer.{refused_block, Looked, AnswerBy, AnswerIf, AnswerOf, AnswersOf}
use Rattle.clearance_lines.specs.Lines.{line_of, counted, totals_from}
use Rattle.clearance_sheet.specs.Alike.{NotRefused, Alike, AllAlike, SameCounts}

-- ---- a block that passed its checks
-- a sweep that has an answer makes a worked line
worked : (a : BlockCleared) (job : ℕ) (k : Corners) (x : SweepAnswer) → a.job ≡ job → NotRefused a.answer → Answered x
    → Alike a (of_job job (told_by binary32 k x))
worked a job k (swept.Overlapped n) e h s = (e, h)
worked a job k (swept.Hit c n) e h s = (e, h)
worked a job k (swept.Separated c n) e h s = (e, h)
worked a job k (swept.Failed c n) e h s = (e, h)
worked a job k (swept.Refused number) e h s = absurd s

module _ (a : BlockCleared) (job : ℕ) (same : a.job ≡ job) where
  refused-so : (n : ℕ) → a.answer ≡ Refused n → a ≡ refused_block job n
  refused-so n e = λ i. record { job = same i; answer = e i }

  module _ (A B N : List Float) (k : Corners) where
    abbrev number : ℕ
    number = refusal_of A B N (Ground.zero binary32)

    abbrev answer_by' : ℕ → SweepAnswer
    answer_by' n =
        sweep_by binary32 A (point N 0).x (move_at N 2) B (point N 0).y (move_at N 7) (point N 1).x (point N 1).y n

    begun : Answered (answer_by' 0)
    begun =
        advance-answers binary32 (sweep_task binary32 (point N 0).x (move_at N 2) (point N 0).y (move_at N 7) (point N 1).x (point N 1).y) A B
        (max_distance_iterations - 1) (Ground.zero binary32) no_corners no_counts

    by_number : (c : Cleared) → a.answer ≡ c → Told A B N (Ground.zero binary32) c → (n : ℕ) → number ≡ n
        → Alike a (of_job job (told_by binary32 k (answer_by' n)))
    by_number (Refused m) e t zero z = absurd (omega (arith, t.0, t.1, z))
    by_number (Refused m) e t (suc n) z = refused-so (suc n) (e ∙ ap Refused (sym t.0 ∙ z))
    by_number (Clear p) e t zero z = worked a job k (answer_by' 0) same (rw e tt) begun
    by_number (Clear p) e t (suc n) z = absurd (omega (arith, t.passed, z))
    by_number (Touch u v p) e t zero z = worked a job k (answer_by' 0) same (rw e tt) begun
    by_number (Touch u v p) e t (suc n) z = absurd (omega (arith, t.passed, z))
    by_number (Open u p) e t zero z = worked a job k (answer_by' 0) same (rw e tt) begun
    by_number (Open u p) e t (suc n) z = absurd (omega (arith, t.passed, z))

passed : (b : List ℕ) (k : Block) (a : BlockCleared) → Looked b k a → Alike a (answer_by binary32 b (Ok k))
unfolding sweep_for sweep sweep_time_of_impact
passed b k a h =
    by_number a k.job h.job (points_a b k) (points_b b k) (numbers_of b) _ a.answer refl h.told _
    (as-the-sweep (points_a b k) (points_b b k) (numbers_of b))

-- ---- any block
by-check : (b : List ℕ) (a : BlockCleared) (x : Result Block BlockRefusal) → AnswerBy b x a → Alike a (answer_by binary32 b x)
by-check b a (Ok k) h = passed b k a h
by-check b a (Err r) h = h

by_size : (b : List ℕ) (a : BlockCleared) (whole : Bool) → AnswerIf whole b a → Alike a (cond whole (block_answer binary32 b) (refused 0 9))
unfolding block_answer
by_size b a true h = by-check b a (checked_block b) h
by_size b a false h = h

pub refused-alike : (b : List ℕ) (a : BlockCleared) → AnswerOf b a → Alike a (answer_of binary32 b)
unfolding AnswerOf
refused-alike b a h = by_size b a (eqb (length b) 512) h

-- ---- all blocks of a file
all_alike : (bs : List (List ℕ)) (came : List BlockCleared) → AnswersOf bs came → AllAlike came (map (answer_of binary32) bs)
unfolding AnswersOf AllAlike
all_alike [] [] h = tt
all_alike [] (a ∷ later) h = absurd h
all_alike (b ∷ bs) [] h = absurd h
all_alike (b ∷ bs) (a ∷ later) h = (refused-alike b a h.0, all_alike bs later h.1)

pub file-alike : (file : List ℕ) (came : List BlockCleared) → AnswersOf (blocks file) came → AllAlike came (answers binary32 file)
unfolding answers
file-alike file came h = all_alike (blocks file) came h

-- ---- a refused line is the sheet's own
pub same_line : (n : ℕ) (a : BlockCleared) (job number : ℕ) → Alike a (refused job number)
    → line_of n a ≡ answer_line binary32 n (refused job number)
unfolding line_of refused_line
same_line n a job number e = ap (line_of n) e

-- ---- the totals: as many blocks, as many refused
not-refused : (t : Totals) (x : Cleared) → NotRefused x → ((counted t x).blocks ≡ t.blocks + 1) × ((counted t x).refused ≡ t.refused)
not-refused t (Refused number) h = absurd h
not-refused t (Clear pieces) h = (refl, refl)
not-refused t (Touch u v pieces) h = (refl, refl)
not-refused t (Open u pieces) h = (refl, refl)

worked-line : (s : Totals) (x : Status) → ((one_worked s x).blocks ≡ s.blocks + 1) × ((one_worked s x).refused ≡ s.refused)
worked-line s Overlapped = (refl, refl)
worked-line s Hit = (refl, refl)
worked-line s Separated = (refl, refl)
worked-line s Failed = (refl, refl)

one_alike : (t s : Totals) (a : BlockCleared) (x : BlockAnswer) → SameCounts t s → Alike a x → SameCounts (counted t a.answer) (Sheet.counted s x)
one_alike t s a (Err r) c e =
    let told : a.answer ≡ Refused r.number = ap (λ (y : BlockCleared). y.answer) e in
    rw told (record { blocks = omega (arith, c.blocks); refused = omega (arith, c.refused) })
one_alike t s a (Ok w) c e =
    let p = not-refused t a.answer e.1 in
    let q = worked-line s w.verdict.status in
    record { blocks = omega (arith, c.blocks, p.0, q.0); refused = omega (arith, c.refused, p.1, q.1) }

same-counts : (t s : Totals) (came : List BlockCleared) (xs : List BlockAnswer) → SameCounts t s → AllAlike came xs
    → SameCounts (totals_from t came) (Sheet.totals_from s xs)
unfolding AllAlike totals_from Sheet.totals_from
same-counts t s [] [] c h = c
same-counts t s [] (x ∷ xs) c h = absurd h
same-counts t s (a ∷ later) [] c h = absurd h
same-counts t s (a ∷ later) (x ∷ xs) c h =
    same-counts (counted t a.answer) (Sheet.counted s x) later xs (one_alike t s a x c h.0) h.1

pub same-totals : (file : List ℕ) (came : List BlockCleared) → AnswersOf (blocks file) came
    → SameCounts (totals_from none came) (Sheet.totals_from none (answers binary32 file))
same-totals file came h = same-counts none none came (answers binary32 file) (record { blocks = refl; refused = refl }) (file-alike file came h)
