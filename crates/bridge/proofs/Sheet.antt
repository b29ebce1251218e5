-- What a block of the f64 crates comes to, its line, the lines and the totals of a file are model's. Assumes nothing.
use Rattle.std.proofs.Common.{Result, Ok, Err}
use Prim.Native.Nat.{ℕ, zero, suc, ◌+◌, ◌/◌, ◌%◌}
use mathlib.Core.Bool.{Bool, true, false, cond}
use mathlib.Core.List.{List, [], ◌∷◌, ◌++◌, map}
use mathlib.Core.Path.{◌≡◌, refl, ap, sym, ◌∙◌}
use lib.Dec.{eqb}
use lib.ListN.{length, take, drop}
use lib.Ieee.{Float, Format}
use Rattle.model.specs.declared.Status.{Status}
use Rattle.model.specs.declared.Status.TheVariants as Status
use Rattle.model.specs.declared.Totals.{Totals}
use Rattle.model.specs.declared.Vector.{Vector}
use Rattle.model.specs.declared.Swept.{Swept}
use Rattle.model.specs.declared.Corners.{Corners}
use Rattle.model.specs.declared.Block.{Block}
use Rattle.model.specs.declared.BlockRefusal.{BlockRefusal}
use Rattle.model.specs.declared.SweepAnswer.{SweepAnswer}
use Rattle.model.specs.declared.SweepAnswer.TheVariants.{Overlapped, Hit, Separated, Failed, Refused}
use Rattle.model.specs.declared.Verdict.{Verdict}
use Rattle.model.specs.declared.Refusal.{Refusal}
use Rattle.model.specs.Support.{point}
use Rattle.model.specs.Block.{checked_block, refused}
use Rattle.model.specs.Work.{move_at, sweep_for, BlockAnswer, block_answer}
use Rattle.model.specs.Work as W
use Rattle.model.specs.Blocks.{blocks}
use Rattle.model.specs.Sheet.{answers, worked_line, lines_from, counted, totals_from, sheet}
use Rattle.model.specs.Sheet as Sheet
use Rattle.model64.specs.Work.{move_at as move_at64, sweep_for as sweep_for64, block_answer as block_answer_of64}
use Rattle.model64.specs.Work as W64
use Rattle.model64.specs.Sheet.{answers as answers64, worked_line as worked_line64, lines_from as lines_from64, totals_from as totals_from64}
use Rattle.model64.specs.Sheet as Sheet64
use Rattle.bridge.specs.Wide.{vector64, rotation64, sweep64, swept64, sweep_answer64, verdict64, outcome64, block_answer64}
use Rattle.bridge.proofs.Corners.{swept_same}

-- ---- a block
pub turn-same : (v : Vector) → W64.turn (vector64 v) ≡ rotation64 (W.turn v)
turn-same v = refl

pub move_same : (ns : List Float) (i : ℕ) → move_at64 ns i ≡ sweep64 (move_at ns i)
unfolding move_at64 move_at
move_same ns i = refl

pub sweep-for-same : (f : Format) (a b ns : List Float) → sweep_for64 f a b ns ≡ swept64 (sweep_for f a b ns)
unfolding sweep_for64 sweep_for
sweep-for-same f a b ns =
    rw (move_same ns 2, move_same ns 7)
    (swept_same f a (point ns 0).x (move_at ns 2) b (point ns 0).y (move_at ns 7) (point ns 1).x (point ns 1).y)

pub told_same : (f : Format) (k : Corners) (x : SweepAnswer) → W64.told_by f k (sweep_answer64 x) ≡ outcome64 (W.told_by f k x)
told_same f k (Overlapped n) = refl
told_same f k (Hit c n) = refl
told_same f k (Separated c n) = refl
told_same f k (Failed c n) = refl
told_same f k (Refused number) = refl

pub told-swept-same : (f : Format) (x : Swept) → W64.told f (swept64 x) ≡ outcome64 (W.told f x)
told-swept-same f x = told_same f x.corners x.answer

of-job-same : (job : ℕ) (x : Result Verdict Refusal) → W64.of_job job (outcome64 x) ≡ block_answer64 (W.of_job job x)
of-job-same job (Ok v) = refl
of-job-same job (Err r) = refl

by-check : (f : Format) (b : List ℕ) (x : Result Block BlockRefusal) → W64.answer_by f b x ≡ block_answer64 (W.answer_by f b x)
by-check f b (Ok k) =
    let swept = W.sweep_of f b k in
    rw (sweep-for-same f (W.points_a b k) (W.points_b b k) (W.numbers_of b), told_same f swept.corners swept.answer)
    (of-job-same k.job (W.told f swept))
by-check f b (Err r) = refl

pub block-answer-same : (f : Format) (b : List ℕ) → block_answer_of64 f b ≡ block_answer64 (block_answer f b)
unfolding block_answer_of64 block_answer
block-answer-same f b = by-check f b (checked_block b)

-- ---- a file
by_size : (f : Format) (x : List ℕ) (whole : Bool) →
    cond whole (block_answer_of64 f x) (refused 0 9) ≡ block_answer64 (cond whole (block_answer f x) (refused 0 9))
by_size f x true = block-answer-same f x
by_size f x false = refl

each_same : (f : Format) (xs : List (List ℕ)) → map (Sheet64.answer_of f) xs ≡ map block_answer64 (map (Sheet.answer_of f) xs)
each_same f [] = refl
each_same f (x ∷ xs) = rw (by_size f x (eqb (length x) 512), each_same f xs)

pub answers-same : (f : Format) (b : List ℕ) → answers64 f b ≡ map block_answer64 (answers f b)
unfolding answers64 answers
answers-same f b = each_same f (blocks b)

-- ---- its lines and totals
pub line_same : (f : Format) (n : ℕ) (x : BlockAnswer) → Sheet64.answer_line f n (block_answer64 x) ≡ Sheet.answer_line f n x
unfolding worked_line64 worked_line
line_same f n (Ok w) = refl
line_same f n (Err r) = refl

lines-of-same : (f : Format) (n : ℕ) (xs : List BlockAnswer) → lines_from64 f n (map block_answer64 xs) ≡ lines_from f n xs
unfolding lines_from64 lines_from
lines-of-same f n [] = refl
lines-of-same f n (x ∷ xs) = rw (line_same f (n + 1) x, lines-of-same f (n + 1) xs)

pub lines_same : (f : Format) (n : ℕ) (b : List ℕ) → lines_from64 f n (answers64 f b) ≡ lines_from f n (answers f b)
lines_same f n b = rw (answers-same f b) (lines-of-same f n (answers f b))

counted_same : (t : Totals) (x : BlockAnswer) → Sheet64.counted t (block_answer64 x) ≡ counted t x
counted_same t (Ok w) = refl
counted_same t (Err r) = refl

totals-of-same : (t : Totals) (xs : List BlockAnswer) → totals_from64 t (map block_answer64 xs) ≡ totals_from t xs
unfolding totals_from64 totals_from
totals-of-same t [] = refl
totals-of-same t (x ∷ xs) = ap (λ (s : Totals). totals_from64 s (map block_answer64 xs)) (counted_same t x) ∙ totals-of-same (counted t x) xs

pub totals-same : (f : Format) (t : Totals) (b : List ℕ) → totals_from64 t (answers64 f b) ≡ totals_from t (answers f b)
totals-same f t b = rw (answers-same f b) (totals-of-same t (answers f b))
