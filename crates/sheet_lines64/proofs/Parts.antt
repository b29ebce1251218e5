-- Written by tests/written/wide.py from sheet_lines, in f64.
-- Lines one after the other, what there is room for, and that no count overflows. Assumes nothing.
use Rattle.std.proofs.Common.{Ok, Err}
use mathlib.Core.Path.{◌≡◌, ◌∙◌}
use mathlib.Core.Bool.{true, ◌&&◌}
use mathlib.Core.List.{List, [], ◌∷◌, ◌++◌, append-nil}
use Prim.Native.Nat.{ℕ, ◌+◌, ◌*◌, ◌/◌, ◌%◌, ◌≤◌}
use native.Mathlib.Omega.{arith}
use native.Mathlib.Numerals.{add-one}
use borrow.Author.Tests.{ltb-true, leb-true}
use lib.Dec.{ltb, leb}
use lib.Ieee.{binary64}
use lib.ListN.{length, take, drop}
use Rattle.model.specs.declared.Status.{Status}
use Rattle.model.specs.declared.Status.TheVariants.{Overlapped, Hit, Separated, Failed}
use Rattle.model.specs.declared.Totals.{Totals}
use Rattle.model64.specs.Work.{block_answer, BlockAnswer}
use Rattle.model.specs.Sheet.{one_worked}
use Rattle.model64.specs.Sheet.{whole_answers, rest_answer, answers, answer_line, lines_from, counted, totals_from}
use Rattle.model.specs.Sheet as Sheet
use Rattle.bridge.proofs.Sheet.{lines_same, totals-same}
use Rattle.model64.proofs.DistanceCall.{both}
use Rattle.model64.proofs.Sheet.{lines-append, totals-append, blocks-counted, answers-more, answers-cut}
use Rattle.text.specs.declared.draft.Draft.{Draft}
use Rattle.text.specs.Written.{Wrote}
use Rattle.model.specs.Parts.{count_limit}
use Rattle.sheet_lines64.specs.Part.{Below, countable, fits, longest_line}
use Rattle.text.proofs.Written.{wrote-then}

-- ---- the totals
pub below_less : {m n : ℕ} {t : Totals} → m ≤ n → Below m t → Below n t
below_less le h =
    record {
      blocks = omega (arith, h.blocks);
      clear = omega (arith, h.clear);
      contact = omega (arith, h.contact);
      undecided = omega (arith, h.undecided);
      refused = omega (arith, h.refused);
    }

-- an answer adds at most one to each
pub below_more : (n : ℕ) (t : Totals) (x : BlockAnswer) → Below n t → Below (n + 1) (counted t x)
below_more n t (Err r) h =
    record {
      blocks = omega (arith, h.blocks);
      clear = omega (arith, h.clear);
      contact = omega (arith, h.contact);
      undecided = omega (arith, h.undecided);
      refused = omega (arith, h.refused);
    }
below_more n t (Ok w) h = go w.verdict.status
  where
    go : (s : Status) → Below (n + 1) (one_worked t s)
    go Overlapped = record {
      blocks = omega (
        arith,
        h.blocks,
      );
      clear = omega (arith, h.clear);
      contact = omega (arith, h.contact);
      undecided = omega (arith, h.undecided);
      refused = omega (arith, h.refused);
    }
    go Hit = record {
      blocks = omega (
        arith,
        h.blocks,
      );
      clear = omega (arith, h.clear);
      contact = omega (arith, h.contact);
      undecided = omega (arith, h.undecided);
      refused = omega (arith, h.refused);
    }
    go Separated = record {
      blocks = omega (
        arith,
        h.blocks,
      );
      clear = omega (arith, h.clear);
      contact = omega (arith, h.contact);
      undecided = omega (arith, h.undecided);
      refused = omega (arith, h.refused);
    }
    go Failed = record {
      blocks = omega (
        arith,
        h.blocks,
      );
      clear = omega (arith, h.clear);
      contact = omega (arith, h.contact);
      undecided = omega (arith, h.undecided);
      refused = omega (arith, h.refused);
    }

-- ---- what there is room for
pub countable-below : (t : Totals) → countable t ≡ true → Below count_limit t
countable-below t e =
    let four = both (ltb t.blocks count_limit && ltb t.clear count_limit && ltb t.contact count_limit && ltb t.undecided count_limit)
    (ltb t.refused count_limit) e in
    let three = both (ltb t.blocks count_limit && ltb t.clear count_limit && ltb t.contact count_limit) (ltb t.undecided count_limit) four.0 in
    let two = both (ltb t.blocks count_limit && ltb t.clear count_limit) (ltb t.contact count_limit) three.0 in
    let one = both (ltb t.blocks count_limit) (ltb t.clear count_limit) two.0 in
    record {
      blocks = ltb-true _ _ one.0;
      clear = ltb-true _ _ one.1;
      contact = ltb-true _ _ two.1;
      undecided = ltb-true _ _ three.1;
      refused = ltb-true _ _ four.1;
    }

pub record Room (size room : ℕ) (t : Totals) : Type 0 where
  pub lines : longest_line * (size / 512) + longest_line + longest_line ≤ room
  pub small : Below count_limit t

pub fits-room : (size room : ℕ) (t : Totals) → fits size room t ≡ true → Room size room t
fits-room size room t e =
    let h = both (leb (size / 512 + 2) (room / longest_line)) (countable t) e in
    record { lines = omega (arith, leb-true (size / 512 + 2) (room / longest_line) h.0); small = countable-below t h.1 }

-- ---- a turn over the blocks of a part: n bytes from the block's start are its 512
module _ (t₀ t : Totals) (b : List ℕ) (i n : ℕ) (whole : n ≡ 512) (so_far : t ≡ totals_from t₀ (whole_answers binary64 i b)) (x : BlockAnswer)
    (answer : x ≡ block_answer binary64 (take n (drop (512 * i) b))) where
  more : whole_answers binary64 (i + 1) b ≡ whole_answers binary64 i b ++ (x ∷ [])
  more = rw (add-one, answers-more binary64 i b, answer, whole)

  number : t.blocks ≡ t₀.blocks + length (whole_answers binary64 i b)
  number = rw so_far (blocks-counted t₀ (whole_answers binary64 i b))

  pub line_step : {k m : ℕ} {p₀ p p' : Draft} → p₀.at ≤ length p₀.bytes.now → Wrote k p₀ (lines_from binary64 t₀.blocks (whole_answers binary64 i b)) p
      → Wrote m p (answer_line binary64 (t.blocks + 1) x) p' → Wrote (k + m) p₀ (lines_from binary64 t₀.blocks (whole_answers binary64 (i + 1) b)) p'
  unfolding lines_from
  line_step inside v w =
      rw (more, lines-append binary64 t₀.blocks (whole_answers binary64 i b) (x ∷ []), ← number, append-nil (answer_line binary64 (t.blocks + 1) x))
      (wrote-then inside v w)

  pub totals-step : {t' : Totals} → t' ≡ counted t x → t' ≡ totals_from t₀ (whole_answers binary64 (i + 1) b)
  unfolding totals_from
  totals-step e = e ∙ rw (more, totals-append t₀ (whole_answers binary64 i b) (x ∷ []), ← so_far)

-- ---- the blocks and the rest are the answers of the part
module _ (t₀ t : Totals) (b : List ℕ) (so_far : t ≡ totals_from t₀ (whole_answers binary64 (length b / 512) b)) where
  pub all_lines : {k m : ℕ} {p₀ p p' : Draft} → p₀.at ≤ length p₀.bytes.now
      → Wrote k p₀ (lines_from binary64 t₀.blocks (whole_answers binary64 (length b / 512) b)) p
      → Wrote m p (lines_from binary64 t.blocks (rest_answer (length b % 512))) p' → Wrote (k + m) p₀ (Sheet.lines_from binary64 t₀.blocks (Sheet.answers binary64 b)) p'
  all_lines inside v w =
      let xs = whole_answers binary64 (length b / 512) b in
      let number : t.blocks ≡ t₀.blocks + length xs = rw so_far (blocks-counted t₀ xs) in
      rw (← lines_same binary64 t₀.blocks b, answers-cut binary64 b, lines-append binary64 t₀.blocks xs (rest_answer (length b % 512)), ← number) (wrote-then inside v w)

  pub all-totals : {t' : Totals} → t' ≡ totals_from t (rest_answer (length b % 512)) → t' ≡ Sheet.totals_from t₀ (Sheet.answers binary64 b)
  all-totals e = e ∙ rw (← totals-same binary64 t₀ b, answers-cut binary64 b, totals-append t₀ (whole_answers binary64 (length b / 512) b) (rest_answer (length b % 512)), ← so_far)
