-- A block that passes does so in the other form, with the same answer: its printed line is the same for every number. Assumes nothing.
use Rattle.std.proofs.Common.{Ok}
use mathlib.Core.Path.{◌≡◌, sym, ap, ◌∙◌}
use mathlib.Core.Logic.{◌≢◌}
use mathlib.Core.Bool.{true}
use mathlib.Core.List.{List}
use Prim.Native.Nat.{ℕ, ◌+◌, ◌-◌, ◌*◌, ◌≤◌, ◌<◌}
use native.Mathlib.Omega.{arith}
use lib.Ieee.{Format}
use lib.ListN.{length}
use Rattle.model.specs.declared.Block.{Block}
use Rattle.model.specs.Wire.{byte}
use Rattle.model.specs.Block.{known_form, bad_fields, job_of, block_of, most_points, checked_block}
use Rattle.model.specs.Blocks.{is_good}
use Rattle.model.specs.Work.{sweep_of, block_answer}
use Rattle.model.specs.Sheet.{answer_line}
use Rattle.block.proofs.Laws.{good-counts}
use Rattle.block.proofs.Passed.{Passed, is-passed, passed-good}
use Rattle.convert_forms.specs.Forms.{other_form}
use Rattle.convert_forms.proofs.Bytes.{Agree, same_word, same-zero, same-floats}
use Rattle.convert_forms.proofs.Twice.{Bytes, other-same, other-form, other-holds, known-other, twice-unchanged}

-- ---- lists that agree before the check but in byte 6
module _ (b c : List ℕ) (same : (j : ℕ) → j < 508 → j ≢ 6 → byte c j ≡ byte b j) where
  within : (k l : ℕ) → 6 < k → l ≤ 508 → Agree b c k l
  within k l h m j p q = same j (omega (arith, q, m)) (λ e. omega (arith, h, p, e))

  job-same : job_of c ≡ job_of b
  job-same = same_word b c 0 (λ j l m. same j (omega (arith, m)) (λ e. omega (arith, m, e)))

  count-a : byte c 4 ≡ byte b 4
  count-a = same 4 (omega arith) (λ e. omega (arith, e))

  count-b : byte c 5 ≡ byte b 5
  count-b = same 5 (omega arith) (λ e. omega (arith, e))

  pub block_same : block_of c ≡ block_of b
  block_same = rw (job-same, count-a, count-b)

  pub fields-same : bad_fields c ≡ bad_fields b
  fields-same =
      rw (
        job-same,
        count-a,
        count-b,
        same 7 (omega arith) (λ e. omega (arith, e)),
        same-zero b c (104 + 8 * byte b 4) (128 - 8 * byte b 4) (λ i h. same (104 + 8 * byte b 4 + i) (omega (arith, h)) (λ e. omega (arith, e))),
        same-zero b c (232 + 8 * byte b 5) (276 - 8 * byte b 5) (λ i h. same (232 + 8 * byte b 5 + i) (omega (arith, h)) (λ e. omega (arith, e))),
      )

  pub sweep-same : (f : Format) (k : Block) → k.count_a ≤ most_points → k.count_b ≤ most_points → sweep_of f c k ≡ sweep_of f b k
  sweep-same f k h m =
      rw (
        same-floats b c 104 (2 * k.count_a) (within 104 (104 + 4 * (2 * k.count_a)) (omega arith) (omega (arith, h))),
        same-floats b c 232 (2 * k.count_b) (within 232 (232 + 4 * (2 * k.count_b)) (omega arith) (omega (arith, m))),
        same-floats b c 8 24 (within 8 104 (omega arith) (omega arith)),
      )

-- ---- a block that passes, and its other form
module _ (b : List ℕ) (size : length b ≡ 512) (good : is_good (checked_block b) ≡ true) where
  passed : Passed b
  passed = is-passed b good

  -- two conversions
  pub twice : Bytes b → other_form (other_form b) ≡ b
  twice bytes = twice-unchanged b size passed.known bytes passed.holds

  other-passed : Passed (other_form b)
  other-passed = record {
    known = ap known_form (other-form b size) ∙ (known-other (byte b 6) passed.known).0;
    holds = other-holds b size;
    fields = fields-same b (other_form b) (other-same b size) ∙ passed.fields;
  }

  -- the other form passes too, with the same job and counts
  pub other-checked : checked_block (other_form b) ≡ checked_block b
  other-checked =
      passed-good (other_form b) other-passed ∙ ap Ok (block_same b (other_form b) (other-same b size)) ∙ sym (passed-good b passed)

  pub same_answer : (f : Format) → block_answer f (other_form b) ≡ block_answer f b
  unfolding block_answer
  same_answer f =
      let counts = good-counts b (block_of b) (passed-good b passed) in
      rw (other-checked, passed-good b passed, sweep-same b (other_form b) (other-same b size) f (block_of b) counts.0 counts.1)

  -- the printed line, for every block number
  pub same_line : (f : Format) (n : ℕ) → answer_line f n (block_answer f (other_form b)) ≡ answer_line f n (block_answer f b)
  same_line f n = ap (answer_line f n) (same_answer f)
