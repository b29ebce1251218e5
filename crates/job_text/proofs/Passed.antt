-- What a block that passes tells. Assumes nothing.
use Rattle.std.proofs.Common.{◌≡◌, ℕ, ◌+◌, ◌-◌, ◌*◌, ◌%◌, ◌^◌, ◌≤◌, Bool, true, false, cond, eqb, List, sym, refl, ap, ◌∙◌, eqb-true, Result, Ok}
use Rattle.model.specs.declared.Block.{Block}
use Rattle.model.specs.declared.BlockRefusal.{BlockRefusal}
use Rattle.model.specs.Wire.{byte, word}
use Rattle.model.specs.Block.{job_of, block_of, sum_of_words, weighed_words, all_zero, checked_block}
use Rattle.model.specs.Blocks.{is_good}
use Rattle.block.proofs.Laws.{sum_step}
use Rattle.block.proofs.Passed.{is-passed, passed-good, fields-of}
use Rattle.job_text.specs.Job.{other_form, plain_block}

-- only where byte 6 is 0 can a block pass
plain-good : (plain : Bool) (k : Result Block BlockRefusal) (other : Bool) (job : ℕ) → is_good (cond plain k (other_form other job)) ≡ true → (plain ≡ true)
    × (is_good k ≡ true)
plain-good true k other job e = (refl, e)
plain-good false k true job e = (cc, cc)
plain-good false k false job e = (cc, cc)

-- the check of form 1 is that of the plain sum
plain-check : (plain : Bool) (sum weighed last : ℕ) → plain ≡ true → eqb ((cond plain sum weighed + last) % 2 ^ 32) 4294967295 ≡ true →
    (sum + last) % 2 ^ 32 ≡ 4294967295
plain-check true sum weighed last e h = eqb-true ((sum + last) % 2 ^ 32) 4294967295 h
plain-check false sum weighed last e h = cc

-- byte 6 is 0, the sum holds, the counts are in range, and what must be zero is
pub record Passed (b : List ℕ) : Type 0 where
  pub form : byte b 6 ≡ 0
  pub sum : sum_of_words b 128 % 2 ^ 32 ≡ 4294967295
  pub count-a : byte b 4 ≤ 16
  pub count-b : byte b 5 ≤ 16
  pub zeros-a : all_zero b (104 + 8 * byte b 4) (128 - 8 * byte b 4) ≡ true
  pub zeros-b : all_zero b (232 + 8 * byte b 5) (276 - 8 * byte b 5) ≡ true
  pub after-form : byte b 7 ≡ 0
  pub accepted : checked_block b ≡ Ok (block_of b)

pub what-passed : (b : List ℕ) → is_good (plain_block b) ≡ true → Passed b
unfolding plain_block
what-passed b e =
    let plain = plain-good (eqb (byte b 6) 0) (checked_block b) (eqb (sum_of_words b 128 % 2 ^ 32) 4294967295) (job_of b) e in
    let t = is-passed b plain.1 in
    let f = fields-of b t.fields in
    record {
      form = eqb-true (byte b 6) 0 plain.0;
      sum =
          ap (λ (n : ℕ). n % 2 ^ 32) (sym (sum_step b 127))
          ∙ plain-check (eqb (byte b 6) 0) (sum_of_words b 127) (weighed_words b 127) (word b 508) plain.0 t.holds;
      count-a = f.count-a;
      count-b = f.count-b;
      zeros-a = f.zeros-a;
      zeros-b = f.zeros-b;
      after-form = f.after-form;
      accepted = passed-good b t;
    }
