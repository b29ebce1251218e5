-- What there is room for, and how long a refusal is. Assumes nothing.
use Rattle.std.proofs.Common.{◌≡◌, ℕ, zero, suc, ◌+◌, ◌/◌, ◌<◌, ◌≤◌, Bool, true, false, cond, ltb, length, refl, arith, length-append, ltb-false, ltb-true}
use Rattle.std.specs.Prelude.{min}
use Rattle.std.proofs.Math.Nat.{min-le_left, min-le_right}
use Rattle.model.specs.Parts.{count_limit}
use Rattle.text.specs.Put.{number}
use Rattle.text.proofs.Lengths.{length-number}
use Rattle.job_text.specs.Room.{refusal, refusal_room, used_of}

pub record Room (n size most told before : ℕ) : Type 0 where
  pub inside : n ≤ size
  pub room : n ≤ most
  pub refusals : n ≤ told / refusal_room
  pub countable : 0 < n → before < count_limit

pub used-fits : {n : ℕ} (size most told before : ℕ) → n ≡ used_of size most told before → Room n size most told before
used-fits {n} size most told before e = go (ltb before count_limit) refl e
  where
    go : (t : Bool) → ltb before count_limit ≡ t → n ≡ cond t (min (min size most) (told / refusal_room)) 0 → Room n size most told before
    go true f same =
        record {
          inside = omega (arith, same, min-le_left (min size most) (told / refusal_room), min-le_left size most);
          room = omega (arith, same, min-le_left (min size most) (told / refusal_room), min-le_right size most);
          refusals = omega (arith, same, min-le_right (min size most) (told / refusal_room));
          countable = λ some. ltb-true before count_limit f;
        }
    go false f same = record {
      inside = omega (arith, same);
      room = omega (arith, same);
      refusals = omega (arith, same);
      countable = λ some. absurd (omega (arith, same, some));
    }

-- and the next count fits
pub count_fits : {n size most told before : ℕ} → Room n size most told before → before < 18446744073709551616 → most < 4611686018427387904 →
    before + n < 18446744073709551616
count_fits {n = zero} r small few = omega arith
count_fits {n = suc m} r small few = omega (arith, r.countable (omega arith), r.room)

pub length-refusal : (n why : ℕ) → length (refusal n why) ≤ refusal_room
unfolding refusal
length-refusal n why = rw (length-append (number n 32) (number why 10)) (omega (arith, length-number n 32, length-number why 10))
