-- `job_text::build::count_at` meets its contract: the smaller of two, by which it is. Assumes nothing.
use Rattle.std.proofs.Common.{◌≡◌, refl, ◌∙◌, ℕ, ◌≤◌, Bool, true, false, cond, nat_lt, ltb-true, ltb-false, arith}
use Rattle.std.specs.Prelude.{min}
use Rattle.std.proofs.Math.Nat.{min-eq_left, min-eq_right, min-le_right}
use Rattle.job_text.specs.Job.{field, count_at}
use Rattle.job_text.proofs.build.count_at.Goals as goal

capped : (n : ℕ) → min n 16 ≡ cond (nat_lt 16 n) 16 n
capped n = go (nat_lt 16 n) refl
  where
    go : (t : Bool) → nat_lt 16 n ≡ t → min n 16 ≡ cond t 16 n
    go true e = min-eq_right (omega (arith, ltb-true 16 n e))
    go false e = min-eq_left (ltb-false 16 n e)

pub returns : goal.returns
returns c = (
  rw (c.min.ensures, c.field_at.ensures) (capped (field c.args.numbers.now c.args.k)),
  omega (arith, c.min.ensures, min-le_right c.field_at.result 16),
)
