-- Counts as 64 bits hold them: sums may be taken in any order. Assumes nothing.
use Rattle.std.proofs.Common.{◌≡◌, ℕ, ◌+◌, ◌^◌, ◌<◌, arith}
use Rattle.report_counts.specs.Largest.{hold, plus}

pub plus-held : (a b : ℕ) → plus (hold a) (hold b) ≡ hold (a + b)
plus-held a b = omega arith

pub plus_assoc : (a b c : ℕ) → plus (plus a b) c ≡ plus a (plus b c)
plus_assoc a b c = omega arith

pub plus_none : (a : ℕ) → a < 2 ^ 64 → plus a 0 ≡ a
plus_none a small = omega arith

pub none-plus : (a : ℕ) → a < 2 ^ 64 → plus 0 a ≡ a
none-plus a small = omega arith

pub is_held : (a : ℕ) → hold a < 2 ^ 64
is_held a = omega arith
