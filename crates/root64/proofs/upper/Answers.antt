-- `upper` meets its contract. Assumes nothing.
use Rattle.std.proofs.Common.{ℕ, ◌+◌, ◌*◌, ◌/◌, ◌%◌, ◌<◌, ◌≤◌, arith}
use Rattle.root64.proofs.Neighbours.{h, l, by-halves, products-fit, upper_fits, upper-word}
use Rattle.root64.proofs.upper.Goals as goal

bounds : (x y : ℕ) → x ≤ 18014398509481984 → y ≤ 18014398509481984
    → (h x * h y + (h x * l y + l x * l y / 4294967296) / 4294967296 ≤ 17592190238721)
    × (h x * h y + (h x * l y + l x * l y / 4294967296) / 4294967296 + (l x * h y + (h x * l y + l x * l y / 4294967296) % 4294967296) / 4294967296 ≤ 17592194433026)
bounds x y i j = let p = products-fit x y i j in upper_fits (h x * h y) (h x * l y) (l x * h y) (l x * l y) p.0 p.1 p.2 p.3

wider : (n : ℕ) → n ≤ 17592190238721 → n ≤ 17592194433026
wider n i = omega arith

below_word : (n : ℕ) → n ≤ 17592194433026 → n < 18446744073709551616
below_word n i = omega arith

pub overflow_mul-a : goal.overflow_mul-a
overflow_mul-a c = let p = products-fit c.args.x c.args.y c.requires.0 c.requires.1 in record { fits = omega arith }

pub overflow_mul-a-2 : goal.overflow_mul-a-2
overflow_mul-a-2 c = let p = products-fit c.args.x c.args.y c.requires.0 c.requires.1 in record { fits = omega arith }

pub overflow_add-a : goal.overflow_add-a
overflow_add-a c = let p = products-fit c.args.x c.args.y c.requires.0 c.requires.1 in record { fits = omega arith }

pub overflow_mul-b : goal.overflow_mul-b
overflow_mul-b c = let p = products-fit c.args.x c.args.y c.requires.0 c.requires.1 in record { fits = omega arith }

pub overflow_add-b : goal.overflow_add-b
overflow_add-b c = let p = products-fit c.args.x c.args.y c.requires.0 c.requires.1 in record { fits = omega arith }

pub overflow_mul-result : goal.overflow_mul-result
overflow_mul-result c = let p = products-fit c.args.x c.args.y c.requires.0 c.requires.1 in record { fits = omega arith }

pub overflow_add-result : goal.overflow_add-result
overflow_add-result c = record { fits = below_word _ (wider _ (bounds c.args.x c.args.y c.requires.0 c.requires.1).0) }

pub overflow_add-result-2 : goal.overflow_add-result-2
overflow_add-result-2 c = record { fits = below_word _ (bounds c.args.x c.args.y c.requires.0 c.requires.1).1 }

pub returns : goal.returns
returns c = let x = c.args.x in
    let y = c.args.y in (
      upper-word (x * y) (x / 4294967296 * (y / 4294967296)) (x / 4294967296 * (y % 4294967296)) (x % 4294967296 * (y / 4294967296)) (x % 4294967296 * (y % 4294967296)) (by-halves x y),
      (bounds x y c.requires.0 c.requires.1).1,
    )
