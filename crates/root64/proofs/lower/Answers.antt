-- `lower` meets its contract. Assumes nothing.
use Rattle.std.proofs.Common.{◌*◌, ◌/◌, ◌%◌, ◌∙◌, arith}
use Rattle.root64.proofs.Neighbours.{by-halves, products-fit, lower_word}
use Rattle.root64.proofs.lower.Goals as goal

pub overflow_mul-xl : goal.overflow_mul-xl
overflow_mul-xl c = let p = products-fit c.args.x c.args.y c.requires.0 c.requires.1 in record { fits = omega arith }

pub overflow_mul-xh : goal.overflow_mul-xh
overflow_mul-xh c = let p = products-fit c.args.x c.args.y c.requires.0 c.requires.1 in record { fits = omega arith }

pub overflow_mul-xl-2 : goal.overflow_mul-xl-2
overflow_mul-xl-2 c = let p = products-fit c.args.x c.args.y c.requires.0 c.requires.1 in record { fits = omega arith }

pub overflow_add-xh : goal.overflow_add-xh
overflow_add-xh c = let p = products-fit c.args.x c.args.y c.requires.0 c.requires.1 in record { fits = omega arith }

pub returns : goal.returns
returns c = let x = c.args.x in
    let y = c.args.y in
    c.wrapping_add_u64.ensures.value
    ∙ lower_word (x * y) (x / 4294967296 * (y / 4294967296)) (x / 4294967296 * (y % 4294967296)) (x % 4294967296 * (y / 4294967296)) (x % 4294967296 * (y % 4294967296)) (by-halves x y)
