-- `fields::put_floats` meets its contract: five floats, one after the other. Assumes nothing.
use native.Mathlib.Omega.{arith}
use Rattle.text.proofs.Written.{wrote-then}
use Rattle.fields.specs.Floats.{floats}
use Rattle.fields.proofs.put_floats.Goals as goal

pub returns : goal.returns
unfolding floats
returns c =
    let two = wrote-then (omega arith) c.put_float.ensures c.put_float-2.ensures in
    let four = wrote-then (omega arith) (wrote-then (omega arith) two c.put_float-3.ensures) c.put_float-4.ensures in
    wrote-then (omega arith) four c.put_float-5.ensures
