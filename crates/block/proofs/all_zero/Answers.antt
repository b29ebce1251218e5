-- `block::all_zero` meets its contract: the bytes passed so far are all zero or not. Assumes nothing.
use Rattle.std.proofs.Common.{◌≡◌, ℕ, ◌-◌, ◌<◌, ◌∙◌, drop, refl, arith, get_or-drop, get_or-take}
use Rattle.std.proofs.lemmas.List.{length-take, length-drop}
use Rattle.model.specs.Block.{all_zero}
use Rattle.block.proofs.Laws.{both-zero, zero-step, zero-rest}
use Rattle.block.proofs.all_zero.Goals as goal

pub loop-x-init : goal.loop-x-init
unfolding all_zero
loop-x-init c = refl

pub loop-x-preserved : goal.loop-x-preserved
loop-x-preserved c =
    let l = c.loop-x in
    let a = c.args in
    let size = c.min-end.result - a.from in
    let here : l.x-index < size = omega (arith, length-take {A = ℕ}, c.loop-x-test.true) in
    rw (get_or-take size (drop a.from a.bytes.now) l.x-index 0 here, get_or-drop a.from a.bytes.now l.x-index 0, both-zero, l.invariant) (zero-step a.bytes.now a.from l.x-index)

pub returns : goal.returns
returns c =
    let l = c.loop-x in
    let a = c.args in
    let all : l.x-index ≡ c.min-end.result - a.from = omega (arith, length-take {A = ℕ}, length-drop {A = ℕ}, c.loop-x-test.false, l.auto.x-index-end) in
    l.invariant ∙ zero-rest a.bytes.now a.from l.x-index a.n (omega arith) (λ h. omega arith)

pub returns-then-end-from : goal.returns-then-end-from
unfolding all_zero
returns-then-end-from c = zero-rest c.args.bytes.now c.args.from 0 c.args.n (omega arith) (λ h. omega arith)
