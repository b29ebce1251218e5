-- `route_clearance_text::put_answer` meets its contract, case by case. Assumes nothing.
use native.Mathlib.Omega.{arith}
use Rattle.text.proofs.Written.{there, wrote-most}
use Rattle.route_text.proofs.Lines.{wrong-is}
use Rattle.route_clearance_text.proofs.put_answer.Goals as goal

pub returns-in-Clear : goal.returns-in-Clear
returns-in-Clear c = rw c.in-Clear.is c.put_clear.ensures

pub returns-in-Touch : goal.returns-in-Touch
returns-in-Touch c = rw c.in-Touch.is c.put_touch.ensures

pub returns-in-Open : goal.returns-in-Open
returns-in-Open c = rw c.in-Open.is c.put_open.ensures

pub returns-in-Refused : goal.returns-in-Refused
returns-in-Refused c = rw c.in-Refused.is c.put_refused.ensures

pub returns-in-Wrong : goal.returns-in-Wrong
returns-in-Wrong c = rw (c.in-Wrong.is, wrong-is) (wrote-most (omega arith) (there 21 c.put_number.ensures (omega arith)))
