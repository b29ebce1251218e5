-- `job_text::room::put_refusal` meets its contract: nothing where there is no room, else the refusal. Assumes nothing.
use Rattle.std.proofs.Common.{◌+◌, ◌<◌, ◌≤◌, length, arith, le-ltb, lt-ltb, rules}
use Rattle.text.proofs.Pasted.{put-nothing}
use Rattle.text.proofs.Written.{left}
use Rattle.job_text.proofs.room.put_refusal.Goals as goal

pub returns-then-err-lt-REFUSAL_ROOM : goal.returns-then-err-lt-REFUSAL_ROOM
returns-then-err-lt-REFUSAL_ROOM c = let a = c.args in
    let no_room : length a.err.now < a.at + 42 = omega (arith, c.if-err-lt-REFUSAL_ROOM.true) in
    rw (lt-ltb (length a.err.now) (a.at + 42) no_room) (put-nothing _ _)

pub returns-then-err-at : goal.returns-then-err-at
returns-then-err-at c = let a = c.args in
    let no_room : length a.err.now < a.at + 42 = omega (arith, c.if-err-at.true, c.if-err-lt-REFUSAL_ROOM.false) in
    rw (lt-ltb (length a.err.now) (a.at + 42) no_room) (put-nothing _ _)

pub put_both-requires : goal.put_both-requires
put_both-requires c = omega (arith, c.if-err-at.false, c.if-err-lt-REFUSAL_ROOM.false)

pub returns : goal.returns
returns c = let a = c.args in
    let room : a.at + 42 ≤ length a.err.now = omega (arith, c.if-err-at.false, c.if-err-lt-REFUSAL_ROOM.false) in
    rw (le-ltb (length a.err.now) (a.at + 42) room) (left c.put_both.ensures (search rules))
