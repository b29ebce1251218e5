-- `job_text::block_line::put_job` meets its contract: nothing where a count is none of an outline or there is no room, else the line. Assumes nothing.
use Rattle.std.proofs.Common.{◌+◌, ◌<◌, ◌≤◌, length, arith, le-ltb, lt-ltb, rules}
use Rattle.model.specs.Wire.{byte}
use Rattle.text.proofs.Pasted.{put-nothing}
use Rattle.text.proofs.Written.{left}
use Rattle.job_text.proofs.block_line.put_job.Goals as goal

pub returns-then-byte-gt16 : goal.returns-then-byte-gt16
returns-then-byte-gt16 c = let many = c.if-byte-gt16.true in
    let b = c.args.block.now in
    let most : 16 < byte b 4 = omega (arith, many, c.byte.ensures) in
    rw (lt-ltb 16 (byte b 4) most) (put-nothing _ _)

pub returns-then-byte-gt16-2 : goal.returns-then-byte-gt16-2
returns-then-byte-gt16-2 c = let b = c.args.block.now in
    let a-most : byte b 4 ≤ 16 = omega (arith, c.if-byte-gt16.false, c.byte.ensures) in
    let b-many : 16 < byte b 5 = omega (arith, c.if-byte-gt16-2.true, c.byte-2.ensures) in
    rw (le-ltb 16 (byte b 4) a-most, lt-ltb 16 (byte b 5) b-many) (put-nothing _ _)

pub returns-then-out-lt-LONGEST_LINE : goal.returns-then-out-lt-LONGEST_LINE
returns-then-out-lt-LONGEST_LINE c = let a = c.args in
    let b = a.block.now in
    let a-most : byte b 4 ≤ 16 = omega (arith, c.if-byte-gt16.false, c.byte.ensures) in
    let b-most : byte b 5 ≤ 16 = omega (arith, c.if-byte-gt16-2.false, c.byte-2.ensures) in
    let no_room : length a.out.now < a.at + 855 = omega (arith, c.if-out-lt-LONGEST_LINE.true) in
    rw (le-ltb 16 (byte b 4) a-most, le-ltb 16 (byte b 5) b-most, lt-ltb (length a.out.now) (a.at + 855) no_room) (put-nothing _ _)

pub returns-then-out-at : goal.returns-then-out-at
returns-then-out-at c = let a = c.args in
    let b = a.block.now in
    let a-most : byte b 4 ≤ 16 = omega (arith, c.if-byte-gt16.false, c.byte.ensures) in
    let b-most : byte b 5 ≤ 16 = omega (arith, c.if-byte-gt16-2.false, c.byte-2.ensures) in
    let no_room : length a.out.now < a.at + 855 = omega (arith, c.if-out-at.true, c.if-out-lt-LONGEST_LINE.false) in
    rw (le-ltb 16 (byte b 4) a-most, le-ltb 16 (byte b 5) b-most, lt-ltb (length a.out.now) (a.at + 855) no_room) (put-nothing _ _)

pub put_line-requires : goal.put_line-requires
put_line-requires c = (
  omega (arith, c.if-out-at.false, c.if-out-lt-LONGEST_LINE.false),
  omega (arith, c.if-byte-gt16.false, c.byte.ensures),
  omega (arith, c.if-byte-gt16-2.false, c.byte-2.ensures),
)

pub returns : goal.returns
returns c = let a = c.args in
    let b = a.block.now in
    let a-most : byte b 4 ≤ 16 = omega (arith, c.if-byte-gt16.false, c.byte.ensures) in
    let b-most : byte b 5 ≤ 16 = omega (arith, c.if-byte-gt16-2.false, c.byte-2.ensures) in
    let fits : a.at + 855 ≤ length a.out.now = omega (arith, c.if-out-at.false, c.if-out-lt-LONGEST_LINE.false) in
    rw (le-ltb 16 (byte b 4) a-most, le-ltb 16 (byte b 5) b-most, le-ltb (length a.out.now) (a.at + 855) fits) (left c.put_line.ensures (search rules))
