-- The line that a part ends in, as it is kept. Assumes nothing.
use mathlib.Core.Path.{◌≡◌}
use mathlib.Core.List.{List}
use Prim.Native.Nat.{ℕ, ◌+◌, ◌≤◌, ◌<◌}
use native.Mathlib.Omega.{arith}
use native.Mathlib.Numerals.{add-one}
use borrow.Author.Tests.{lt-ltb, le-ltb}
use lib.ListN.{length, take, set, replicate}
use lib.Seq.{length-take-le, take-suc-set}
use Rattle.text.specs.Put.{pasted}
use Rattle.job_text.specs.Job.{longest_line}
use Rattle.pack_lines.specs.Pack.{longer, held, held_of}

pub hold-more : (l : List ℕ) (n x : ℕ) → length l ≡ longest_line → n < longest_line → take (n + 1) (set l n x) ≡ longer (take n l) x
hold-more l n x size small =
    let inside : n < length l = omega arith in
    let so_far : length (take n l) < longest_line = rw (length-take-le n l (omega arith)) small in
    rw (lt-ltb (length (take n l)) longest_line so_far, add-one n) (take-suc-set l n x inside)

pub hold-full : (l : List ℕ) (n x : ℕ) → length l ≡ longest_line → longest_line ≤ n → n ≤ longest_line → take n l ≡ longer (take n l) x
hold-full l n x size full most =
    let so_far : longest_line ≤ length (take n l) = rw (length-take-le n l (omega arith)) full in
    rw (le-ltb (length (take n l)) longest_line so_far)

pub kept-is : (l : List ℕ) {b : List ℕ} {n : ℕ} (lines : ℕ) → b ≡ pasted (replicate longest_line 0) 0 l → n ≡ 0 + length l → held b n lines ≡ held_of l lines
kept-is l {b} {n} lines bytes size =
    let same : n ≡ length l = omega arith in
    rw (bytes, same)
