-- Lines and refusals of blocks, one block more. Assumes nothing.
use Rattle.std.proofs.Common.{Result, Ok, Err}
use mathlib.Core.Path.{◌≡◌, refl, sym, ap, ◌∙◌}
use mathlib.Core.List.{List, [], ◌∷◌, ◌++◌, append_assoc, append-nil}
use Prim.Native.Nat.{ℕ, suc, ◌+◌, ◌-◌, ◌*◌, ◌≤◌}
use native.Mathlib.Omega.{arith}
use native.Mathlib.Numerals.{add-one}
use borrow.Author.Tests.{eq-eqb, le-ltb}
use lib.ListN.{length, take, drop, length-drop}
use lib.Seq.{length-take-le}
use Rattle.std.proofs.lemmas.List.{drop-take, take-take}
use Rattle.model.specs.declared.Block.{Block}
use Rattle.model.specs.declared.BlockRefusal.{BlockRefusal}
use Rattle.text.specs.Put.{Put}
use Rattle.text.proofs.Pasted.{put_then}
use Rattle.model.specs.Wire.{byte}
use Rattle.model.specs.Blocks.{whole_blocks, is_good}
use Rattle.model.proofs.Blocks.{blocks_more, blocks-counted}
use Rattle.job_text.specs.Job.{longest_line, line_for, job_line, plain_block}
use Rattle.job_text.specs.Room.{refusal_room}
use Rattle.unpack_blocks.specs.Unpack.{line_or, refusal_or, unpacked, refused, line_by, refusal_by, lines_of, refusals_of}
use Rattle.job_text.proofs.Lines.{length-job}
use Rattle.job_text.proofs.Passed.{what-passed}
use Rattle.job_text.proofs.Fitting.{length-refusal}

pub lines-append : (xs ys : List (List ℕ)) → lines_of (xs ++ ys) ≡ lines_of xs ++ lines_of ys
unfolding lines_of
lines-append [] ys = refl
lines-append (x ∷ xs) ys = rw (lines-append xs ys) (sym (append_assoc (line_by x) _ _))

pub refusals-append : (n : ℕ) (xs ys : List (List ℕ)) → refusals_of n (xs ++ ys) ≡ refusals_of n xs ++ refusals_of (n + length xs) ys
unfolding refusals_of
refusals-append n [] ys = let e : n + 0 ≡ n = omega arith in rw e
refusals-append n (x ∷ xs) ys =
    let e : n + 1 + length xs ≡ n + suc (length xs) = omega arith in
    rw (refusals-append (n + 1) xs ys, e) (sym (append_assoc (refusal_by (n + 1) x) _ _))

-- a block of the first bytes is one of all
pub front_block : (b : List ℕ) (i m : ℕ) → 512 * i + 512 ≤ m → take 512 (drop (512 * i) (take m b)) ≡ take 512 (drop (512 * i) b)
front_block b i m h =
    let rest = m - 512 * i in
    let e : 512 * i + rest ≡ m = omega (arith, h) in
    ap (λ (k : ℕ). take 512 (drop (512 * i) (take k b))) (sym e) ∙ ap (take 512) (drop-take (512 * i) rest b)
    ∙ take-take 512 rest (drop (512 * i) b) (omega (arith, h))

-- block i
module _ (b : List ℕ) (i : ℕ) (inside : 512 * i + 512 ≤ length b) where
  abbrev x : List ℕ
  x = take 512 (drop (512 * i) b)

  size : length x ≡ 512
  size = length-take-le 512 (drop (512 * i) b) (rw (length-drop (512 * i) b) (omega (arith, inside)))

  more : whole_blocks (i + 1) b ≡ whole_blocks i b ++ (x ∷ [])
  more = rw (add-one i) (blocks_more i b)

  one_line : lines_of (whole_blocks (i + 1) b) ≡ lines_of (whole_blocks i b) ++ unpacked x
  unfolding lines_of
  one_line = ap lines_of more ∙ lines-append (whole_blocks i b) (x ∷ []) ∙ rw (eq-eqb (length x) 512 size, append-nil (unpacked x))

  one-refusal : (before : ℕ) → refusals_of before (whole_blocks (i + 1) b) ≡ refusals_of before (whole_blocks i b) ++ refused (before + i + 1) x
  unfolding refusals_of
  one-refusal before =
      ap (refusals_of before) more ∙ refusals-append before (whole_blocks i b) (x ∷ [])
      ∙ rw (blocks-counted i b, eq-eqb (length x) 512 size, append-nil (refused (before + i + 1) x))

  pub lines_more : {d d₁ d₂ : List ℕ} {at e : ℕ} → Put d 0 (lines_of (whole_blocks i b)) d₁ at → Put d₁ at (unpacked x) d₂ e
      → Put d 0 (lines_of (whole_blocks (i + 1) b)) d₂ e
  lines_more p q = rw one_line (put_then (omega arith) p q)

  pub refusals-more : (before : ℕ) {d d₁ d₂ : List ℕ} {at e : ℕ} → Put d 0 (refusals_of before (whole_blocks i b)) d₁ at
      → Put d₁ at (refused (before + i + 1) x) d₂ e → Put d 0 (refusals_of before (whole_blocks (i + 1) b)) d₂ e
  refusals-more before p q = rw (one-refusal before) (put_then (omega arith) p q)

-- where the counts are those of outlines and there is room, the line is there
pub line-there : (b : List ℕ) (at room : ℕ) → byte b 4 ≤ 16 → byte b 5 ≤ 16 → at + longest_line ≤ room → line_for b at room ≡ job_line b
line-there b at room a-most b-most fits = rw (le-ltb 16 (byte b 4) a-most, le-ltb 16 (byte b 5) b-most, le-ltb room (at + longest_line) fits)

pub length-unpacked : (b : List ℕ) → length (unpacked b) ≤ longest_line
unfolding unpacked
length-unpacked b = go (plain_block b) refl
  where
    go : (k : Result Block BlockRefusal) → plain_block b ≡ k → length (line_or b k) ≤ longest_line
    go (Ok k) e = let p = what-passed b (ap is_good e) in length-job b p.count-a p.count-b
    go (Err r) e = omega arith

pub length-refused : (n : ℕ) (b : List ℕ) → length (refused n b) ≤ refusal_room
unfolding refused
length-refused n b = go (plain_block b)
  where
    go : (k : Result Block BlockRefusal) → length (refusal_or n k) ≤ refusal_room
    go (Ok k) = omega arith
    go (Err r) = length-refusal n r.number
