-- Each line's outcome is its own. Assumes nothing.
use mathlib.Core.Path.{◌≡◌, refl, sym, ap, ◌∙◌}
use mathlib.Core.Bool.{Bool, true, false, cond}
use mathlib.Core.List.{List, [], ◌∷◌, ◌++◌, append-nil, append_assoc}
use Prim.Native.Nat.{ℕ, ◌+◌, ◌*◌, ◌≤◌, ◌<◌}
use native.Mathlib.Omega.{arith}
use borrow.Author.Tests.{lt-ltb, le-ltb, ltb-true, ltb-false, ne_eqb}
use lib.Dec.{eqb, ltb}
use lib.ListN.{length, length-append}
use Rattle.model.specs.Wire.{byte, word}
use Rattle.model.specs.Text.{hex_by}
use Rattle.model.specs.Blocks.{is_good}
use Rattle.job_text.specs.Job as Job
use Rattle.job_text.specs.Job.{longest_line, place_of, words_of, job_line, plain_block, block_for, is_job}
use Rattle.job_text.specs.Pieces.{head_of, spaced}
use Rattle.pack_lines.specs.Pack.{Run, longer, line_ended, line_on, run_over}
use Rattle.job_text.proofs.Lines.{job-line-is, length-job}
use Rattle.block.proofs.Passed.{both_true}
use Rattle.job_text.proofs.Passed.{what-passed}
use Rattle.job_text.proofs.RoundTrip.{line-block-line}
use Rattle.pack_lines.proofs.Runs.{run-append}

-- ---- what is kept of a line
-- no byte of a list is a newline
unfoldable pub OneLine : List ℕ → Type 0
OneLine [] = Unit {0}
OneLine (x ∷ xs) = (x ≡ 10 → ⊥) × OneLine xs

unfoldable grown : List ℕ → List ℕ → List ℕ
grown l [] = l
grown l (x ∷ xs) = grown (longer l x) xs

run-grown : (r : Run) (l xs : List ℕ) → OneLine xs → run_over (line_on r l) xs ≡ line_on r (grown l xs)
unfolding run_over grown OneLine
run-grown r l [] h = refl
run-grown r l (x ∷ xs) h =
    let on : eqb x 10 ≡ false = ne_eqb x 10 h.0 in
    ap (λ (b : Bool). run_over (cond b (line_ended (line_on r l) (longer l x)) (line_on (line_on r l) (longer l x))) xs) on
    ∙ run-grown r (longer l x) xs h.1

longer-more : (l : List ℕ) (x : ℕ) → length l < longest_line → longer l x ≡ l ++ (x ∷ [])
longer-more l x short = rw (lt-ltb (length l) longest_line short)

longer-full : (l : List ℕ) (x : ℕ) → longest_line ≤ length l → longer l x ≡ l
longer-full l x full = rw (le-ltb (length l) longest_line full)

-- a line that fits is kept whole
grown-short : (l xs : List ℕ) → length l + length xs ≤ longest_line → grown l xs ≡ l ++ xs
unfolding grown
grown-short l [] fits = sym (append-nil l)
grown-short l (x ∷ xs) fits =
    let short : length l < longest_line = omega (arith, fits) in
    let more : length (l ++ (x ∷ [])) + length xs ≤ longest_line = omega (arith, fits, length-append l (x ∷ [])) in
    ap (λ (k : List ℕ). grown k xs) (longer-more l x short) ∙ grown-short (l ++ (x ∷ [])) xs more ∙ append_assoc l (x ∷ []) xs

-- one that does not fills the room, and has no newline
record Full (l : List ℕ) : Type 0 where
  pub size : length l ≡ longest_line
  pub one : OneLine l

one_more : (l : List ℕ) (x : ℕ) → OneLine l → (x ≡ 10 → ⊥) → OneLine (l ++ (x ∷ []))
unfolding OneLine
one_more [] x h n = (n, tt)
one_more (y ∷ l) x h n = (h.0, one_more l x h.1 n)

grown-full : (l xs : List ℕ) → OneLine l → OneLine xs → length l ≤ longest_line → longest_line ≤ length l + length xs → Full (grown l xs)
unfolding grown OneLine
grown-full l [] h g most least = record { size = omega (arith, most, least); one = h }
grown-full l (x ∷ xs) h g most least = go (ltb (length l) longest_line) refl (λ k o. grown-full k xs o g.1)
  where
    go : (t : Bool) → ltb (length l) longest_line ≡ t →
        ((k : List ℕ) → OneLine k → length k ≤ longest_line → longest_line ≤ length k + length xs → Full (grown k xs)) → Full (grown (longer l x) xs)
    go true e next =
        let short : length l < longest_line = ltb-true (length l) longest_line e in
        let size : length (l ++ (x ∷ [])) ≡ length l + 1 = length-append l (x ∷ []) in
        rw (longer-more l x short) (next (l ++ (x ∷ [])) (one_more l x h g.0) (omega arith) (omega (arith, least)))
    go false e next =
        let full : longest_line ≤ length l = ltb-false (length l) longest_line e in
        rw (longer-full l x full) (next l h most (omega arith))

-- ---- a job's line ends in a newline, and is short
last_of : (l : List ℕ) (x : ℕ) → OneLine (l ++ (x ∷ [])) → x ≡ 10 → ⊥
unfolding OneLine
last_of [] x h = h.0
last_of (y ∷ l) x h = last_of l x h.1

job-ends : (b l : List ℕ) → job_line b ≡ l → OneLine l → ⊥
job-ends b l e h =
    let last = 23 + 2 * byte b 4 + 2 * byte b 5 in
    let w = word b (place_of (byte b 4) last) in
    let start = head_of b ++ spaced (words_of b last) in
    let ends : l ≡ (start ++ hex_by 8 w) ++ (10 ∷ []) = sym e ∙ job-line-is b last (omega arith) ∙ sym (append_assoc start (hex_by 8 w) (10 ∷ [])) in
    last_of (start ++ hex_by 8 w) 10 (rw ends at h) refl

job-passes : (l : List ℕ) → is_job l ≡ true → is_good (plain_block (block_for l)) ≡ true
unfolding is_job
job-passes l e = (both_true (is_good (plain_block (block_for l))) (Job.same (job_line (block_for l)) l) e).0

no-job-full : (l : List ℕ) → OneLine l → is_job l ≡ false
no-job-full l one = go (is_job l) refl
  where
    go : (t : Bool) → is_job l ≡ t → t ≡ false
    go false e = refl
    go true e = absurd (job-ends (block_for l) l (line-block-line l e) one)

no-job-long : (l : List ℕ) → longest_line < length l → is_job l ≡ false
no-job-long l long = go (is_job l) refl
  where
    go : (t : Bool) → is_job l ≡ t → t ≡ false
    go false e = refl
    go true e =
        let p = what-passed (block_for l) (job-passes l e) in
        absurd (omega (arith, long, length-job (block_for l) p.count-a p.count-b, ap length (line-block-line l e)))

none : OneLine []
unfolding OneLine
none = tt

newline : (r : Run) (l rest : List ℕ) → run_over (line_on r l) (10 ∷ rest) ≡ run_over (line_ended r (longer l 10)) rest
unfolding run_over
newline r l rest = refl

-- ---- one line
no-outcome : (r : Run) (l k : List ℕ) → is_job l ≡ false → is_job k ≡ false → line_ended r l ≡ line_ended r k
no-outcome r l k e f = rw (e, f)

one-outcome : (r : Run) (l : List ℕ) → OneLine l → line_ended r (longer (grown [] l) 10) ≡ line_ended r (l ++ (10 ∷ []))
one-outcome r l one = go (ltb (length l) longest_line) refl
  where
    size : length (l ++ (10 ∷ [])) ≡ length l + 1
    size = length-append l (10 ∷ [])

    go : (t : Bool) → ltb (length l) longest_line ≡ t → line_ended r (longer (grown [] l) 10) ≡ line_ended r (l ++ (10 ∷ []))
    go true e =
        let short : length l < longest_line = ltb-true (length l) longest_line e in
        ap (λ (k : List ℕ). line_ended r (longer k 10)) (grown-short [] l (omega arith)) ∙ ap (line_ended r) (longer-more l 10 short)
    go false e =
        let long : longest_line ≤ length l = ltb-false (length l) longest_line e in
        let f = grown-full [] l none one (omega arith) (omega arith) in
        let full : longest_line ≤ length (grown [] l) = omega (arith, f.size) in
        ap (line_ended r) (longer-full (grown [] l) 10 full)
        ∙ no-outcome r (grown [] l) (l ++ (10 ∷ [])) (no-job-full (grown [] l) f.one) (no-job-long (l ++ (10 ∷ [])) (omega (arith, size)))

-- between two lines a run takes the next line by itself, however long it is: what it adds is what that line is, and the line's number
pub line-alone : (r : Run) (l rest : List ℕ) → OneLine l → r.line ≡ [] → run_over r (l ++ (10 ∷ rest)) ≡ run_over (line_ended r (l ++ (10 ∷ []))) rest
line-alone r l rest one between =
    let kept : run_over r l ≡ line_on r (grown [] l) =
    ap (λ (k : List ℕ). run_over (line_on r k) l) between ∙ run-grown r [] l one in
    run-append r l (10 ∷ rest) ∙ ap (λ (s : Run). run_over s (10 ∷ rest)) kept ∙ newline r (grown [] l) rest
    ∙ ap (λ (s : Run). run_over s rest) (one-outcome r l one)
