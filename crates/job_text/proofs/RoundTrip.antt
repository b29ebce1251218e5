-- From block to line and back, and from line to block and back. Assumes nothing.
use Rattle.std.proofs.Common.{◌≡◌, ℕ, zero, suc, ◌+◌, ◌-◌, ◌*◌, ◌/◌, ◌%◌, ◌^◌, ◌<◌, ◌≤◌, Bool, true, false, cond, eqb, ltb, List, [], ◌∷◌, ◌++◌, length, get_or, take, drop, replicate, sym, refl, ap, ◌∙◌, mod-eq_of_lt, add-one, arith, take_all, drop-cons, get_or-append-add, take-add, ltb-false, ltb-true, le-ltb, lt-ltb, eqb-true, Ok}
use borrow.Author.Tests.{eqb-false}
use lib.ListN.{get_or-append}
use lib.Seq.{sets, sets-eq, get_or_at}
use Rattle.model.specs.Wire.{byte, word}
use Rattle.model.specs.Block.{job_of, block_of, sum_of_words, all_zero, checked_block}
use Rattle.wire.specs.Bytes.{word_bytes}
use Rattle.model.specs.Blocks.{is_good}
use Rattle.job_text.specs.Job as Job
use Rattle.job_text.specs.Job.{place_of, words_of, word_count, job_line, plain_block, count_at, head_word, point_word, word_at, first_words, sum_of_first}
use Rattle.job_text.specs.Job.{block_from, most_numbers, numbers_of, block_for, is_job}
use Rattle.job_text.proofs.Read.{Bytes, word_below, fields_of, numbers-of-line}
use Rattle.job_text.proofs.Lines.{length-words}
use Rattle.job_text.proofs.Compared.{same-list, list_same}
use Rattle.block.proofs.Passed.{both_true, zero-byte}
use Rattle.job_text.proofs.Passed.{Passed, what-passed}

-- ---- the numbers in their places
words-at : (b : List ℕ) (n j : ℕ) → j < n → get_or (words_of b n) j 0 ≡ word b (place_of (byte b 4) j)
unfolding words_of
words-at b zero j inside = absurd (omega (arith, inside))
words-at b (suc n) j inside = go (ltb j n) refl (λ less. words-at b n j less)
  where
    w : ℕ
    w = word b (place_of (byte b 4) n)

    go : (t : Bool) → ltb j n ≡ t → (j < n → get_or (words_of b n) j 0 ≡ word b (place_of (byte b 4) j)) →
        get_or (words_of b n ++ (word b (place_of (byte b 4) n) ∷ [])) j 0 ≡ word b (place_of (byte b 4) j)
    go true f before =
        let less : j < n = ltb-true j n f in
        let short : j < length (words_of b n) = rw (length-words b n) less in
        get_or-append (words_of b n) (word b (place_of (byte b 4) n) ∷ []) 0 j short ∙ before less
    go false f before =
        let same : j ≡ n = omega (arith, ltb-false j n f, inside) in
        rw same (get_or_at (words_of b n) (word b (place_of (byte b 4) n)) [] 0 n (length-words b n))

stored_at : (fs : List ℕ) (k : ℕ) → length fs ≤ most_numbers → k < length fs → get_or (sets (replicate most_numbers 0) 0 fs) k 0 ≡ get_or fs k 0
stored_at fs k short inside =
    let zeros : List ℕ = replicate 91 0 in
    let room : 0 + length fs ≤ length zeros = omega arith in
    rw (sets-eq fs zeros 0 room) (get_or-append fs (drop (0 + length fs) zeros) 0 k inside)

-- a block whose numbers stand in their places
module _ (b ns : List ℕ) (p : Passed b) (stored : ns ≡ sets (replicate most_numbers 0) 0 (fields_of b)) where
  count : length (fields_of b) ≡ 27 + 2 * byte b 4 + 2 * byte b 5
  count = rw (length-words b (word_count b)) (omega arith)

  at : (k : ℕ) → k < 27 + 2 * byte b 4 + 2 * byte b 5 → get_or ns k 0 ≡ get_or (fields_of b) k 0
  at k inside =
      let short : length (fields_of b) ≤ 91 = omega (arith, count, p.count-a, p.count-b) in
      let within : k < length (fields_of b) = omega (arith, count) in
      rw stored (stored_at (fields_of b) k short within)

  job-at : get_or ns 0 0 ≡ job_of b
  job-at = at 0 (omega arith)

  count-a-at : count_at ns 1 ≡ byte b 4
  count-a-at = rw (at 1 (omega arith), le-ltb 16 (byte b 4) p.count-a)

  count-b-at : count_at ns 2 ≡ byte b 5
  count-b-at = rw (at 2 (omega arith), le-ltb 16 (byte b 5) p.count-b)

  word_of : (j : ℕ) → j < word_count b → get_or ns (3 + j) 0 ≡ word b (place_of (byte b 4) j)
  word_of j inside =
      at (3 + j) (omega arith) ∙ get_or-append-add (job_of b ∷ byte b 4 ∷ byte b 5 ∷ []) (words_of b (word_count b)) j 0 ∙ words-at b (word_count b) j inside

  -- a word that must be zero
  zero_word : (k n m : ℕ) → all_zero b k n ≡ true → k ≤ m → m + 4 ≤ k + n → word b m ≡ 0
  unfolding word
  zero_word k n m zeros from to =
      let z : (i : ℕ) → m ≤ i → i < m + 4 → byte b i ≡ 0 = λ i low high.
      (let same : k + (i - k) ≡ i = omega (arith, low, from) in rw same at (zero-byte b k n (i - k) zeros (omega (arith, low, high, from, to)))) in
      omega (
        arith,
        z m (omega arith) (omega arith),
        z (m + 1) (omega arith) (omega arith),
        z (m + 2) (omega arith) (omega arith),
        z (m + 3) (omega arith)
            (omega arith),
      )

  counts-word : byte b 4 + 256 * byte b 5 ≡ word b 4
  unfolding word
  counts-word = omega (arith, p.form, p.after-form)

  head_at : (i : ℕ) → i < 26 → head_word ns i ≡ word b (4 * i)
  head_at i inside = first (eqb i 0) refl
    where
      later : (t : Bool) → eqb i 1 ≡ t → (i ≡ 0 → ⊥) → cond t (count_at ns 1 + 256 * count_at ns 2) (get_or ns (i + 1) 0) ≡ word b (4 * i)
      later true e some = let one : i ≡ 1 = eqb-true i 1 e in rw (one, count-a-at, count-b-at) counts-word
      later false e some =
          let less : i - 2 < 24 = omega arith in
          let not-one : i ≡ 1 → ⊥ = eqb-false i 1 e in
          let two : 2 ≤ i = two-least i some not-one in
          let here : 3 + (i - 2) ≡ i + 1 = omega arith in
          let place : 8 + 4 * (i - 2) ≡ 4 * i = omega arith in
          rw here at (word_of (i - 2) (omega arith)) ∙ rw (lt-ltb (i - 2) 24 less, place)
        where
          two-least : (n : ℕ) → (n ≡ 0 → ⊥) → (n ≡ 1 → ⊥) → 2 ≤ n
          two-least zero a c = absurd (a refl)
          two-least (suc zero) a c = absurd (c refl)
          two-least (suc (suc n)) a c = omega arith

      first : (t : Bool) → eqb i 0 ≡ t → cond t (get_or ns 0 0) (cond (eqb i 1) (count_at ns 1 + 256 * count_at ns 2) (get_or ns (i + 1) 0)) ≡ word b (4 * i)
      first true e = let none : i ≡ 0 = eqb-true i 0 e in rw (none, job-at)
      first false e = later (eqb i 1) refl (eqb-false i 0 e)

  points-a-at : (i : ℕ) → 26 ≤ i → i < 58 → point_word ns (i - 26) (2 * count_at ns 1) 27 ≡ word b (4 * i)
  points-a-at i low high = rw count-a-at (go (ltb (i - 26) (2 * byte b 4)) refl)
    where
      go : (t : Bool) → ltb (i - 26) (2 * byte b 4) ≡ t → cond t (get_or ns (27 + (i - 26)) 0) 0 ≡ word b (4 * i)
      go true e =
          let less : i - 26 < 2 * byte b 4 = ltb-true (i - 26) (2 * byte b 4) e in
          let here : 3 + (i - 2) ≡ 27 + (i - 26) = omega arith in
          let not-head : 24 ≤ i - 2 = omega arith in
          let of-a : i - 2 < 24 + 2 * byte b 4 = omega arith in
          let place : 104 + 4 * (i - 2 - 24) ≡ 4 * i = omega arith in
          rw here at (word_of (i - 2) (omega arith)) ∙ rw (le-ltb (i - 2) 24 not-head, lt-ltb (i - 2) (24 + 2 * byte b 4) of-a, place)
      go false e =
          let most : 2 * byte b 4 ≤ i - 26 = ltb-false (i - 26) (2 * byte b 4) e in
          sym (zero_word (104 + 8 * byte b 4) (128 - 8 * byte b 4) (4 * i) p.zeros-a (omega arith) (omega (arith, p.count-a)))

  points-b-at : (i : ℕ) → 58 ≤ i → i < 127 → point_word ns (i - 58) (2 * count_at ns 2) (27 + 2 * count_at ns 1) ≡ word b (4 * i)
  points-b-at i low high = rw (count-a-at, count-b-at) (go (ltb (i - 58) (2 * byte b 5)) refl)
    where
      go : (t : Bool) → ltb (i - 58) (2 * byte b 5) ≡ t → cond t (get_or ns (27 + 2 * byte b 4 + (i - 58)) 0) 0 ≡ word b (4 * i)
      go true e =
          let less : i - 58 < 2 * byte b 5 = ltb-true (i - 58) (2 * byte b 5) e in
          let j = 24 + 2 * byte b 4 + (i - 58) in
          let here : 3 + (24 + 2 * byte b 4 + (i - 58)) ≡ 27 + 2 * byte b 4 + (i - 58) = omega arith in
          let not-head : 24 ≤ 24 + 2 * byte b 4 + (i - 58) = omega arith in
          let of-b : 24 + 2 * byte b 4 ≤ 24 + 2 * byte b 4 + (i - 58) = omega arith in
          let place : 232 + 4 * (24 + 2 * byte b 4 + (i - 58) - (24 + 2 * byte b 4)) ≡ 4 * i = omega arith in
          rw here at (word_of j (omega arith)) ∙ rw (le-ltb j 24 not-head, le-ltb j (24 + 2 * byte b 4) of-b, place)
      go false e =
          let most : 2 * byte b 5 ≤ i - 58 = ltb-false (i - 58) (2 * byte b 5) e in
          sym (zero_word (232 + 8 * byte b 5) (276 - 8 * byte b 5) (4 * i) p.zeros-b (omega arith) (omega (arith, p.count-b)))

  same_word : (i : ℕ) → i < 127 → word_at ns i ≡ word b (4 * i)
  unfolding word_at
  same_word i inside = go (ltb i 26) (ltb i 58) refl refl
    where
      go : (s t : Bool) → ltb i 26 ≡ s → ltb i 58 ≡ t →
          cond s (head_word ns i) (cond t (point_word ns (i - 26) (2 * count_at ns 1) 27) (point_word ns (i - 58) (2 * count_at ns 2) (27 + 2 * count_at ns 1)))
          ≡ word b (4 * i)
      go true t e f = head_at i (ltb-true i 26 e)
      go false true e f = points-a-at i (ltb-false i 26 e) (ltb-true i 58 f)
      go false false e f = points-b-at i (ltb-false i 58 f) inside

  same_sum : (n : ℕ) → n ≤ 127 → sum_of_first ns n ≡ sum_of_words b n
  unfolding sum_of_first sum_of_words
  same_sum zero inside = refl
  same_sum (suc n) inside = rw (same_sum n (omega (arith, inside)), same_word n (omega (arith, inside)))

-- ---- bytes and words
low : (x r : ℕ) → x < 256 → (x + r * 256) % 256 ≡ x
low x r small = omega arith

high-1 : (x r : ℕ) → x < 256 → (x + r * 256) / 256 ≡ r
high-1 x r small = omega arith

high-2 : (x r : ℕ) → x < 65536 → (x + r * 65536) / 65536 ≡ r
high-2 x r small = omega arith

high-3 : (x r : ℕ) → x < 16777216 → (x + r * 16777216) / 16777216 ≡ r
high-3 x r small = omega arith

-- four bytes make a word, and are its bytes again
bytes-again : (p q r s : ℕ) → p < 256 → q < 256 → r < 256 → s < 256 → word_bytes (p + q * 256 + r * 65536 + s * 16777216) ≡ p ∷ q ∷ r ∷ s ∷ []
bytes-again p q r s hp hq hr hs =
    let w = p + q * 256 + r * 65536 + s * 16777216 in
    let e₁ : w ≡ p + (q + (r + s * 256) * 256) * 256 = omega arith in
    let e₂ : w ≡ p + q * 256 + (r + s * 256) * 65536 = omega arith in
    let e₃ : w ≡ p + q * 256 + r * 65536 + s * 16777216 = refl in
    let b₀ : w % 256 ≡ p = ap (λ (n : ℕ). n % 256) e₁ ∙ low p (q + (r + s * 256) * 256) hp in
    let b₁ : w / 256 % 256 ≡ q =
    ap (λ (n : ℕ). n / 256 % 256) e₁ ∙ ap (λ (n : ℕ). n % 256) (high-1 p (q + (r + s * 256) * 256) hp) ∙ low q (r + s * 256) hq in
    let b₂ : w / 65536 % 256 ≡ r = ap (λ (n : ℕ). n / 65536 % 256) e₂ ∙ ap (λ (n : ℕ). n % 256) (high-2 (p + q * 256) (r + s * 256) (omega arith))
    ∙ low r s hr in
    let b₃ : w / 16777216 % 256 ≡ s = ap (λ (n : ℕ). n % 256) (high-3 (p + q * 256 + r * 65536) s (omega arith)) ∙ mod-eq_of_lt hs in
    rw (b₀, b₁, b₂, b₃)

four : (b : List ℕ) (k : ℕ) → k + 4 ≤ length b → take 4 (drop k b) ≡ byte b k ∷ byte b (k + 1) ∷ byte b (k + 2) ∷ byte b (k + 3) ∷ []
four b k inside =
    let one : (i : ℕ) → i < length b → drop i b ≡ byte b i ∷ drop (i + 1) b = λ i within. rw (add-one i) (drop-cons b i 0 within) in
    let e₁ : k + 1 + 1 ≡ k + 2 = omega arith in
    let e₂ : k + 2 + 1 ≡ k + 3 = omega arith in
    let d₁ : drop (k + 1) b ≡ byte b (k + 1) ∷ drop (k + 2) b = rw e₁ at (one (k + 1) (omega arith)) in
    let d₂ : drop (k + 2) b ≡ byte b (k + 2) ∷ drop (k + 3) b = rw e₂ at (one (k + 2) (omega arith)) in
    let d₃ = one (k + 3) (omega arith) in
    ap (take 4)
    (one k (omega arith) ∙ ap (λ (l : List ℕ). byte b k ∷ l) d₁ ∙ ap (λ (l : List ℕ). byte b k ∷ byte b (k + 1) ∷ l) d₂
    ∙ ap (λ (l : List ℕ). byte b k ∷ byte b (k + 1) ∷ byte b (k + 2) ∷ l) d₃)

four_bytes : (b : List ℕ) (k : ℕ) → Bytes b → k + 4 ≤ length b → word_bytes (word b k) ≡ take 4 (drop k b)
unfolding word
four_bytes b k h inside =
    bytes-again (byte b k) (byte b (k + 1)) (byte b (k + 2)) (byte b (k + 3)) (h k) (h (k + 1)) (h (k + 2)) (h (k + 3)) ∙ sym (four b k inside)

check-word : (s w : ℕ) → (s + w) % 4294967296 ≡ 4294967295 → w < 4294967296 → 4294967295 - s % 4294967296 ≡ w
check-word s w sum small = omega arith

module _ (b ns : List ℕ) (size : length b ≡ 512) (h : Bytes b) (p : Passed b) (stored : ns ≡ sets (replicate most_numbers 0) 0 (fields_of b)) where
  same_start : (n : ℕ) → n ≤ 127 → first_words ns n ≡ take (4 * n) b
  unfolding first_words
  same_start zero inside = refl
  same_start (suc n) inside =
      let more : 4 * suc n ≡ 4 * n + 4 = omega arith in
      rw (more, take-add (4 * n) 4 b, same_start n (omega (arith, inside)), same_word b ns p stored n (omega (arith, inside)))
      (ap (λ (l : List ℕ). take (4 * n) b ++ l) (four_bytes b (4 * n) h (omega (arith, inside))))

  same_check : 4294967295 - sum_of_first ns 127 % 2 ^ 32 ≡ word b 508
  unfolding sum_of_words
  same_check =
      rw (same_sum b ns p stored 127 (omega arith)) (check-word (sum_of_words b 127) (word b 508) p.sum (word_below b 508 h))

  same_block : block_from ns ≡ b
  unfolding block_from
  same_block =
      let all : length b ≤ 512 = omega arith in
      rw (same_check, same_start 127 (omega arith), four_bytes b 508 h (omega arith)) (sym (take-add 508 4 b) ∙ take_all 512 b all)

-- ---- the promises
-- a block that is_good, to text and back
pub block-text-block : (b : List ℕ) → length b ≡ 512 → Bytes b → is_good (plain_block b) ≡ true → block_for (job_line b) ≡ b
unfolding block_for
block-text-block b size h e = same_block b (numbers_of (job_line b)) size h (what-passed b e) (numbers-of-line b h)

pub its-line-is-a-job : (b : List ℕ) → length b ≡ 512 → Bytes b → is_good (plain_block b) ≡ true → is_job (job_line b) ≡ true
unfolding is_job
its-line-is-a-job b size h e = rw (block-text-block b size h e, e) (list_same (job_line b))

-- a job's line, to a block and back
pub line-block-line : (l : List ℕ) → is_job l ≡ true → job_line (block_for l) ≡ l
unfolding is_job
line-block-line l e = same-list (job_line (block_for l)) l (both_true (is_good (plain_block (block_for l))) (Job.same (job_line (block_for l)) l) e).1

-- the block of a job is_good, and `sheet` reads it as the job whose fields the line has
pub job-accepted : (l : List ℕ) → is_job l ≡ true → checked_block (block_for l) ≡ Ok (block_of (block_for l))
unfolding is_job
job-accepted l e = (what-passed (block_for l) (both_true (is_good (plain_block (block_for l))) (Job.same (job_line (block_for l)) l) e).0).accepted

-- ---- by its bits
word-is-bytes : (w : ℕ) → Bytes (word_bytes w)
word-is-bytes w zero = omega arith
word-is-bytes w (suc zero) = omega arith
word-is-bytes w (suc (suc zero)) = omega arith
word-is-bytes w (suc (suc (suc zero))) = omega arith
word-is-bytes w (suc (suc (suc (suc k)))) = omega arith

bytes-then : (xs ys : List ℕ) → Bytes xs → Bytes ys → Bytes (xs ++ ys)
bytes-then [] ys h g k = g k
bytes-then (x ∷ xs) ys h g zero = h 0
bytes-then (x ∷ xs) ys h g (suc k) = bytes-then xs ys (λ i. h (suc i)) g k

words-are-bytes : (ns : List ℕ) (n : ℕ) → Bytes (first_words ns n)
unfolding first_words
words-are-bytes ns zero k = omega arith
words-are-bytes ns (suc n) k = bytes-then (first_words ns n) (word_bytes (word_at ns n)) (words-are-bytes ns n) (word-is-bytes (word_at ns n)) k

block-is-bytes : (ns : List ℕ) → Bytes (block_from ns)
unfolding block_from
block-is-bytes ns =
    bytes-then (first_words ns 127) (word_bytes (4294967295 - sum_of_first ns 127 % 2 ^ 32)) (words-are-bytes ns 127)
    (word-is-bytes (4294967295 - sum_of_first ns 127 % 2 ^ 32))

-- the numbers that a job's line has are its block's, each in its place: job, counts, and the words that `sheet` takes for its floats
built-is-bytes : (l : List ℕ) → Bytes (block_for l)
unfolding block_for
built-is-bytes l = block-is-bytes (numbers_of l)

pub job-by-its-bits : (l : List ℕ) → is_job l ≡ true → numbers_of l ≡ sets (replicate most_numbers 0) 0 (fields_of (block_for l))
job-by-its-bits l e = ap numbers_of (sym (line-block-line l e)) ∙ numbers-of-line (block_for l) (built-is-bytes l)
