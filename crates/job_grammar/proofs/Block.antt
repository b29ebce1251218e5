-- The block built from the numbers of a job has them in their places, and passes. Assumes nothing.
use Rattle.std.proofs.Common.{Ok}
use mathlib.Core.Path.{◌≡◌, refl, sym, ap, ◌∙◌}
use mathlib.Core.Bool.{Bool, true, false, not, ◌&&◌, ◌||◌, cond}
use mathlib.Core.List.{List, [], ◌∷◌, ◌++◌}
use Prim.Native.Nat.{ℕ, zero, suc, ◌+◌, ◌-◌, ◌*◌, ◌/◌, ◌%◌, ◌^◌, ◌≤◌, ◌<◌}
use native.Mathlib.Omega.{arith}
use native.Mathlib.Nat.{div-div-eq-div-mul, mod-eq_of_lt, mod-add-div'}
use native.Mathlib.Numerals.{add-one}
use borrow.Author.Tests.{lt-ltb, le-ltb, ltb-true, ltb-false, eq-eqb, ne_eqb}
use lib.Dec.{eqb, ltb}
use lib.ListN.{length, take, get_or, get_or-append, get_or-eq_default}
use lib.Seq.{get_or-append-add, take-suc, take_all}
use Rattle.model.specs.Wire.{byte, word}
use Rattle.model.specs.Block.{job_of, block_of, sum_of_words, weighed_words, all_zero, bad_count, checked_block}
use Rattle.model.specs.Blocks.{is_good}
use Rattle.wire.specs.Bytes.{word_bytes}
use Rattle.block.proofs.Passed.{passed-good}
use Rattle.model.specs.Text.{decimal, line}
use Rattle.job_text.specs.Job.{place_of, words_of, word_count, hexes, job_line, word_at, first_words, sum_of_first, block_from, block_for, plain_block, is_job}
use Rattle.job_text.proofs.BlockBuilt.{length-first, length-block}
use Rattle.job_text.proofs.Read.{Bytes}
use Rattle.job_text.proofs.RoundTrip.{its-line-is-a-job, block-text-block}

-- ---- the bytes of a built block
first-at : (ns : List ℕ) (n i k : ℕ) → i < n → k < 4 → get_or (first_words ns n) (4 * i + k) 0 ≡ get_or (word_bytes (word_at ns i)) k 0
unfolding first_words
first-at ns zero i k inside few = absurd (omega (arith, inside))
first-at ns (suc n) i k inside few = go (ltb i n) refl (λ less. first-at ns n i k less few)
  where
    go : (t : Bool) → ltb i n ≡ t → (i < n → get_or (first_words ns n) (4 * i + k) 0 ≡ get_or (word_bytes (word_at ns i)) k 0)
        → get_or (first_words ns n ++ word_bytes (word_at ns n)) (4 * i + k) 0 ≡ get_or (word_bytes (word_at ns i)) k 0
    go true e before =
        let less : i < n = ltb-true i n e in
        let short : 4 * i + k < length (first_words ns n) = rw (length-first ns n) (omega arith) in
        get_or-append (first_words ns n) (word_bytes (word_at ns n)) 0 (4 * i + k) short ∙ before less
    go false e before =
        let same : i ≡ n = omega (arith, ltb-false i n e, inside) in
        let place : 4 * i + k ≡ length (first_words ns n) + k = rw (length-first ns n) (omega arith) in
        rw place (get_or-append-add (first_words ns n) (word_bytes (word_at ns n)) k 0) ∙ ap (λ (m : ℕ). get_or (word_bytes (word_at ns m)) k 0) (sym same)

-- word i of the block, its check among them
abbrev word_of : List ℕ → ℕ → ℕ
word_of ns i = cond (ltb i 127) (word_at ns i) (4294967295 - sum_of_first ns 127 % 2 ^ 32)

byte_at : (ns : List ℕ) (i k : ℕ) → i < 128 → k < 4 → byte (block_from ns) (4 * i + k) ≡ get_or (word_bytes (word_of ns i)) k 0
unfolding block_from
byte_at ns i k inside few = go (ltb i 127) refl
  where
    go : (t : Bool) → ltb i 127 ≡ t
        → get_or (first_words ns 127 ++ word_bytes (4294967295 - sum_of_first ns 127 % 2 ^ 32)) (4 * i + k) 0
        ≡ get_or (word_bytes (cond t (word_at ns i) (4294967295 - sum_of_first ns 127 % 2 ^ 32))) k 0
    go true e =
        let less : i < 127 = ltb-true i 127 e in
        let short : 4 * i + k < length (first_words ns 127) = rw (length-first ns 127) (omega arith) in
        get_or-append (first_words ns 127) (word_bytes (4294967295 - sum_of_first ns 127 % 2 ^ 32)) 0 (4 * i + k) short ∙ first-at ns 127 i k less few
    go false e =
        let same : 4 * i + k ≡ 508 + k = omega (arith, ltb-false i 127 e) in
        let place : 508 + k ≡ length (first_words ns 127) + k = rw (length-first ns 127) in
        rw (same, place) (get_or-append-add (first_words ns 127) (word_bytes (4294967295 - sum_of_first ns 127 % 2 ^ 32)) k 0)

byte-of-word : (w k : ℕ) → get_or (word_bytes w) k 0 < 256
byte-of-word w zero = omega arith
byte-of-word w (suc zero) = omega arith
byte-of-word w (suc (suc zero)) = omega arith
byte-of-word w (suc (suc (suc zero))) = omega arith
byte-of-word w (suc (suc (suc (suc k)))) = omega arith

pub block-is-bytes : (ns : List ℕ) → Bytes (block_from ns)
block-is-bytes ns k = go (ltb k 512) refl
  where
    go : (t : Bool) → ltb k 512 ≡ t → byte (block_from ns) k < 256
    go true e =
        let inside : k < 512 = ltb-true k 512 e in
        let place : k ≡ 4 * (k / 4) + k % 4 = omega arith in
        rw (place, byte_at ns (k / 4) (k % 4) (omega arith) (omega arith)) (byte-of-word (word_of ns (k / 4)) (k % 4))
    go false e =
        let past : length (block_from ns) ≤ k = rw (length-block ns) (ltb-false k 512 e) in
        rw (get_or-eq_default (block_from ns) 0 past) (omega arith)

-- ---- its words
by_parts : (w q p t x y z : ℕ) → x + q * 256 ≡ w → y + p * 256 ≡ q → z + t * 256 ≡ p → x + y * 256 + z * 65536 + t * 16777216 ≡ w
by_parts w q p t x y z e f g = omega arith

bytes-make : (w : ℕ) → w < 4294967296 → w % 256 + w / 256 % 256 * 256 + w / 65536 % 256 * 65536 + w / 16777216 % 256 * 16777216 ≡ w
bytes-make w small =
    let two : w / 256 / 256 ≡ w / 65536 = div-div-eq-div-mul w 256 256 in
    let three : w / 65536 / 256 ≡ w / 16777216 = div-div-eq-div-mul w 65536 256 in
    let few : w / 16777216 < 256 = omega arith in
    rw (mod-eq_of_lt few)
    (by_parts w (w / 256) (w / 65536) (w / 16777216) (w % 256) (w / 256 % 256) (w / 65536 % 256) (mod-add-div' w 256) (rw two at (mod-add-div' (w / 256) 256))
    (rw three at (mod-add-div' (w / 65536) 256)))

any_word : (ns : List ℕ) (i : ℕ) → i < 128 → word_of ns i < 4294967296 → word (block_from ns) (4 * i) ≡ word_of ns i
unfolding word
any_word ns i inside small =
    let none : 4 * i ≡ 4 * i + 0 = omega arith in
    let first : byte (block_from ns) (4 * i) ≡ word_of ns i % 256 = ap (byte (block_from ns)) none ∙ byte_at ns i 0 inside (omega arith) in
    rw (first, byte_at ns i 1 inside (omega arith), byte_at ns i 2 inside (omega arith), byte_at ns i 3 inside (omega arith))
    (bytes-make (word_of ns i) small)

module _ (ns : List ℕ) (small : (k : ℕ) → get_or ns k 0 < 4294967296) where
  count_small : (k : ℕ) → cond (ltb 16 (get_or ns k 0)) 16 (get_or ns k 0) ≤ 16
  count_small k = go (ltb 16 (get_or ns k 0)) refl
    where
      go : (t : Bool) → ltb 16 (get_or ns k 0) ≡ t → cond t 16 (get_or ns k 0) ≤ 16
      go true e = omega arith
      go false e = ltb-false 16 (get_or ns k 0) e

  choice : (t : Bool) (m n : ℕ) → m < 4294967296 → n < 4294967296 → cond t m n < 4294967296
  choice true m n p q = p
  choice false m n p q = q

  word_small : (i : ℕ) → word_at ns i < 4294967296
  unfolding word_at
  word_small i =
      choice (ltb i 26) _ _
      (choice (eqb i 0) _ _ (small 0) (choice (eqb i 1) _ _ (omega (arith, count_small 1, count_small 2)) (small (i + 1))))
      (choice (ltb i 58) _ _ (choice (ltb (i - 26) _) _ _ (small _) (omega arith)) (choice (ltb (i - 58) _) _ _ (small _) (omega arith)))

  word-is : (i : ℕ) → i < 127 → word (block_from ns) (4 * i) ≡ word_at ns i
  word-is i inside = rw (lt-ltb i 127 inside) at (any_word ns i (omega arith) (rw (lt-ltb i 127 inside) (word_small i)))

  last_word : word (block_from ns) 508 ≡ 4294967295 - sum_of_first ns 127 % 2 ^ 32
  last_word = any_word ns 127 (omega arith) (omega arith)

  sum_is : (n : ℕ) → n ≤ 127 → sum_of_words (block_from ns) n ≡ sum_of_first ns n
  unfolding sum_of_words sum_of_first
  sum_is zero inside = refl
  sum_is (suc n) inside = rw (sum_is n (omega (arith, inside)), word-is n (omega (arith, inside)))

to-all-ones : (s : ℕ) → (s + (4294967295 - s % 4294967296)) % 4294967296 ≡ 4294967295
to-all-ones s = omega arith

-- ---- bytes that are zero
all-zero : (b : List ℕ) (k n : ℕ) → ((i : ℕ) → k ≤ i → i < k + n → byte b i ≡ 0) → all_zero b k n ≡ true
unfolding all_zero
all-zero b k zero h = refl
all-zero b k (suc n) h =
    rw (all-zero b k n (λ i low high. h i low (omega arith)), eq-eqb (byte b (k + n)) 0 (h (k + n) (omega arith) (omega arith)))

-- ---- a job, its counts and its words
pub record Fits (job a c : ℕ) (ws : List ℕ) : Type 0 where
  pub some-job : 1 ≤ job
  pub job-fits : job < 4294967296
  pub some-a : 1 ≤ a
  pub few-a : a ≤ 16
  pub some-c : 1 ≤ c
  pub few-c : c ≤ 16
  pub as_many : length ws ≡ 24 + 2 * a + 2 * c
  pub words-fit : (k : ℕ) → get_or ws k 0 < 4294967296

module _ (job a c : ℕ) (ws : List ℕ) (fits : Fits job a c ws) where
  abbrev numbers : List ℕ
  numbers = job ∷ a ∷ c ∷ ws

  fit : (k : ℕ) → get_or numbers k 0 < 4294967296
  fit zero = fits.job-fits
  fit (suc zero) = omega arith
  fit (suc (suc zero)) = omega arith
  fit (suc (suc (suc k))) = fits.words-fit k

  counts : word_at numbers 1 ≡ a + 256 * c
  unfolding word_at
  counts = rw (le-ltb 16 a fits.few-a, le-ltb 16 c fits.few-c)

  in-counts : (k : ℕ) → k < 4 → byte (block_from numbers) (4 + k) ≡ get_or (word_bytes (a + 256 * c)) k 0
  in-counts k few = byte_at numbers 1 k (omega arith) few ∙ ap (λ (w : ℕ). get_or (word_bytes w) k 0) counts

  job_is : job_of (block_from numbers) ≡ job
  unfolding word_at
  job_is = word-is numbers fit 0 (omega arith)

  a-is : byte (block_from numbers) 4 ≡ a
  a-is = in-counts 0 (omega arith) ∙ omega arith

  c-is : byte (block_from numbers) 5 ≡ c
  c-is = in-counts 1 (omega arith) ∙ omega arith

  form-is : byte (block_from numbers) 6 ≡ 0
  form-is = in-counts 2 (omega arith) ∙ omega arith

  after-form : byte (block_from numbers) 7 ≡ 0
  after-form = in-counts 3 (omega arith) ∙ omega arith

  -- word j of the line stands in its place
  word-here : (j : ℕ) → j < 24 + 2 * a + 2 * c → word (block_from numbers) (place_of a j) ≡ get_or ws j 0
  unfolding word_at
  word-here j inside = go (ltb j 24) (ltb j (24 + 2 * a)) refl refl
    where
      go : (s t : Bool) → ltb j 24 ≡ s → ltb j (24 + 2 * a) ≡ t
          → word (block_from numbers) (cond s (8 + 4 * j) (cond t (104 + 4 * (j - 24)) (232 + 4 * (j - (24 + 2 * a))))) ≡ get_or ws j 0
      go true t e f =
          let less : j < 24 = ltb-true j 24 e in
          let place : 8 + 4 * j ≡ 4 * (j + 2) = omega arith in
          let next : j + 2 + 1 ≡ suc (suc (suc j)) = omega arith in
          rw place
          (word-is numbers fit (j + 2) (omega arith)
          ∙ rw (lt-ltb (j + 2) 26 (omega arith), ne_eqb (j + 2) 0 (λ h. omega arith), ne_eqb (j + 2) 1 (λ h. omega arith), next))
      go false true e f =
          let most : 24 ≤ j = ltb-false j 24 e in
          let less : j < 24 + 2 * a = ltb-true j (24 + 2 * a) f in
          let place : 104 + 4 * (j - 24) ≡ 4 * (j + 2) = omega arith in
          let next : 27 + (j + 2 - 26) ≡ suc (suc (suc j)) = omega arith in
          rw place
          (word-is numbers fit (j + 2) (omega arith)
          ∙ rw (le-ltb (j + 2) 26 (omega arith), lt-ltb (j + 2) 58 (omega arith), le-ltb 16 a fits.few-a, lt-ltb (j + 2 - 26) (2 * a) (omega arith), next))
      go false false e f =
          let most : 24 + 2 * a ≤ j = ltb-false j (24 + 2 * a) f in
          let i = j - (24 + 2 * a) + 58 in
          let place : 232 + 4 * (j - (24 + 2 * a)) ≡ 4 * (j - (24 + 2 * a) + 58) = omega arith in
          let back : j - (24 + 2 * a) + 58 - 58 ≡ j - (24 + 2 * a) = omega arith in
          let next : 27 + 2 * a + (j - (24 + 2 * a)) ≡ suc (suc (suc j)) = omega arith in
          rw place
          (word-is numbers fit i (omega arith)
          ∙ rw (
            le-ltb i 26 (omega arith),
            le-ltb i 58 (omega arith),
            le-ltb 16 a fits.few-a,
            le-ltb 16 c fits.few-c,
            back,
            lt-ltb (j - (24 + 2 * a)) (2 * c) (omega arith),
            next,
          ))

  words_are : (n : ℕ) → n ≤ 24 + 2 * a + 2 * c → words_of (block_from numbers) n ≡ take n ws
  unfolding words_of
  words_are zero inside = refl
  words_are (suc n) inside =
      let less : n < length ws = omega (arith, fits.as_many, inside) in
      rw (words_are n (omega (arith, inside)), a-is, word-here n (omega (arith, inside))) (sym (take-suc ws n 0 less))

  -- ---- what must be zero
  zero-here : (i : ℕ) → i < 127 → word_at numbers i ≡ 0 → (k : ℕ) → k < 4 → byte (block_from numbers) (4 * i + k) ≡ 0
  zero-here i inside none k few =
      let same : word_of numbers i ≡ 0 = rw (lt-ltb i 127 inside) none in
      byte_at numbers i k (omega arith) few ∙ ap (λ (w : ℕ). get_or (word_bytes w) k 0) same ∙ zero-byte k few
    where
      zero-byte : (k : ℕ) → k < 4 → get_or (word_bytes 0) k 0 ≡ 0
      zero-byte zero few = refl
      zero-byte (suc zero) few = refl
      zero-byte (suc (suc zero)) few = refl
      zero-byte (suc (suc (suc zero))) few = refl
      zero-byte (suc (suc (suc (suc k)))) few = absurd (omega (arith, few))

  zero-byte-at : (m : ℕ) → m < 508 → word_at numbers (m / 4) ≡ 0 → byte (block_from numbers) m ≡ 0
  zero-byte-at m inside none =
      let place : m ≡ 4 * (m / 4) + m % 4 = omega arith in
      ap (byte (block_from numbers)) place ∙ zero-here (m / 4) (omega arith) none (m % 4) (omega arith)

  unused-a : (m : ℕ) → 104 + 8 * a ≤ m → m < 232 → byte (block_from numbers) m ≡ 0
  unfolding word_at
  unused-a m low high =
      zero-byte-at m (omega arith)
      (rw (le-ltb (m / 4) 26 (omega arith), lt-ltb (m / 4) 58 (omega arith), le-ltb 16 a fits.few-a, le-ltb (m / 4 - 26) (2 * a) (omega arith)))

  unused-c : (m : ℕ) → 232 + 8 * c ≤ m → m < 508 → byte (block_from numbers) m ≡ 0
  unfolding word_at
  unused-c m low high =
      zero-byte-at m (omega arith)
      (rw (le-ltb (m / 4) 26 (omega arith), le-ltb (m / 4) 58 (omega arith), le-ltb 16 c fits.few-c, le-ltb (m / 4 - 58) (2 * c) (omega arith)))

  -- ---- the block passes
  fair : (n : ℕ) → 1 ≤ n → n ≤ 16 → bad_count n ≡ false
  fair n some few = rw (ne_eqb n 0 (λ h. omega arith), le-ltb 16 n few)

  sum-holds : eqb ((sum_of_words (block_from numbers) 127 + word (block_from numbers) 508) % 2 ^ 32) 4294967295 ≡ true
  sum-holds =
      eq-eqb ((sum_of_words (block_from numbers) 127 + word (block_from numbers) 508) % 2 ^ 32) 4294967295
      (rw (sum_is numbers fit 127 (omega arith), last_word numbers fit) (to-all-ones (sum_of_first numbers 127)))

  zeros-a : all_zero (block_from numbers) (104 + 8 * a) (128 - 8 * a) ≡ true
  zeros-a = all-zero (block_from numbers) (104 + 8 * a) (128 - 8 * a) (λ m low high. unused-a m low (omega arith))

  zeros-c : all_zero (block_from numbers) (232 + 8 * c) (276 - 8 * c) ≡ true
  zeros-c = all-zero (block_from numbers) (232 + 8 * c) (276 - 8 * c) (λ m low high. unused-c m low (omega arith))

  accepted : checked_block (block_from numbers) ≡ Ok (block_of (block_from numbers))
  accepted =
      passed-good (block_from numbers)
      (record {
        known = rw form-is;
        holds = rw form-is sum-holds;
        fields =
            let fair-a = fair a fits.some-a fits.few-a in
            let fair-c = fair c fits.some-c fits.few-c in
            rw (job_is, a-is, c-is, after-form, ne_eqb job 0 (λ h. omega arith), fair-a, fair-c, zeros-a, zeros-c);
      })

  passes : is_good (plain_block (block_from numbers)) ≡ true
  unfolding plain_block
  passes = rw (form-is, accepted)

  -- ---- and its line is the one of its numbers
  all_words : words_of (block_from numbers) (24 + 2 * a + 2 * c) ≡ ws
  all_words =
      let all : length ws ≤ 24 + 2 * a + 2 * c = omega (arith, fits.as_many) in
      words_are (24 + 2 * a + 2 * c) (omega arith) ∙ take_all (24 + 2 * a + 2 * c) ws all

  its-line : job_line (block_from numbers) ≡ line (decimal job ∷ decimal a ∷ decimal c ∷ hexes ws)
  unfolding job_line
  its-line = rw (job_is, a-is, c-is, all_words)

  pub numbers-are-a-job : is_job (line (decimal job ∷ decimal a ∷ decimal c ∷ hexes ws)) ≡ true
  numbers-are-a-job = rw its-line at (its-line-is-a-job (block_from numbers) (length-block numbers) (block-is-bytes numbers) passes)

  -- the block of that line is this one, with what the line says
  pub record Holds (b : List ℕ) : Type 0 where
    pub job-held : job_of b ≡ job
    pub a-held : byte b 4 ≡ a
    pub c-held : byte b 5 ≡ c
    pub words-held : words_of b (word_count b) ≡ ws

  pub block-holds : Holds (block_for (line (decimal job ∷ decimal a ∷ decimal c ∷ hexes ws)))
  block-holds =
      let back : block_for (line (decimal job ∷ decimal a ∷ decimal c ∷ hexes ws)) ≡ block_from numbers =
      ap block_for (sym its-line) ∙ block-text-block (block_from numbers) (length-block numbers) (block-is-bytes numbers) passes in
      rw back (record { job-held = job_is; a-held = a-is; c-held = c-is; words-held = rw (a-is, c-is) all_words })
