-- The numbers read from the line of a block are the block's. Assumes nothing.
use Rattle.std.proofs.Common.{◌≡◌, ℕ, zero, suc, ◌+◌, ◌<◌, true, false, ltb, List, [], ◌∷◌, ◌++◌, length, set, replicate, sym, refl, ap, ◌∙◌, arith, le-ltb, lt-ltb}
use lib.Seq.{sets}
use Rattle.model.specs.Wire.{byte, word}
use Rattle.model.specs.Block.{job_of}
use Rattle.model.specs.Text.{decimal, hex_by, line}
use Rattle.text.specs.Read.{stored}
use Rattle.text.proofs.ReadBack.{stored-number, decimal-digits, decimal-value, hex-digits, hex-value}
use Rattle.job_text.proofs.Lines.{length-words, line-is}
use Rattle.job_text.specs.Job.{place_of, words_of, word_count, hexes, job_line, most_numbers, numbers_of}

-- every byte of a list is one
abbrev pub Bytes : List ℕ → Type 0
Bytes b = (k : ℕ) → byte b k < 256

pub word_below : (b : List ℕ) (k : ℕ) → Bytes b → word b k < 4294967296
unfolding word
word_below b k h = omega (arith, h k, h (k + 1), h (k + 2), h (k + 3))

-- every word of a list fits in 32 bits
unfoldable pub Words : List ℕ → Type 0
Words [] = Unit {0}
Words (w ∷ ws) = (w < 4294967296) × Words ws

words-then : (xs : List ℕ) (w : ℕ) → Words xs → w < 4294967296 → Words (xs ++ (w ∷ []))
unfolding Words
words-then [] w h g = (g, tt)
words-then (x ∷ xs) w h g = (h.0, words-then xs w h.1 g)

pub words-of-below : (b : List ℕ) (n : ℕ) → Bytes b → Words (words_of b n)
unfolding words_of Words
words-of-below b zero h = tt
words-of-below b (suc n) h = words-then (words_of b n) (word b (place_of (byte b 4) n)) (words-of-below b n h) (word_below b (place_of (byte b 4) n) h)

-- ---- a field of each kind
hex-field : (k w : ℕ) (words : List ℕ) (end : ℕ) (rest : List ℕ) → w < 4294967296 → end < 48 →
    stored 3 (3 + k) 0 words (hex_by 8 w ++ (end ∷ rest)) ≡ stored 3 (4 + k) 0 (set words (3 + k) w) rest
hex-field k w words end rest small low =
    let base : ltb (3 + k) 3 ≡ false = le-ltb (3 + k) 3 (omega arith) in
    let next : 3 + k + 1 ≡ 4 + k = omega arith in
    stored-number 3 (3 + k) 0 words (hex_by 8 w) end rest (hex-digits 8 w) low ∙ rw (base, hex-value 8 w small small, next)

decimal-field : (k n : ℕ) (words : List ℕ) (rest : List ℕ) → k < 3 → n < 4294967296 →
    stored 3 k 0 words (decimal n ++ (32 ∷ rest)) ≡ stored 3 (k + 1) 0 (set words k n) rest
decimal-field k n words rest first small =
    let base : ltb k 3 ≡ true = lt-ltb k 3 first in
    stored-number 3 k 0 words (decimal n) 32 rest (decimal-digits 20 n) (omega arith) ∙ rw (base, decimal-value 20 n (omega arith) small)

-- ---- the words of a line
nothing : (k : ℕ) (words : List ℕ) → stored 3 k 0 words [] ≡ words
unfolding stored
nothing k words = refl

hex-line : (k : ℕ) (words : List ℕ) (w : ℕ) (ws : List ℕ) → w < 4294967296 → Words ws →
    stored 3 (3 + k) 0 words (line (hexes (w ∷ ws))) ≡ sets words (3 + k) (w ∷ ws)
unfolding line hexes Words
hex-line k words w [] small h = hex-field k w words 10 [] small (omega arith) ∙ nothing (4 + k) (set words (3 + k) w)
hex-line k words w (v ∷ ws) small h =
    let next : 3 + (k + 1) ≡ 4 + k = omega arith in
    let later : suc (3 + k) ≡ 4 + k = omega arith in
    hex-field k w words 32 (line (hexes (v ∷ ws))) small (omega arith)
    ∙ rw next at (hex-line (k + 1) (set words (3 + k) w) v ws h.0 h.1)
    ∙ ap (λ (i : ℕ). sets (set words (3 + k) w) i (v ∷ ws)) (sym later)

some_words : (words ws : List ℕ) → 0 < length ws → Words ws → stored 3 3 0 words (line (hexes ws)) ≡ sets words 3 ws
unfolding Words
some_words words [] some h = absurd (omega (arith, some))
some_words words (w ∷ ws) some h = hex-line 0 words w ws h.0 h.1

-- ---- the numbers of a line, in their order
abbrev pub fields_of : List ℕ → List ℕ
fields_of b = job_of b ∷ byte b 4 ∷ byte b 5 ∷ words_of b (word_count b)

pub numbers-of-line : (b : List ℕ) → Bytes b → numbers_of (job_line b) ≡ sets (replicate most_numbers 0) 0 (fields_of b)
unfolding job_line
numbers-of-line b h =
    let zeros : List ℕ = replicate 91 0 in
    let ws = words_of b (word_count b) in
    let some : 0 < length ws = rw (length-words b (word_count b)) (omega arith) in
    let job = job_of b in
    ap (stored 3 0 0 zeros) (line-is (decimal job) (decimal (byte b 4)) (decimal (byte b 5)) ws some)
    ∙ decimal-field 0 job zeros (decimal (byte b 4) ++ (32 ∷ (decimal (byte b 5) ++ (32 ∷ line (hexes ws))))) (omega arith) (word_below b 0 h)
    ∙ decimal-field 1 (byte b 4) (set zeros 0 job) (decimal (byte b 5) ++ (32 ∷ line (hexes ws))) (omega arith) (omega (arith, h 4))
    ∙ decimal-field 2 (byte b 5) (set (set zeros 0 job) 1 (byte b 4)) (line (hexes ws)) (omega arith) (omega (arith, h 5))
    ∙ some_words (set (set (set zeros 0 job) 1 (byte b 4)) 2 (byte b 5)) ws some (words-of-below b (word_count b) h)
