-- A job's line, piece by piece. Assumes nothing.
use Rattle.std.proofs.Common.{◌≡◌, ℕ, zero, suc, ◌+◌, ◌*◌, ◌<◌, ◌≤◌, List, [], ◌∷◌, ◌++◌, length, sym, refl, ap, ◌∙◌, append_assoc, append-nil, add-one, arith, length-append}
use Rattle.model.specs.Wire.{byte, word}
use Rattle.model.specs.Text.{decimal, hex_by, line}
use Rattle.model.specs.Block.{job_of}
use Rattle.text.specs.declared.draft.Draft.{Draft}
use Rattle.text.specs.Put.{number, hex}
use Rattle.text.specs.Written.{Wrote}
use Rattle.text.proofs.Written.{wrote-then}
use Rattle.text.proofs.Lengths.{length-number, length-hex}
use Rattle.job_text.specs.Job.{place_of, words_of, word_count, hexes, job_line}
use Rattle.job_text.specs.Pieces.{head_of, spaced}

spaced-more : (ws : List ℕ) (w : ℕ) → spaced (ws ++ (w ∷ [])) ≡ spaced ws ++ hex w 32
unfolding spaced
spaced-more [] w = append-nil (hex w 32)
spaced-more (v ∷ ws) w = rw (spaced-more ws w) (sym (append_assoc (hex v 32) (spaced ws) (hex w 32)))

pub fields-more : (b : List ℕ) (j : ℕ) {k m : ℕ} {p q r : Draft} → p.at ≤ length p.bytes.now → Wrote k p (spaced (words_of b j)) q →
    Wrote m q (hex (word b (place_of (byte b 4) j)) 32) r → Wrote (k + m) p (spaced (words_of b (j + 1))) r
unfolding words_of
fields-more b j inside v w = rw (add-one j, spaced-more (words_of b j) (word b (place_of (byte b 4) j))) (wrote-then inside v w)

-- the words of a line but the last, and the last
words-line : (ws : List ℕ) (w : ℕ) → line (hexes (ws ++ (w ∷ []))) ≡ spaced ws ++ hex w 10
unfolding line hexes spaced
words-line [] w = refl
words-line (v ∷ []) w = sym (append_assoc (hex_by 8 v) (32 ∷ []) (hex w 10)) ∙ ap (λ (l : List ℕ). l ++ hex w 10) (sym (append-nil (hex v 32)))
words-line (v ∷ u ∷ ws) w =
    ap (λ (l : List ℕ). hex_by 8 v ++ (32 ∷ l)) (words-line (u ∷ ws) w)
    ∙ sym (append_assoc (hex_by 8 v) (32 ∷ []) (spaced (u ∷ ws) ++ hex w 10))
    ∙ sym (append_assoc (hex v 32) (spaced (u ∷ ws)) (hex w 10))

-- ---- the whole line
line-words : (x : List ℕ) (ws : List ℕ) → 0 < length ws → line (x ∷ hexes ws) ≡ x ++ (32 ∷ line (hexes ws))
unfolding line hexes
line-words x [] some = absurd (omega (arith, some))
line-words x (w ∷ ws) some = refl

pub line-is : (a b c : List ℕ) (ws : List ℕ) → 0 < length ws → line (a ∷ b ∷ c ∷ hexes ws) ≡ a ++ (32 ∷ (b ++ (32 ∷ (c ++ (32 ∷ line (hexes ws))))))
unfolding line
line-is a b c ws some = ap (λ (l : List ℕ). a ++ (32 ∷ (b ++ (32 ∷ l)))) (line-words c ws some)

pub length-words : (b : List ℕ) (n : ℕ) → length (words_of b n) ≡ n
unfolding words_of
length-words b zero = refl
length-words b (suc n) = rw (length-append (words_of b n) (word b (place_of (byte b 4) n) ∷ []), length-words b n) (omega arith)

pub length-spaced : (ws : List ℕ) → length (spaced ws) ≡ 9 * length ws
unfolding spaced
length-spaced [] = refl
length-spaced (w ∷ ws) = rw (length-append (hex w 32) (spaced ws), length-hex w 32, length-spaced ws) (omega arith)

pub length_fields : (b : List ℕ) (n : ℕ) → length (spaced (words_of b n)) ≡ 9 * n
length_fields b n = rw (length-spaced (words_of b n), length-words b n)

pub length-head : (b : List ℕ) → length (head_of b) ≤ 63
unfolding head_of
length-head b =
    rw (
      length-append (number (job_of b) 32 ++ number (byte b 4) 32) (number (byte b 5) 32),
      length-append (number (job_of b) 32) (number (byte b 4) 32),
    )
    (omega (arith, length-number (job_of b) 32, length-number (byte b 4) 32, length-number (byte b 5) 32))

pub job-line-is : (b : List ℕ) (last : ℕ) → word_count b ≡ suc last →
    job_line b ≡ head_of b ++ spaced (words_of b last) ++ hex (word b (place_of (byte b 4) last)) 10
unfolding job_line head_of words_of
job-line-is b last more =
    let w = word b (place_of (byte b 4) last) in
    let ws = words_of b last in
    let some : 0 < length (ws ++ (w ∷ [])) = rw (length-append ws (w ∷ [])) (omega arith) in
    rw (more, line-is (decimal (job_of b)) (decimal (byte b 4)) (decimal (byte b 5)) (ws ++ (w ∷ [])) some, words-line ws w) (simp append_assoc)

pub length-job : (b : List ℕ) → byte b 4 ≤ 16 → byte b 5 ≤ 16 → length (job_line b) ≤ 855
length-job b a-most b-most =
    let last = 23 + 2 * byte b 4 + 2 * byte b 5 in
    let w = word b (place_of (byte b 4) last) in
    rw (
      job-line-is b last (omega arith),
      length-append (head_of b ++ spaced (words_of b last)) (hex w 10),
      length-append (head_of b) (spaced (words_of b last)),
      length_fields b last,
      length-hex w 10,
    )
    (omega (arith, length-head b))
