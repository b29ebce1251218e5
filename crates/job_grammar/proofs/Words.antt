-- The words of the grammar are the printed words of their numbers, and the printed words are of the grammar. Assumes nothing.
use mathlib.Core.Path.{◌≡◌, refl, ap}
use mathlib.Core.List.{List, [], ◌∷◌, ◌++◌}
use Prim.Native.Nat.{ℕ, zero, suc, ◌+◌, ◌^◌, ◌<◌}
use native.Mathlib.Omega.{arith}
use lib.ListN.{length, get_or}
use Rattle.model.specs.Text.{hex_by, line}
use Rattle.job_text.specs.Job.{hexes}
use Rattle.numerals.specs.Numerals.{word_from}
use Rattle.numerals.proofs.Numerals.{more-hex, word_below, hex-is-capitals}
use Rattle.job_grammar.specs.Grammar.{Words, words_text, numbers_of}

-- ---- from the grammar to the print, by the numbers that the words say
pub words-printed : (ws : List (List ℕ)) → Words ws → hexes (numbers_of ws) ≡ ws
unfolding Words hexes hex_by
words-printed [] h = refl
words-printed (w ∷ ws) h =
    let size : length w + 0 ≡ 8 = omega (arith, h.1) in
    let one : hex_by 8 (word_from 0 w) ≡ w = rw size at (more-hex 0 0 w h.0) in
    rw (one, words-printed ws h.2)

pub words-fit : (ws : List (List ℕ)) (k : ℕ) → Words ws → get_or (numbers_of ws) k 0 < 2 ^ 32
unfolding Words
words-fit [] k h = omega arith
words-fit (w ∷ ws) zero h =
    let size : length w + 0 ≡ 8 = omega (arith, h.1) in
    rw size at (word_below 0 0 w (omega arith) h.0)
words-fit (w ∷ ws) (suc k) h = words-fit ws k h.2

pub as-many-numbers : (ws : List (List ℕ)) → length (numbers_of ws) ≡ length ws
as-many-numbers [] = refl
as-many-numbers (w ∷ ws) = ap suc (as-many-numbers ws)

eight : (n : ℕ) → length (hex_by 8 n) ≡ 8
unfolding hex_by
eight n = refl

pub hexes-are-words : (ns : List ℕ) → Words (hexes ns)
unfolding Words hexes
hexes-are-words [] = tt
hexes-are-words (n ∷ ns) = (hex-is-capitals 8 n, eight n, hexes-are-words ns)

pub as-many-hexes : (ns : List ℕ) → length (hexes ns) ≡ length ns
unfolding hexes
as-many-hexes [] = refl
as-many-hexes (n ∷ ns) = ap suc (as-many-hexes ns)

-- ---- the fields of a line, in the print's words and in the grammar's
last-words : (x : List ℕ) (ws : List (List ℕ)) → line (x ∷ ws) ≡ x ++ words_text ws
unfolding line words_text
last-words x [] = refl
last-words x (w ∷ ws) = ap (λ (l : List ℕ). x ++ (32 ∷ l)) (last-words w ws)

pub line-by-grammar : (a b c : List ℕ) (ws : List (List ℕ)) → line (a ∷ b ∷ c ∷ ws) ≡ a ++ (32 ∷ (b ++ (32 ∷ (c ++ words_text ws))))
unfolding line
line-by-grammar a b c ws = ap (λ (l : List ℕ). a ++ (32 ∷ (b ++ (32 ∷ l)))) (last-words c ws)
