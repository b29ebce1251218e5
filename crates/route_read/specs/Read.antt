-- A text read byte by byte: the line that it is in, the numbers and lengths that are kept, and how many lines came.
use Rattle.std.specs.Prelude.{◌≡◌, ℕ, ◌+◌, Bool, true, false, ◌&&◌, cond, List, [], ◌∷◌, eqb, ltb, length, set, Float}
use Rattle.std.specs.Float.{binary32}
use Rattle.std.specs.Float.Ieee.{of_bits}
use Rattle.model.specs.Parts.{count_limit}
use Rattle.runs.specs.Run.{text_run}
use Rattle.route_line.specs.declared.Kind.{Kind}
use Rattle.route_line.specs.declared.Kind.TheVariants.{Nothing, Slop, Cart, At, Still}
use Rattle.route_line.specs.declared.Line.{Line}
use Rattle.route_read.specs.declared.Kept.{Kept}
use Rattle.route_read.specs.declared.Reader.{Reader}
use Rattle.route_line.specs.Line.{line, between, word_end, last_digit, most_words, line_after}

abbrev pub kept : ℕ → ℕ → ℕ → ℕ → Kept
kept used cart ways outlines = record { used = used; cart_end = cart; way_end = ways; outlines = outlines }

abbrev pub reader : Line → Kept → ℕ → Reader
reader l k lines = record { line = l; kept = k; lines = lines }

abbrev pub no_text : Reader
no_text = reader (line Nothing between 0 0) (kept 0 0 0 0) 0

-- ---- what is kept
-- a number after others of its line: where these are not too many, and there is a place
abbrev pub one_more_number : List Float → ℕ → ℕ → ℕ
one_more_number floats used before = cond (ltb before most_words) (cond (ltb used (length floats)) (used + 1) used) used

abbrev pub with_number : List Float → ℕ → ℕ → Float → List Float
with_number floats used before x = cond (ltb before most_words) (set floats used x) floats

-- the length of a still outline, where there is a place
abbrev pub one_more_length : List ℕ → ℕ → ℕ
one_more_length lengths n = cond (ltb n (length lengths)) (n + 1) n

abbrev pub with_length : List ℕ → ℕ → ℕ → List ℕ
with_length lengths n x = set lengths n x

-- ---- where a word has ended: the number that it stands for
abbrev pub word_ends : Line → Line → Bool
word_ends before l = eqb before.place last_digit && eqb l.place word_end

abbrev pub used_after : Line → Line → ℕ → List Float → ℕ
used_after before l used floats = cond (word_ends before l) (one_more_number floats used before.count) used

abbrev pub numbers_after : Line → Line → ℕ → List Float → List Float
numbers_after before l used floats = cond (word_ends before l) (with_number floats used before.count (of_bits binary32 l.value)) floats

-- ---- where a line has ended: its kind, and else Nothing
abbrev pub ended : Line → Kind
ended l = cond (eqb l.place between) l.kind Nothing

-- the cart ends with its line
abbrev pub cart_end : Kind → ℕ → ℕ → ℕ
cart_end Nothing used end = end
cart_end Slop used end = end
cart_end Cart used end = used
cart_end At used end = end
cart_end Still used end = end

-- the waypoints with the last of their lines, and where there is none with the cart
abbrev pub way_end : Kind → ℕ → ℕ → ℕ
way_end Nothing used end = end
way_end Slop used end = end
way_end Cart used end = used
way_end At used end = used
way_end Still used end = end

abbrev pub is_still : Kind → Bool
is_still Nothing = false
is_still Slop = false
is_still Cart = false
is_still At = false
is_still Still = true

abbrev pub outlines_after : Kind → ℕ → List ℕ → ℕ
outlines_after kind n lengths = cond (is_still kind) (one_more_length lengths n) n

abbrev pub lengths_after : Kind → ℕ → ℕ → List ℕ → List ℕ
lengths_after kind n count lengths = cond (is_still kind) (with_length lengths n count) lengths

-- lines are counted to 2^63
abbrev pub next_line : ℕ → ℕ
next_line n = cond (ltb n count_limit) (n + 1) n

abbrev pub lines_after : ℕ → ℕ → ℕ
lines_after place n = cond (eqb place between) (next_line n) n

-- ---- one byte more
unfoldable pub reader_after : ℕ → Reader → List Float → List ℕ → Reader
reader_after x r floats lengths =
    let l = line_after r.line x in
    let k = r.kept in
    let now = kept (used_after r.line l k.used floats) (cart_end (ended l) k.used k.cart_end) (way_end (ended l) k.used k.way_end)
    (outlines_after (ended l) k.outlines lengths) in
    reader l now (lines_after l.place r.lines)

unfoldable pub floats_after : ℕ → Reader → List Float → List Float
floats_after x r floats = numbers_after r.line (line_after r.line x) r.kept.used floats

unfoldable pub lengths_of : ℕ → Reader → List ℕ → List ℕ
lengths_of x r lengths = let l = line_after r.line x in lengths_after (ended l) r.kept.outlines l.count lengths

-- ---- a text
-- a reader with the lists that it is lent
pub record Run : Type 0 where
  pub reader : Reader
  pub floats : List Float
  pub lengths : List ℕ

abbrev pub run : Reader → List Float → List ℕ → Run
run r floats lengths = record { reader = r; floats = floats; lengths = lengths }

abbrev pub byte_more : Run → ℕ → Run
byte_more s x =
    run (reader_after x s.reader s.floats s.lengths) (floats_after x s.reader s.floats) (lengths_of x s.reader s.lengths)

unfoldable pub run_over : Run → List ℕ → Run
run_over s [] = s
run_over s (x ∷ xs) = run_over (byte_more s x) xs

-- a reader and its lists are those of a run
pub record IsRun (s : Run) (r : Reader) (floats : List Float) (lengths : List ℕ) : Type 0 where
  pub stands : r ≡ s.reader
  pub numbers : floats ≡ s.floats
  pub outlines : lengths ≡ s.lengths

-- ---- a run over parts of such a length: the answer of what was read is told after the last one, which is shorter
module _ (size : ℕ) (answer : Run → List ℕ) where
  abbrev pub is_last : Run → List ℕ → Bool
  is_last s part = ltb (length part) size

  abbrev pub tell_by : Run → List ℕ → List ℕ
  tell_by s part = cond (is_last s part) (answer (run_over s part)) []

  abbrev pub text_by : Run → List (List ℕ) → List ℕ
  text_by = text_run run_over is_last tell_by
