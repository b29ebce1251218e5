-- One line of a route as text: SLOP and a word; CART and any number of words; AT and four; STILL and any number. A word is eight capital hexadecimal
-- digits with a blank before it, and a newline ends the line.
use Rattle.std.specs.Prelude.{ℕ, ◌+◌, ◌*◌, ◌%◌, ◌^◌, Bool, true, false, cond, ◌&&◌, List, [], ◌∷◌, eqb, ltb, length, get_or}
use Rattle.text.specs.Read.{hex_digit}
use Rattle.route_line.specs.declared.Kind.{Kind}
use Rattle.route_line.specs.declared.Kind.TheVariants.{Nothing, Slop, Cart, At, Still}
use Rattle.route_line.specs.declared.Line.{Line}

abbrev pub line : Kind → ℕ → ℕ → ℕ → Line
line kind place value count = record { kind = kind; place = place; value = value; count = count }

-- ---- places
abbrev pub between : ℕ
between = 0

abbrev pub word_end : ℕ
word_end = 5

abbrev pub first_digit : ℕ
first_digit = 6

abbrev pub last_digit : ℕ
last_digit = 13

abbrev pub no_line : ℕ
no_line = 14

abbrev pub place_if : Bool → ℕ → ℕ
place_if so place = cond so place no_line

-- more words than an outline can have: those that follow are not counted
abbrev pub most_words : ℕ
most_words = 129

-- ---- the name
abbrev pub name : Kind → List ℕ
name Nothing = []
name Slop = 83 ∷ 76 ∷ 79 ∷ 80 ∷ []
name Cart = 67 ∷ 65 ∷ 82 ∷ 84 ∷ []
name At = 65 ∷ 84 ∷ []
name Still = 83 ∷ 84 ∷ 73 ∷ 76 ∷ 76 ∷ []

abbrev pub at_or_still : ℕ → Kind
at_or_still x = cond (eqb x 65) At Still

-- the kind of line that follows one: SLOP first, then CART, then AT as long as no STILL has come
abbrev pub next_kind : Kind → ℕ → Kind
next_kind Nothing x = Slop
next_kind Slop x = Cart
next_kind Cart x = at_or_still x
next_kind At x = at_or_still x
next_kind Still x = Still

abbrev pub kind_at : Kind → ℕ → ℕ → Kind
kind_at last place x = cond (eqb place between) (next_kind last x) last

unfoldable pub named : List ℕ → ℕ → ℕ → ℕ
named s place x =
    cond (ltb place (length s)) (cond (eqb (get_or s place 0) x) (cond (eqb (place + 1) (length s)) word_end (place + 1)) no_line) no_line

unfoldable pub in_name : Line → ℕ → Line
in_name l x = let kind = kind_at l.kind l.place x in line kind (named (name kind) l.place x) 0 0

-- ---- after the name or a word
abbrev pub takes_word : Kind → ℕ → Bool
takes_word Nothing n = false
takes_word Slop n = ltb n 1
takes_word Cart n = true
takes_word At n = ltb n 4
takes_word Still n = true

abbrev pub is_whole : Kind → ℕ → Bool
is_whole Nothing n = false
is_whole Slop n = eqb n 1
is_whole Cart n = true
is_whole At n = eqb n 4
is_whole Still n = true

-- a blank before a word, or the newline
abbrev pub place_after_word : Kind → ℕ → ℕ → ℕ
place_after_word kind n x = cond (eqb x 32) (place_if (takes_word kind n) first_digit) (cond (eqb x 10) (place_if (is_whole kind n) between) no_line)

unfoldable pub after_word : Line → ℕ → Line
after_word l x = line l.kind (place_after_word l.kind l.count x) 0 l.count

-- ---- in a word
abbrev pub one_more : ℕ → ℕ
one_more n = cond (ltb n most_words) (n + 1) n

abbrev pub next_value : ℕ → ℕ → ℕ
next_value value digit = (value * 16 + digit % 16) % 2 ^ 32

abbrev pub place_in_word : ℕ → ℕ → ℕ
place_in_word place digit = cond (eqb digit 16) no_line (cond (ltb place last_digit) (place + 1) (place_if (eqb place last_digit) word_end))

abbrev pub count_in_word : ℕ → ℕ → ℕ
count_in_word place n = cond (eqb place last_digit) (one_more n) n

unfoldable pub in_word : Line → ℕ → Line
in_word l x =
    line l.kind (place_in_word l.place (hex_digit x)) (next_value l.value (hex_digit x)) (count_in_word l.place l.count)

-- ---- one byte more
unfoldable pub line_after : Line → ℕ → Line
line_after l x = cond (ltb l.place word_end) (in_name l x) (cond (eqb l.place word_end) (after_word l x) (in_word l x))

-- ---- a text that ends with this line is a route
abbrev pub has_cart : Kind → Bool
has_cart Nothing = false
has_cart Slop = false
has_cart Cart = true
has_cart At = true
has_cart Still = true

-- whether a text may end here: with a whole line, and not before the cart's
abbrev pub is_route : Line → Bool
is_route l = eqb l.place between && has_cart l.kind
