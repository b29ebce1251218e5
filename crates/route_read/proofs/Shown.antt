-- Texts read by computing: what is a route, and which line is none of one. Assumes nothing.
use mathlib.Core.Path.{◌≡◌, refl}
use mathlib.Core.Bool.{true, false}
use mathlib.Core.List.{List, [], ◌∷◌, ◌++◌}
use Prim.Native.Nat.{ℕ}
use Rattle.route_read.specs.declared.Reader.{Reader}
use Rattle.route_line.specs.Line.{named, in_name, after_word, in_word, line_after}
use Rattle.route_read.specs.Read.{run, no_text, reader_after, floats_after, lengths_of, run_over}
use Rattle.route_line.specs.Line.{is_route}

-- where the reader stands after a text; no number is kept here
abbrev after : List ℕ → Reader
after text = (run_over (run no_text [] []) text).reader

abbrev Route : List ℕ → Type 0
Route text = is_route (after text).line ≡ true

-- none, after so many lines that fit
abbrev NoRoute : ℕ → List ℕ → Type 0
NoRoute n text = (is_route (after text).line ≡ false) × ((after text).lines ≡ n)

-- SLOP 3F00000A
abbrev slop : List ℕ
slop = 83 ∷ 76 ∷ 79 ∷ 80 ∷ 32 ∷ 51 ∷ 70 ∷ 48 ∷ 48 ∷ 48 ∷ 48 ∷ 48 ∷ 65 ∷ 10 ∷ []

abbrev cart : List ℕ
cart = 67 ∷ 65 ∷ 82 ∷ 84 ∷ []

abbrev still : List ℕ
still = 83 ∷ 84 ∷ 73 ∷ 76 ∷ 76 ∷ []

abbrev newline : List ℕ
newline = 10 ∷ []

pub the-least : Route (slop ++ cart ++ newline)
unfolding named in_name after_word in_word line_after reader_after floats_after lengths_of run_over
the-least = refl

pub with-an-outline : Route (slop ++ cart ++ newline ++ still ++ newline)
unfolding named in_name after_word in_word line_after reader_after floats_after lengths_of run_over
with-an-outline = refl

pub nothing : NoRoute 0 []
unfolding run_over
nothing = (refl, refl)

pub cart-missing : NoRoute 1 slop
unfolding named in_name after_word in_word line_after reader_after floats_after lengths_of run_over
cart-missing = (refl, refl)

pub newline-missing : NoRoute 1 (slop ++ cart)
unfolding named in_name after_word in_word line_after reader_after floats_after lengths_of run_over
newline-missing = (refl, refl)

pub blank-too-many : NoRoute 1 (slop ++ cart ++ (32 ∷ 10 ∷ []))
unfolding named in_name after_word in_word line_after reader_after floats_after lengths_of run_over
blank-too-many = (refl, refl)

-- AT behind STILL
pub waypoint-behind-an-outline : NoRoute 3 (slop ++ cart ++ newline ++ still ++ newline ++ (65 ∷ 84 ∷ 10 ∷ []))
unfolding named in_name after_word in_word line_after reader_after floats_after lengths_of run_over
waypoint-behind-an-outline = (refl, refl)
