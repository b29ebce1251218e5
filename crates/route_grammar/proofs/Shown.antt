-- A short route's text, read by computing: the numbers of the cart, of the waypoints and of the outline, each where it is looked for. Assumes nothing.
use mathlib.Core.Path.{◌≡◌, refl}
use mathlib.Core.List.{[], ◌∷◌}
use Prim.Native.Nat.{ℕ}
use lib.Ieee.{nan}
use lib.ListN.{replicate, take}
use Rattle.model.specs.Text.{hex_by}
use Rattle.route_line.specs.Line.{named, in_name, after_word, in_word, line_after}
use Rattle.route_line.specs.Text.{words_text, Way, ways_text, stills_text, route_text}
use Rattle.route_read.specs.Read.{kept, no_text, Run, run, reader_after, floats_after, lengths_of, run_over}
use Rattle.route_text.specs.Answer.{cut}
use Rattle.route_grammar.specs.Grammar.{numbers}

abbrev way : ℕ → Way
way x = record { x = x; y = 2; c = 3; s = 4 }

-- a cart of one point, two waypoints, an outline of one point and one of none
abbrev read : Run
read = run_over (run no_text (replicate 20 nan) (replicate 3 9)) (route_text 0xABCD (5 ∷ 6 ∷ []) (way 7 ∷ way 8 ∷ []) ((9 ∷ 10 ∷ []) ∷ [] ∷ []))

pub pieces : (read.reader.kept ≡ kept 13 3 11 2) × (take 3 read.lengths ≡ 2 ∷ 0 ∷ 9 ∷ [])
    × (cut read.floats 0 3 ≡ numbers (0xABCD ∷ 5 ∷ 6 ∷ [])) × (cut read.floats 3 11 ≡ numbers (7 ∷ 2 ∷ 3 ∷ 4 ∷ 8 ∷ 2 ∷ 3 ∷ 4 ∷ []))
    × (cut read.floats 11 13 ≡ numbers (9 ∷ 10 ∷ []))
unfolding words_text ways_text stills_text hex_by named in_name after_word in_word line_after reader_after floats_after lengths_of run_over
pieces = (refl, refl, refl, refl, refl)
