-- A route as text, written: its lines in their order, a word by its eight digits with a blank before it.
use Rattle.std.specs.Prelude.{ℕ, List, [], ◌∷◌, ◌++◌}
use Rattle.model.specs.Text.{hex_by}
use Rattle.route_line.specs.declared.Kind.{Kind}
use Rattle.route_line.specs.declared.Kind.TheVariants.{Slop, Cart, At, Still}
use Rattle.route_line.specs.Line.{name}

unfoldable pub words_text : List ℕ → List ℕ
words_text [] = []
words_text (w ∷ ws) = (32 ∷ hex_by 8 w) ++ words_text ws

abbrev pub line_text : Kind → List ℕ → List ℕ
line_text kind ws = name kind ++ words_text ws ++ (10 ∷ [])

-- a waypoint has four words
pub record Way : Type 0 where
  pub x : ℕ
  pub y : ℕ
  pub c : ℕ
  pub s : ℕ

abbrev pub way_words : Way → List ℕ
way_words w = w.x ∷ w.y ∷ w.c ∷ w.s ∷ []

unfoldable pub ways_text : List Way → List ℕ
ways_text [] = []
ways_text (w ∷ ws) = line_text At (way_words w) ++ ways_text ws

unfoldable pub stills_text : List (List ℕ) → List ℕ
stills_text [] = []
stills_text (s ∷ ss) = line_text Still s ++ stills_text ss

abbrev pub route_text : ℕ → List ℕ → List Way → List (List ℕ) → List ℕ
route_text slop cart ways stills = line_text Slop (slop ∷ []) ++ line_text Cart cart ++ ways_text ways ++ stills_text stills
