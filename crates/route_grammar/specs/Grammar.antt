-- A route by its numbers, and the text that has them. `route_text` of `route_line` says how a route is written.
use Rattle.std.specs.Prelude.{◌≡◌, ℕ, ◌^◌, ◌≤◌, ◌<◌, List, [], ◌∷◌, ◌++◌, map, length, take, Float}
use Rattle.std.specs.Float.{binary32}
use Rattle.std.specs.Float.Ieee.{of_bits}
use Rattle.route_legs.specs.declared.RouteAnswer.{RouteAnswer}
use Rattle.route_legs.specs.Route.{route}
use Rattle.route_line.specs.Text.{Way, way_words, route_text}
use Rattle.model.specs.Support.{point}
use Rattle.route_read.specs.Read.{Run}
use Rattle.route_text.specs.Answer.{cut}

-- ---- the numbers
-- that words stand for, by their bits
abbrev pub numbers : List ℕ → List Float
numbers ws = map (of_bits binary32) ws

-- of all waypoints, one behind another
unfoldable pub way_numbers : List Way → List Float
way_numbers [] = []
way_numbers (w ∷ ws) = numbers (way_words w) ++ way_numbers ws

-- of all outlines, one behind another, and how many each has
unfoldable pub joined : List (List Float) → List Float
joined [] = []
joined (s ∷ ss) = s ++ joined ss

unfoldable pub sizes : List (List Float) → List ℕ
sizes [] = []
sizes (s ∷ ss) = length s ∷ sizes ss

-- the route of these words
abbrev pub route_for : ℕ → List ℕ → List Way → List (List ℕ) → RouteAnswer
route_for slop cart ways stills =
    route binary32 (numbers cart) (way_numbers ways) (joined (map numbers stills)) (sizes (map numbers stills)) (of_bits binary32 slop)

-- ---- the text
-- each word has eight digits
unfoldable pub Fit : List ℕ → Type 0
Fit [] = Unit {0}
Fit (w ∷ ws) = (w < 2 ^ 32) × Fit ws

unfoldable pub FitWays : List Way → Type 0
FitWays [] = Unit {0}
FitWays (w ∷ ws) = Fit (way_words w) × FitWays ws

unfoldable pub FitStills : List (List ℕ) → Type 0
FitStills [] = Unit {0}
FitStills (s ∷ ss) = Fit s × FitStills ss

-- some route is written so
pub record RouteText (text : List ℕ) : Type 0 where
  pub slop : ℕ
  pub cart : List ℕ
  pub ways : List Way
  pub stills : List (List ℕ)
  pub slop-fits : slop < 2 ^ 32
  pub cart-fits : Fit cart
  pub ways-fit : FitWays ways
  pub stills-fit : FitStills stills
  pub whole : text ≡ route_text slop cart ways stills

-- ---- what is handed on
-- places that suffice for every text: a slop, 129 numbers of the cart, four of each of 33 waypoints, 129 of each of 32 outlines
abbrev pub enough_numbers : ℕ
enough_numbers = 4390

-- one outline more
abbrev pub enough_lengths : ℕ
enough_lengths = 33

-- at most 129 numbers on a line: one more than an outline can have, so that too many are seen
unfoldable pub ShortLines : List (List ℕ) → Type 0
ShortLines [] = Unit {0}
ShortLines (s ∷ ss) = (length s ≤ 129) × ShortLines ss

-- and no more waypoints and outlines than a route can have
pub record Within (cart : List ℕ) (ways : List Way) (stills : List (List ℕ)) : Type 0 where
  pub cart-short : length cart ≤ 129
  pub few-ways : length ways ≤ 33
  pub few-stills : length stills ≤ 32
  pub stills-short : ShortLines stills

-- what a run has kept is those numbers, each piece from where the one before it ends
pub record Handed (s : Run) (slop : ℕ) (cart : List ℕ) (ways : List Way) (stills : List (List ℕ)) : Type 0 where
  pub slop-is : (point s.floats 0).x ≡ of_bits binary32 slop
  pub cart-is : cut s.floats 1 s.reader.kept.cart_end ≡ numbers cart
  pub ways-are : cut s.floats s.reader.kept.cart_end s.reader.kept.way_end ≡ way_numbers ways
  pub stills-are : cut s.floats s.reader.kept.way_end s.reader.kept.used ≡ joined (map numbers stills)
  pub sizes-are : take s.reader.kept.outlines s.lengths ≡ sizes (map numbers stills)
