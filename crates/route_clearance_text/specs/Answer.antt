-- What is told of a text: a line of its route looked at as a whole, or 14 and the number of the first line that is none of a route. Cut into a route as
-- `route` cuts it. Which of several answers comes is the search's, so what is said here is said of every line that may be written.
use Rattle.std.specs.Prelude.{◌≡◌, ℕ, ◌≤◌, ◌<◌, true, false, List, [], ◌∷◌, ◌++◌, length, take, Float}
use Rattle.model.specs.Support.{point}
use Rattle.model.specs.Text.{decimal, hex_by, line}
use Rattle.text.specs.Put.{Put, hex}
use Rattle.places.specs.Place.{place_bits}
use Rattle.route_read.specs.declared.Kept.{Kept}
use Rattle.route_read.specs.declared.Reader.{Reader}
use Rattle.route_line.specs.Line.{is_route}
use Rattle.route_read.specs.Read.{Run, next_line}
use Rattle.route_text.specs.Answer.{cut, cuts_of, wrong_line, no_route_line, two}
use Rattle.route_clearance_legs.specs.declared.End.{End}
use Rattle.route_clearance_legs.specs.declared.RouteCleared.{RouteCleared}
use Rattle.route_clearance_legs.specs.declared.RouteCleared.TheVariants.{Clear, Touch, Open, Refused, Wrong}
use Rattle.route_clearance_legs.specs.Looks.{Told}

-- ---- the route
-- one behind another: the slop, the cart, the waypoints, the still outlines
unfoldable pub ToldOf : Kept → List Float → List ℕ → RouteCleared → Type 0
ToldOf k floats lengths =
    let c = cuts_of k (length floats) (length lengths) in
    Told (cut floats c.start c.cart) (cut floats c.cart c.whole) (cut floats c.ways c.used) (take c.outlines lengths) (point floats 0).x

-- ---- its line
-- a place on a leg by the digits of the f32 that it is
abbrev pub place_digits : ℕ → List ℕ
place_digits k = hex_by 8 (place_bits k)

unfoldable pub clear_line : ℕ → List ℕ
clear_line pieces = line ((48 ∷ []) ∷ (67 ∷ 76 ∷ 69 ∷ 65 ∷ 82 ∷ []) ∷ decimal pieces ∷ [])

unfoldable pub touch_line : End → ℕ → ℕ → List ℕ
touch_line e u t =
    line
    ((48 ∷ [])
    ∷ decimal e.leg
    ∷ decimal e.outline
    ∷ (84 ∷ 79 ∷ 85 ∷ 67 ∷ 72 ∷ [])
    ∷ place_digits u
    ∷ place_digits t
    ∷ decimal e.pieces
    ∷ [])

unfoldable pub open_line : End → ℕ → List ℕ
open_line e u =
    line ((48 ∷ []) ∷ decimal e.leg ∷ decimal e.outline ∷ (79 ∷ 80 ∷ 69 ∷ 78 ∷ []) ∷ place_digits u ∷ decimal e.pieces ∷ [])

unfoldable pub refused_line : End → ℕ → List ℕ
refused_line e n = line (decimal n ∷ decimal e.leg ∷ decimal e.outline ∷ decimal e.pieces ∷ [])

abbrev pub answer_line : RouteCleared → List ℕ
answer_line (Clear pieces) = clear_line pieces
answer_line (Touch e u t) = touch_line e u t
answer_line (Open e u) = open_line e u
answer_line (Refused e n) = refused_line e n
answer_line (Wrong n) = wrong_line n

-- ---- the text
module _ (r : Reader) (floats : List Float) (lengths : List ℕ) where
  pub data AnswerOf : List ℕ → Type 0 where
    no-route : is_route r.line ≡ false → AnswerOf (no_route_line (next_line r.lines))
    looked : (x : RouteCleared) → is_route r.line ≡ true → ToldOf r.kept floats lengths x → AnswerOf (answer_line x)

-- no line is longer: 0 and a blank, three numbers of up to 20 digits and a byte after each, a word of five letters and two places of eight digits with theirs
abbrev pub longest_line : ℕ
longest_line = 128

module _ (r : Reader) (floats : List Float) (lengths d d' : List ℕ) (e : ℕ) where
  pub record OneLine : Type 0 where
    pub text : List ℕ
    pub holds : AnswerOf r floats lengths text
    pub bytes : Put d 0 text d' e

  pub record Written : Type 0 where
    pub room : longest_line ≤ length d → OneLine
    pub no_room : length d < longest_line → Put d 0 [] d' e

-- of what a run has read
abbrev pub AnswerTo : Run → List ℕ → Type 0
AnswerTo s = AnswerOf s.reader s.floats s.lengths

-- ---- pieces
abbrev pub place : ℕ → List ℕ
place k = hex (place_bits k) 32

unfoldable pub where_told : End → List ℕ
where_told e = (48 ∷ 32 ∷ []) ++ two e.leg e.outline 32
