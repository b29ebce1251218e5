-- The answer of a text: the line of its route, or 14 and the number of the first line that is none of a route.
use Rattle.std.specs.Prelude.{ℕ, ◌+◌, ◌-◌, ◌*◌, ◌/◌, min, cond, List, [], ◌∷◌, ◌++◌, length, take, drop, Float}
use Rattle.std.specs.Float.{binary32}
use Rattle.model.specs.declared.Contact.{Contact}
use Rattle.model.specs.declared.Status.{Status}
use Rattle.model.specs.Support.{point}
use Rattle.model.specs.Sheet.{letter_of}
use Rattle.model.specs.Text.{decimal, hex_float, line}
use Rattle.text.specs.Put.{number, where_room}
use Rattle.route_legs.specs.declared.Stop.{Stop}
use Rattle.route_legs.specs.declared.RouteAnswer.{RouteAnswer}
use Rattle.route_legs.specs.declared.RouteAnswer.TheVariants.{Clear, Ended, Refused, Wrong}
use Rattle.route_legs.specs.Route.{route}
use Rattle.route_read.specs.declared.Kept.{Kept}
use Rattle.route_read.specs.declared.Reader.{Reader}
use Rattle.route_text.specs.declared.Cuts.{Cuts}
use Rattle.route_line.specs.Line.{is_route}
use Rattle.route_read.specs.Read.{run, no_text, next_line, run_over, text_by}

-- ---- the route
-- the numbers from a place to another
abbrev pub cut : List Float → ℕ → ℕ → List Float
cut s a b = take (b - a) (drop a s)

-- whole waypoints alone: a text with more numbers than there are places for may end within one
abbrev pub whole_end : ℕ → ℕ → ℕ
whole_end cart ways = cart + (ways - cart) / 4 * 4

-- one behind another: the slop, the cart, the waypoints, the still outlines
abbrev pub cuts_of : Kept → ℕ → ℕ → Cuts
cuts_of k numbers lengths =
    let used = min k.used numbers in
    let ways = min k.way_end used in
    let cart = min k.cart_end ways in
    record { start = min cart 1; cart = cart; whole = whole_end cart ways; ways = ways; used = used; outlines = min k.outlines lengths }

unfoldable pub route_of : Kept → List Float → List ℕ → RouteAnswer
route_of k floats lengths =
    let c = cuts_of k (length floats) (length lengths) in
    route binary32 (cut floats c.start c.cart) (cut floats c.cart c.whole) (cut floats c.ways c.used) (take c.outlines lengths) (point floats 0).x

-- ---- its line
unfoldable pub clear_line : ℕ → List ℕ
clear_line calls = line ((48 ∷ []) ∷ (67 ∷ 76 ∷ 69 ∷ 65 ∷ 82 ∷ []) ∷ decimal calls ∷ [])

unfoldable pub ended_line : Stop → Status → Contact → List ℕ
ended_line s status c =
    line
    ((48 ∷ [])
    ∷ decimal s.leg
    ∷ decimal s.outline
    ∷ (letter_of status ∷ [])
    ∷ hex_float binary32 c.fraction
    ∷ hex_float binary32 c.point.x
    ∷ hex_float binary32 c.point.y
    ∷ hex_float binary32 c.normal.x
    ∷ hex_float binary32 c.normal.y
    ∷ decimal s.calls
    ∷ [])

unfoldable pub refused_line : Stop → ℕ → List ℕ
refused_line s n = line (decimal n ∷ decimal s.leg ∷ decimal s.outline ∷ decimal s.calls ∷ [])

unfoldable pub wrong_line : ℕ → List ℕ
wrong_line n = line (decimal n ∷ [])

-- the line that is none of a route, or where the text ends too soon the one past its last
unfoldable pub no_route_line : ℕ → List ℕ
no_route_line n = line (decimal 14 ∷ decimal n ∷ [])

abbrev pub answer_line : RouteAnswer → List ℕ
answer_line (Clear calls) = clear_line calls
answer_line (Ended s status c) = ended_line s status c
answer_line (Refused s n) = refused_line s n
answer_line (Wrong n) = wrong_line n

-- ---- the text
abbrev pub answer_of : Reader → List Float → List ℕ → List ℕ
answer_of r floats lengths = cond (is_route r.line) (answer_line (route_of r.kept floats lengths)) (no_route_line (next_line r.lines))

-- no line is longer: five numbers of up to 20 digits and a byte after each, five floats of eight and a blank, and four bytes
abbrev pub longest_line : ℕ
longest_line = 128

abbrev pub text_for : Reader → List Float → List ℕ → ℕ → List ℕ
text_for r floats lengths room = where_room longest_line room (answer_of r floats lengths)

-- of a whole text, with lists of such lengths for what is kept
abbrev pub answer_text : List Float → List ℕ → List ℕ → List ℕ
answer_text floats lengths text =
    let s = run_over (run no_text floats lengths) text in
    answer_of s.reader s.floats s.lengths

-- the same by parts of such a length, with so much room for the answer
abbrev pub answer_by : ℕ → ℕ → List Float → List ℕ → List (List ℕ) → List ℕ
answer_by size room floats lengths = text_by size (λ s. text_for s.reader s.floats s.lengths room) (run no_text floats lengths)

-- ---- pieces
unfoldable pub two : ℕ → ℕ → ℕ → List ℕ
two a b end = number a 32 ++ number b end
