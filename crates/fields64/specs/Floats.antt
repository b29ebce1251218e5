-- Written by tests/written/wide.py from fields, in f64.
-- The floats of a contact as text.
use Rattle.std.specs.Prelude.{ℕ, List, [], ◌∷◌, ◌++◌, Float}
use Rattle.std.specs.Float.{binary64}
use Rattle.model64.specs.declared.Contact.{Contact}
use Rattle.model.specs.Text.{hex_float}

-- sixteen digits and a blank
abbrev pub float_room : ℕ
float_room = 17

-- five of them
abbrev pub contact_room : ℕ
contact_room = 85

-- a blank after each
abbrev pub hex_of : Float → List ℕ
hex_of x = hex_float binary64 x ++ (32 ∷ [])

unfoldable pub floats : Contact → List ℕ
floats c = hex_of c.fraction ++ hex_of c.point.x ++ hex_of c.point.y ++ hex_of c.normal.x ++ hex_of c.normal.y
