-- Slips that look harmless, each with what the definition says where it would show, computed. Assumes nothing.
use mathlib.Core.Path.{◌≡◌, refl}
use mathlib.Core.Bool.{true, false}
use Rattle.route_line.specs.declared.Kind.TheVariants.{Slop, Cart}
use Rattle.route_line.specs.Line.{line, is_route}

-- behind the name, or in between
unfinished-last-line-passed : (is_route (line Cart 5 0 0) ≡ false) × (is_route (line Cart 0 0 0) ≡ true)
unfinished-last-line-passed = (refl, refl)

route-without-a-cart : is_route (line Slop 0 0 1) ≡ false
route-without-a-cart = refl
