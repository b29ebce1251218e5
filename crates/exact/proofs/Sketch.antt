-- The quantities of the solvers as expressions over the parts of three points, for the ring normaliser: each is spelled as its namesake over points.
use mathlib.Core.List.{List, [], ◌∷◌}
use Rattle.integers.specs.Signed.{Int}
use Rattle.integers.specs.Polynomial.{Expr, var, ◌:+◌, ◌:-◌, ◌:*◌, negated}
use Rattle.plane.specs.Plane.{Point}

pub record Sketch : Type 0 where
  pub x : Expr
  pub y : Expr

abbrev pub sumᴱ : Sketch → Sketch → Sketch
sumᴱ a b = record { x = a.x :+ b.x; y = a.y :+ b.y }

abbrev pub differenceᴱ : Sketch → Sketch → Sketch
differenceᴱ a b = record { x = a.x :- b.x; y = a.y :- b.y }

abbrev pub dotᴱ : Sketch → Sketch → Expr
dotᴱ a b = a.x :* b.x :+ a.y :* b.y

abbrev pub perpᴱ : Sketch → Sketch → Expr
perpᴱ a b = a.x :* b.y :- a.y :* b.x

abbrev pub towardᴱ : Sketch → Sketch → Expr
towardᴱ u w = negated (dotᴱ u (differenceᴱ w u))

abbrev pub acrossᴱ : Sketch → Sketch → Sketch → Expr
acrossᴱ u w h = perpᴱ (differenceᴱ w u) (differenceᴱ h u) :* perpᴱ u w

-- off the edge from u to w, toward the origin
abbrev pub off_edgeᴱ : Sketch → Sketch → Sketch
off_edgeᴱ u w =
    let e = differenceᴱ w u in
    let k = perpᴱ (sumᴱ u w) e in
    record { x = negated k :* e.y; y = k :* e.x }

-- ---- three points
abbrev pub P : Sketch
P = record { x = var 0; y = var 1 }

abbrev pub Q : Sketch
Q = record { x = var 2; y = var 3 }

abbrev pub R : Sketch
R = record { x = var 4; y = var 5 }

abbrev pub parts : Point → Point → Point → List Int
parts p q r = p.x ∷ p.y ∷ q.x ∷ q.y ∷ r.x ∷ r.y ∷ []
