-- A list of point records: its flat list, and how `support_points` takes one point after another.
use Rattle.std.specs.Prelude.{ℕ, ◌%◌, ◌^◌, Bool, ◌||◌, cond, List, [], ◌∷◌, eqb, ltb, get_or, Float, Result, Ok, Err}
use Rattle.std.specs.Float.{nan, Format}
use Rattle.std.specs.Float.Ieee.{lt, eq}
use Rattle.model.specs.declared.Vector.{Vector}
use Rattle.model.specs.declared.Refusal.{Refusal}
use Rattle.model.specs.declared.SupportPair.{SupportPair}
use Rattle.model.specs.Ground.{vector, minus, dot}
use Rattle.model.specs.Ground as Ground
use Rattle.model.specs.Domain.{bad_vector, numbered}
use Rattle.model.specs.Second.{pair}
use Rattle.toi_proxy.specs.declared.point_list.Farthest.{Farthest}

-- x0 y0 x1 y1 ..
abbrev pub flat : List Vector → List Float
flat [] = []
flat (p ∷ ps) = p.x ∷ p.y ∷ flat ps

abbrev pub no_point : Vector
no_point = vector nan nan

abbrev pub point_of : List Vector → ℕ → Vector
point_of ps i = get_or ps i no_point

abbrev pub farthest : Float → Float → Bool → ℕ → ℕ → Float → Farthest
farthest x y bad best second value = record { x = x; y = y; bad = bad; best = best; second = second; value = value }

-- point i, p, after those before it
unfoldable pub taken : Format → Vector → Farthest → ℕ → Vector → Farthest
taken f d s i p =
    let v = dot f d (minus f p (vector s.x s.y)) in
    let b = s.bad || bad_vector f p in
    cond (eqb i 0) (farthest p.x p.y b 0 0 (Ground.zero f))
    (farthest s.x s.y b (cond (lt s.value v) i s.best) (cond (lt s.value v) i (cond (eq v s.value) i s.second))
    (cond (lt s.value v) v s.value))

abbrev pub answer_of : Farthest → ℕ → Result SupportPair Refusal
answer_of s n = cond (eqb n 0 || ltb 64 n) (Err (numbered 1)) (cond s.bad (Err (numbered 3)) (Ok (pair (s.best % 2 ^ 32) (s.second % 2 ^ 32))))
