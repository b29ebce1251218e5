-- The flat list of point records of `toi_proxy64` is that of `toi_proxy`. Assumes nothing.
use mathlib.Core.List.{List, [], ◌∷◌, map}
use mathlib.Core.Path.{◌≡◌, refl}
use Rattle.model.specs.declared.Vector.{Vector}
use Rattle.toi_proxy.specs.Points as Points
use Rattle.toi_proxy64.specs.Points as Points64
use Rattle.bridge.specs.Wide.{vector64}

pub flat-same : (ps : List Vector) → Points64.flat (map vector64 ps) ≡ Points.flat ps
flat-same [] = refl
flat-same (p ∷ ps) = rw (flat-same ps)
