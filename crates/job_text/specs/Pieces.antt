-- A job's line, cut into the pieces in which it is written.
use Rattle.std.specs.Prelude.{ℕ, List, [], ◌∷◌, ◌++◌}
use Rattle.model.specs.Wire.{byte}
use Rattle.model.specs.Block.{job_of}
use Rattle.text.specs.Put.{number, hex}

unfoldable pub head_of : List ℕ → List ℕ
head_of b = number (job_of b) 32 ++ number (byte b 4) 32 ++ number (byte b 5) 32

-- words with a blank after each
unfoldable pub spaced : List ℕ → List ℕ
spaced [] = []
spaced (w ∷ ws) = hex w 32 ++ spaced ws
