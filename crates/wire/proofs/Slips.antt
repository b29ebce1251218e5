-- Slips that look harmless, each with what the definition says where it would show, computed. Assumes nothing.
use mathlib.Core.Path.{◌≡◌, refl}
use mathlib.Core.List.{[], ◌∷◌}
use Rattle.model.specs.Wire.{byte}
use Rattle.wire.specs.Bytes.{word_bytes}

byte-missing-is-one : byte (5 ∷ []) 1 ≡ 0
byte-missing-is-one = refl

bytes-big-endian : word_bytes 0x04030201 ≡ 1 ∷ 2 ∷ 3 ∷ 4 ∷ []
bytes-big-endian = refl
