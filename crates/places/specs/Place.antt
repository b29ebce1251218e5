-- A place on the way in 2^24-ths, as the pattern of an f32.
use Rattle.std.specs.Prelude.{ℕ, zero, suc, ◌+◌, ◌*◌, cond, eqb, ltb}

-- m doubled until it has 24 digits, at most so often; each doubling takes one from the exponent
unfoldable pub pattern_from : ℕ → ℕ → ℕ
pattern_from zero m = 102 * 8388608 + m
pattern_from (suc left) m = cond (ltb m 8388608) (pattern_from left (2 * m)) ((103 + left) * 8388608 + m)

-- k / 2^24; a place behind the end counts as the end
unfoldable pub place_bits : ℕ → ℕ
place_bits k = cond (eqb k 0) 0 (cond (ltb k 16777216) (pattern_from 23 k) 1065353216)
