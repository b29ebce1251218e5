-- Slips that look harmless, each with what the definition says where it would show, computed. Assumes nothing.
use mathlib.Core.Path.{◌≡◌, refl}
use mathlib.Core.List.{[], ◌∷◌}
use Rattle.model.specs.Text.{decimal_by, capital, hex_by}
use Rattle.text.specs.Put.{number, wide_hex}
use Rattle.text.specs.Read.{hex_digit, stored}

small-hex-digits : capital 10 ≡ 65
small-hex-digits = refl

number-without-its-end : number 7 10 ≡ 55 ∷ 10 ∷ []
unfolding decimal_by
number-without-its-end = refl

wide-digits-out-of-order : wide_hex 0x123456789ABCDEF0 10
    ≡ 49 ∷ 50 ∷ 51 ∷ 52 ∷ 53 ∷ 54 ∷ 55 ∷ 56 ∷ 57 ∷ 65 ∷ 66 ∷ 67 ∷ 68 ∷ 69 ∷ 70 ∷ 48 ∷ 10 ∷ []
unfolding hex_by
wide-digits-out-of-order = refl

-- `10 10`, the first of them decimal
decimals-read-as-hex : stored 1 0 0 (0 ∷ 0 ∷ []) (49 ∷ 48 ∷ 32 ∷ 49 ∷ 48 ∷ 10 ∷ []) ≡ 10 ∷ 16 ∷ []
unfolding stored
decimals-read-as-hex = refl

-- the bytes beside the digits are none
at-sign-read-as-a-digit : (hex_digit 64 ≡ 16) × (hex_digit 65 ≡ 10) × (hex_digit 70 ≡ 15) × (hex_digit 71 ≡ 16)
at-sign-read-as-a-digit = (refl, refl, refl, refl)

colon-read-as-a-digit : (hex_digit 47 ≡ 16) × (hex_digit 48 ≡ 0) × (hex_digit 57 ≡ 9) × (hex_digit 58 ≡ 16)
colon-read-as-a-digit = (refl, refl, refl, refl)
