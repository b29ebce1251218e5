-- Two printed lines, read by computing. Assumes nothing.
use Rattle.std.proofs.Common.{None}
use mathlib.Core.Path.{◌≡◌, refl}
use mathlib.Core.List.{List, [], ◌∷◌}
use Prim.Native.Nat.{ℕ}
use lib.Ieee.{of_bits, lt, eq}
use Rattle.model.specs.Text.{decimal_by, decimal, hex_by, line}
use Rattle.model.specs.Counted.{after_blanks}
use Rattle.numerals.specs.Numerals.{said_from, word_from}
use Rattle.report_counts.specs.Rows.{hit_row}
use Rattle.report_counts.specs.Largest.{seen_at}
use Rattle.report_from_lines.specs.Printed.{up_to_blank, calls_field, searches_field, steps_field, count_of, is_hit_in, is_refused_by, Printed, shows}

-- 5 2113 0 H 3F000000 .. 20 6 117 0 0 1 1: a hit at one half
abbrev hit_line : List ℕ
hit_line =
    line
    (decimal 5 ∷ decimal 2113 ∷ decimal 0 ∷ (72 ∷ []) ∷ hex_by 8 0x3F000000 ∷ hex_by 8 0 ∷ hex_by 8 0 ∷ hex_by 8 0xBF800000 ∷ hex_by 8 0 ∷ decimal 20
    ∷ decimal 6 ∷ decimal 117 ∷ decimal 0 ∷ decimal 0 ∷ (45 ∷ []) ∷ (45 ∷ []) ∷ [])

-- 6 7 10: refused
abbrev refused_line : List ℕ
refused_line = line (decimal 6 ∷ decimal 7 ∷ decimal 10 ∷ [])

abbrev both : List (List ℕ)
both = hit_line ∷ refused_line ∷ []

-- of the third sheet
abbrev third : List ℕ → Printed
third l = record { sheet = 3; line = l }

-- one half belongs to the eighth that it begins, row 9, and not to the one before it
pub hit-row : (count_of (is_hit_in 9) both ≡ 1) × (count_of (is_hit_in 8) both ≡ 0)
unfolding count_of line decimal_by hex_by after_blanks up_to_blank said_from word_from hit_row lt eq of_bits
hit-row = (refl, refl)

pub refusal-row : (count_of (is_refused_by 10) both ≡ 1) × (count_of (is_refused_by 7) both ≡ 0)
unfolding count_of line decimal_by hex_by after_blanks up_to_blank said_from
refusal-row = (refl, refl)

pub counts-shown : (shows calls_field (third hit_line) ≡ seen_at 20 3 5) × (shows searches_field (third hit_line) ≡ seen_at 6 3 5)
    × (shows steps_field (third hit_line) ≡ seen_at 117 3 5) × (shows calls_field (third refused_line) ≡ None)
unfolding line decimal_by hex_by after_blanks up_to_blank said_from
counts-shown = (refl, refl, refl, refl)
