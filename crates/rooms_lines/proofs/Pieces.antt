-- How a line is made of its pieces. Assumes nothing.
use Rattle.std.proofs.Common.{Option, Some, None, Ok, Err}
use mathlib.Core.Path.{◌≡◌, refl}
use mathlib.Core.List.{List, [], ◌∷◌, ◌++◌, append_assoc}
use Prim.Native.Nat.{ℕ}
use lib.Ieee.{Float, binary32, to_bits}
use Rattle.model.specs.Text.{decimal, line}
use Rattle.text.specs.Put.{number, hex}
use Rattle.model.specs.declared.BlockRefusal.{BlockRefusal}
use Rattle.rooms_block.specs.declared.Proved.{Proved}
use Rattle.rooms_lines.specs.declared.part.Tally.{Tally}
use Rattle.rooms_lines.specs.Lines.{room_text, line_of, total_line}
use Rattle.rooms_lines.specs.Pieces.{two, room_piece, cells_piece}

pub two_is : (a b end : ℕ) → two a b end ≡ number a 32 ++ number b end
unfolding two
two_is a b end = refl

pub room-is : (room : Float) → room_piece (Some room) ≡ hex (to_bits binary32 room) 32
unfolding room_piece
room-is room = refl

pub no-room-is : room_piece None ≡ 45 ∷ 32 ∷ []
unfolding room_piece
no-room-is = refl

pub cells_is : (room : Option Float) (cells : List ℕ) → cells_piece room cells ≡ (48 ∷ 32 ∷ []) ++ room_piece room ++ cells ++ (10 ∷ [])
unfolding cells_piece
cells_is room cells = refl

-- ---- the lines
by-room : (n job : ℕ) (room : Option Float) (cells : List ℕ)
    → line (decimal n ∷ decimal job ∷ (48 ∷ []) ∷ room_text room ∷ cells ∷ []) ≡ two n job 32 ++ cells_piece room cells
unfolding line two cells_piece room_piece
by-room n job (Some room) cells = simp append_assoc
by-room n job None cells = simp append_assoc

by_number : (n job number' : ℕ) → line (decimal n ∷ decimal job ∷ decimal number' ∷ []) ≡ two n job 32 ++ number number' 10
unfolding line two
by_number n job number' = simp append_assoc

pub told-line-is : (n : ℕ) (p : Proved) → line_of n (Ok p) ≡ two n p.job 32 ++ cells_piece p.room p.cells
unfolding line_of
told-line-is n p = by-room n p.job p.room p.cells

pub refused-line-is : (n : ℕ) (e : BlockRefusal) → line_of n (Err e) ≡ two n e.job 32 ++ number e.number 10
unfolding line_of
refused-line-is n e = by_number n e.job e.number

pub total-is : (t : Tally) → total_line t ≡ (84 ∷ 79 ∷ 84 ∷ 65 ∷ 76 ∷ 32 ∷ []) ++ two t.blocks t.refused 10
unfolding total_line line two
total-is t = simp append_assoc
