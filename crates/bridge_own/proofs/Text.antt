-- What `fields` and `sheet_lines` write at binary32, their f64 crates write at binary64. Assumes nothing.
use Prim.Native.Nat.{ℕ}
use mathlib.Core.Path.{◌≡◌, refl}
use lib.Ieee.{binary32, binary64}
use Rattle.model.specs.declared.Contact.{Contact}
use Rattle.model.specs.Work.{BlockAnswer}
use Rattle.fields.specs.Floats.{floats}
use Rattle.fields64.specs.Floats.{floats as floats64}
use Rattle.sheet_lines.specs.Part.{longest_line, line_for}
use Rattle.sheet_lines64.specs.Part.{longest_line as longest_line64, line_for as line_for64}
use Rattle.bridge.specs.Wide.{contact64, block_answer64}
use Rattle.bridge.proofs.Sheet.{line_same}
use Rattle.bridge_own.specs.Text.{floats_at, line_at}

pub floats_same : (c : Contact) → (floats c ≡ floats_at binary32 c) × (floats64 (contact64 c) ≡ floats_at binary64 c)
unfolding floats floats64
floats_same c = (refl, refl)

pub line-for-same : (n : ℕ) (x : BlockAnswer) (room : ℕ) →
    (line_for n x room ≡ line_at binary32 longest_line n x room) × (line_for64 n (block_answer64 x) room ≡ line_at binary64 longest_line64 n x room)
line-for-same n x room = (refl, rw (line_same binary64 n x))
