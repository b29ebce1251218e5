-- Lent bytes with a text written on them as far as a place.
use Rattle.std.specs.Prelude.{◌≡◌, ℕ, ◌+◌, ◌≤◌, List, length}
use Rattle.text.specs.declared.draft.Draft.{Draft}
use Rattle.text.specs.Put.{pasted}

-- the same bytes with s written from the place on, which is then after s
unfoldable pub written : Draft → List ℕ → Draft
written p s = record {
  bytes = record { ref_ptr = p.bytes.ref_ptr; ghost_name = p.bytes.ghost_name; now = pasted p.bytes.now p.at s };
  at = p.at + length s;
}

-- room for n bytes from the place on
abbrev pub Room : ℕ → Draft → Type 0
Room n p = p.at + n ≤ length p.bytes.now

-- p' is p with s written on it, which is at most n bytes
pub record Wrote (n : ℕ) (p : Draft) (s : List ℕ) (p' : Draft) : Type 0 where
  pub is : p' ≡ written p s
  pub same : p'.bytes.ghost_name ≡ p.bytes.ghost_name
  pub most : p'.at ≤ p.at + n
  pub size : length p'.bytes.now ≡ length p.bytes.now
