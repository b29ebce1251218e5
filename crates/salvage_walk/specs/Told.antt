-- What a reader may rely on: runs of skipped bytes and kept blocks, one behind another, go over a file from its start to its end.
use Rattle.std.specs.Prelude.{◌≡◌, ℕ, ◌+◌, ◌*◌, ◌≤◌, ◌<◌, Bool, true, false, List, [], ◌∷◌, ◌++◌, length, take, drop}
use Rattle.model.specs.Block.{block_size}
use Rattle.text.specs.Put.{number}
use Rattle.model.specs.Blocks.{passes}
use Rattle.model.specs.Parts.{together}
use Rattle.salvage_walk.specs.Walk.{total_text, file_of, text_of}

pub record Run : Type 0 where
  pub place : ℕ
  pub size : ℕ

-- the 512 bytes from a place on, fewer where the file ends before
abbrev pub there : List ℕ → ℕ → List ℕ
there b p = take block_size (drop p b)

-- from a place on; after a run comes no other, so runs are as long as they can be
pub data Told (b : List ℕ) : Bool → ℕ → List Run → List (List ℕ) → Type 0 where
  end : {free : Bool} {p : ℕ} → p ≡ length b → Told b free p [] []
  block : {free : Bool} {p : ℕ} {rs : List Run} {ks : List (List ℕ)} → passes (there b p) ≡ true → Told b true (p + block_size) rs ks
      → Told b free p rs (there b p ∷ ks)
  run : {p n : ℕ} {rs : List Run} {ks : List (List ℕ)} → 1 ≤ n → p + n ≤ length b → ((k : ℕ) → p ≤ k → k < p + n → passes (there b k) ≡ false)
      → Told b false (p + n) rs ks → Told b true p (record { place = p; size = n } ∷ rs) ks

-- ---- in numbers, and printed
unfoldable pub sizes : List Run → ℕ
sizes [] = 0
sizes (r ∷ rs) = r.size + sizes rs

unfoldable pub printed : List Run → List ℕ
printed [] = []
printed (r ∷ rs) = number r.place 32 ++ (number r.size 10 ++ printed rs)

-- what is told of a file, and written
pub record Salvage (b : List ℕ) : Type 0 where
  pub runs : List Run
  pub blocks : List (List ℕ)
  pub told : Told b true 0 runs blocks
  pub text : text_of b ≡ printed runs ++ (total_text ++ (number (length blocks) 32 ++ number (sizes runs) 10))
  pub file : file_of b ≡ together blocks
  pub counts : block_size * length blocks + sizes runs ≡ length b
