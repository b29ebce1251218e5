-- The blocks of a file: one list, of which answers, conversions and reports are maps and folds. The last block is short where bytes are left over.
use Rattle.std.specs.Prelude.{ℕ, zero, suc, ◌*◌, ◌/◌, ◌%◌, Bool, true, false, ◌&&◌, cond, List, [], ◌∷◌, ◌++◌, eqb, length, take, drop, Result, Ok, Err}
use Rattle.model.specs.declared.Block.{Block}
use Rattle.model.specs.declared.BlockRefusal.{BlockRefusal}
use Rattle.model.specs.Block.{block_size, checked_block}

-- its first k blocks
unfoldable pub whole_blocks : ℕ → List ℕ → List (List ℕ)
whole_blocks zero b = []
whole_blocks (suc k) b = take block_size b ∷ whole_blocks k (drop block_size b)

-- what is left behind all whole ones
abbrev pub short_rest : List ℕ → List (List ℕ)
short_rest b = cond (eqb (length b % block_size) 0) [] (drop (block_size * (length b / block_size)) b ∷ [])

unfoldable pub blocks : List ℕ → List (List ℕ)
blocks b = whole_blocks (length b / block_size) b ++ short_rest b

-- block i, counted from 0
abbrev pub block_at : List ℕ → ℕ → List ℕ
block_at b i = take block_size (drop (block_size * i) b)

-- ---- which of them pass
abbrev pub is_good : Result Block BlockRefusal → Bool
is_good (Ok k) = true
is_good (Err r) = false

-- not refused with 9, 13, 10 or 11
abbrev pub passes : List ℕ → Bool
passes x = eqb (length x) block_size && is_good (checked_block x)
