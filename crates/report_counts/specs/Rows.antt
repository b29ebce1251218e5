-- Which rows of a report count an answer. The rows: 0 blocks, 1 clear, 2 overlapped, 3 failed, 4 hit, 5 to 16 hits by their fraction, 17 refused,
-- 18 to 27 refused by their number.
use Rattle.std.specs.Prelude.{ℕ, ◌+◌, cond, List, [], ◌∷◌, ◌++◌, ◌==◌, from_bits, nat_lt, Float, Ok, Err}
use Rattle.std.specs.Float.{binary32}
use Rattle.std.specs.Float.Ieee.{lt, eq}
use Rattle.model.specs.declared.Status.{Status}
use Rattle.model.specs.declared.Status.TheVariants.{Overlapped, Hit, Separated, Failed}
use Rattle.model.specs.declared.Verdict.{Verdict}
use Rattle.model.specs.Work.{BlockAnswer}

abbrev pub row_count : ℕ
row_count = 28

-- past the rows: what is counted there is counted nowhere
abbrev pub no_row : ℕ
no_row = 28

abbrev pub status_row : Status → ℕ
status_row Separated = 1
status_row Overlapped = 2
status_row Failed = 3
status_row Hit = 4

-- below 0; from k/8 on and below (k + 1)/8, row 5 + k; exactly 1; above it; else it is not a number. -0 is not below 0
unfoldable pub hit_row : Float → ℕ
hit_row t =
    cond (lt t (from_bits binary32 0)) 14
    (cond (lt t (from_bits binary32 0x3e00_0000)) 5
    (cond (lt t (from_bits binary32 0x3e80_0000)) 6
    (cond (lt t (from_bits binary32 0x3ec0_0000)) 7
    (cond (lt t (from_bits binary32 0x3f00_0000)) 8
    (cond (lt t (from_bits binary32 0x3f20_0000)) 9
    (cond (lt t (from_bits binary32 0x3f40_0000)) 10
    (cond (lt t (from_bits binary32 0x3f60_0000)) 11
    (cond (lt t (from_bits binary32 0x3f80_0000)) 12
    (cond (eq t (from_bits binary32 0x3f80_0000)) 13
    (cond (lt (from_bits binary32 0x3f80_0000) t) 15 16))))))))))

-- 3 to 11, and 13: no other number can occur
unfoldable pub refusal_row : ℕ → ℕ
refusal_row n = cond (n == 13) 27 (cond (nat_lt n 3) no_row (cond (nat_lt n 12) (n + 15) no_row))

abbrev pub detail_by : Status → Float → ℕ
detail_by Overlapped t = no_row
detail_by Hit t = hit_row t
detail_by Separated t = no_row
detail_by Failed t = no_row

abbrev pub verdict_detail : Verdict → ℕ
verdict_detail v = detail_by v.status v.contact.fraction

abbrev pub group_row : BlockAnswer → ℕ
group_row (Ok w) = status_row w.verdict.status
group_row (Err r) = 17

abbrev pub detail_row : BlockAnswer → ℕ
detail_row (Ok w) = verdict_detail w.verdict
detail_row (Err r) = refusal_row r.number

-- among the blocks, by status or refusal, by fraction or number
abbrev pub rows_of : BlockAnswer → List ℕ
rows_of x = 0 ∷ group_row x ∷ detail_row x ∷ []

-- of all answers
unfoldable pub rows_in : List BlockAnswer → List ℕ
rows_in [] = []
rows_in (x ∷ xs) = rows_of x ++ rows_in xs

-- how often a row comes among them
unfoldable pub times_in : ℕ → List ℕ → ℕ
times_in i [] = 0
times_in i (k ∷ ks) = cond (k == i) 1 0 + times_in i ks
