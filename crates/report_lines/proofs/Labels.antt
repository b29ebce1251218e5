-- The lines of a report: what each name is, how long they get, and one row more. Assumes nothing.
use mathlib.Core.Path.{◌≡◌, refl, sym, ap, ◌∙◌}
use mathlib.Core.Bool.{Bool, true, false, ◌&&◌}
use mathlib.Core.List.{List, [], ◌∷◌, ◌++◌, append_assoc, append-nil}
use Prim.Native.Nat.{ℕ, zero, suc, ◌+◌, ◌≤◌, ◌<◌}
use native.Mathlib.Omega.{arith}
use native.Mathlib.Numerals.{add-one}
use borrow.Author.Tests.{leb-true}
use lib.Dec.{leb}
use lib.ListN.{length, get_or, take}
use lib.Seq.{take_all}
use Rattle.report_lines.specs.Text.{labels, row_text, rows_text}

-- ---- names
-- whether all are of at most 11 bytes
unfoldable all_short : List (List ℕ) → Bool
all_short [] = true
all_short (l ∷ ls) = leb (length l) 11 && all_short ls

short-at : (ls : List (List ℕ)) (i : ℕ) → all_short ls ≡ true → length (get_or ls i []) ≤ 11
unfolding all_short
short-at [] i e = omega arith
short-at (l ∷ ls) i e = go i (leb (length l) 11) refl e (short-at ls)
  where
    go : (j : ℕ) (s : Bool) → leb (length l) 11 ≡ s → (s && all_short ls) ≡ true → ((k : ℕ) → all_short ls ≡ true → length (get_or ls k []) ≤ 11)
        → length (get_or (l ∷ ls) j []) ≤ 11
    go zero true p h rest = leb-true (length l) 11 p
    go (suc j) true p h rest = rest j h
    go j false p h rest = absurd (let z : ◌≡◌ {A = ℕ} 0 1 = cc in omega arith)

pub length_label : (row : ℕ) → length (get_or labels row []) ≤ 11
unfolding labels all_short
length_label row = short-at labels row refl

-- ---- lines
rows-more-of : (ls : List (List ℕ)) (ns : List ℕ) (i : ℕ) → i < length ls → i < length ns →
    rows_text (take (suc i) ls) (take (suc i) ns) ≡ rows_text (take i ls) (take i ns) ++ row_text (get_or ls i []) (get_or ns i 0)
unfolding rows_text
rows-more-of [] ns i h k = absurd (omega arith)
rows-more-of (l ∷ ls) [] i h k = absurd (omega arith)
rows-more-of (l ∷ ls) (n ∷ ns) zero h k = append-nil (row_text l n)
rows-more-of (l ∷ ls) (n ∷ ns) (suc i) h k =
    ap (λ (t : List ℕ). row_text l n ++ t) (rows-more-of ls ns i (omega arith) (omega arith)) ∙ sym (append_assoc (row_text l n) _ _)

labels-counted : length labels ≡ 28
unfolding labels
labels-counted = refl

-- the first i rows
abbrev pub first_rows : List ℕ → ℕ → List ℕ
first_rows ns i = rows_text (take i labels) (take i ns)

pub rows_more : (ns : List ℕ) (i : ℕ) → length ns ≡ 28 → i < 28 → first_rows ns (i + 1) ≡ first_rows ns i ++ row_text (get_or labels i []) (get_or ns i 0)
rows_more ns i e h = rw add-one (rows-more-of labels ns i (omega (arith, labels-counted)) (omega arith))

pub no_rows : (ns : List ℕ) → first_rows ns 0 ≡ []
unfolding rows_text
no_rows ns = refl

pub all-rows : (ns : List ℕ) (i : ℕ) → length ns ≡ 28 → 28 ≤ i → first_rows ns i ≡ rows_text labels ns
all-rows ns i e h = rw (take_all i labels (omega (arith, labels-counted)), take_all i ns (omega arith))
