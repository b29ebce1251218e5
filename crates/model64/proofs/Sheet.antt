-- Written by tests/written/wide.py from model, in f64.
-- The whole run, block by block and part by part: each line comes from its own number and its own 512 bytes, a file worked in parts has the text
-- of the whole, and every block is clear, contact, undecided or refused. Assumes nothing.
use Rattle.std.proofs.Common.{Ok, Err}
use mathlib.Core.Path.{◌≡◌, refl, sym, ap, ◌∙◌}
use mathlib.Core.Bool.{Bool, true, false, cond}
use mathlib.Core.List.{List, [], ◌∷◌, ◌++◌, append_assoc, append-nil, map}
use Prim.Native.Nat.{ℕ, zero, suc, ◌+◌, ◌*◌, ◌/◌, ◌%◌, ◌≤◌}
use native.Mathlib.Omega.{arith}
use lib.Ieee.{Format}
use borrow.Author.Tests.{eq-eqb}
use lib.Dec.{eqb}
use lib.ListN.{length, take, drop, length-append, length-drop}
use lib.Seq.{length-take-le}
use Rattle.model.specs.declared.Status.{Status}
use Rattle.model.specs.declared.Status.TheVariants.{Overlapped, Hit, Separated, Failed}
use Rattle.model.specs.declared.Totals.{Totals}
use Rattle.model64.specs.Work.{block_answer, BlockAnswer}
use Rattle.model.specs.Blocks.{whole_blocks, short_rest, blocks, block_at}
use Rattle.model.specs.Parts.{together}
use Rattle.model.specs.Sheet.{none, one_worked, total_line}
use Rattle.model64.specs.Sheet.{answer_of, whole_answers, rest_answer, answers, answer_line, lines_from, counted, totals_from}
use Rattle.model64.specs.Sheet.{part_text, sheet}
use Rattle.model.specs.Block.{refused}
use Rattle.model.proofs.Blocks.{map-append, blocks_more, blocks-in-two-parts, whole-counted, rest_of, rest-short}
use Rattle.model.proofs.Blocks as Blocks

-- ---- folds over answers in two parts
pub lines-append : (f : Format) (n : ℕ) (xs ys : List BlockAnswer) →
    lines_from f n (xs ++ ys) ≡ lines_from f n xs ++ lines_from f (n + length xs) ys
unfolding lines_from
lines-append f n [] ys = let e : n + 0 ≡ n = omega arith in rw e
lines-append f n (x ∷ xs) ys =
    let e : n + 1 + length xs ≡ n + suc (length xs) = omega arith in
    rw (lines-append f (n + 1) xs ys, e) (sym (append_assoc (answer_line f (n + 1) x) _ _))

pub totals-append : (t : Totals) (xs ys : List BlockAnswer) → totals_from t (xs ++ ys) ≡ totals_from (totals_from t xs) ys
unfolding totals_from
totals-append t [] ys = refl
totals-append t (x ∷ xs) ys = totals-append (counted t x) xs ys

-- ---- every block is counted once
abbrev pub Sums : Totals → Type 0
Sums t = t.blocks ≡ t.clear + t.contact + t.undecided + t.refused

one-counted : (t : Totals) (x : BlockAnswer) → (counted t x).blocks ≡ t.blocks + 1
one-counted t (Err r) = refl
one-counted t (Ok w) = go w.verdict.status
  where
    go : (s : Status) → (one_worked t s).blocks ≡ t.blocks + 1
    go Overlapped = refl
    go Hit = refl
    go Separated = refl
    go Failed = refl

one-sums : (t : Totals) (x : BlockAnswer) → Sums t → Sums (counted t x)
one-sums t (Err r) h = omega arith
one-sums t (Ok w) h = go w.verdict.status
  where
    go : (s : Status) → Sums (one_worked t s)
    go Overlapped = omega arith
    go Hit = omega arith
    go Separated = omega arith
    go Failed = omega arith

pub blocks-counted : (t : Totals) (xs : List BlockAnswer) → (totals_from t xs).blocks ≡ t.blocks + length xs
unfolding totals_from
blocks-counted t [] = omega arith
blocks-counted t (x ∷ xs) = omega (arith, blocks-counted (counted t x) xs, one-counted t x)

-- blocks = clear + contact + undecided + refused, after any answers
pub totals-add-up : (t : Totals) (xs : List BlockAnswer) → Sums t → Sums (totals_from t xs)
unfolding totals_from
totals-add-up t [] h = h
totals-add-up t (x ∷ xs) h = totals-add-up (counted t x) xs (one-sums t x h)

-- ---- the answers of whole blocks, and of a rest
pub answers-more : (f : Format) (k : ℕ) (b : List ℕ) → whole_answers f (suc k) b ≡ whole_answers f k b ++ (block_answer f (block_at b k) ∷ [])
answers-more f k b = ap (map (block_answer f)) (blocks_more k b) ∙ map-append (block_answer f) (whole_blocks k b) (block_at b k ∷ [])

pub length-map : {A B : Type 0} (g : A → B) (l : List A) → length (map g l) ≡ length l
length-map g [] = refl
length-map g (x ∷ l) = ap suc (length-map g l)

pub answers-counted : (f : Format) (k : ℕ) (b : List ℕ) → length (whole_answers f k b) ≡ k
answers-counted f k b = length-map (block_answer f) (whole_blocks k b) ∙ Blocks.blocks-counted k b

whole-answered : (f : Format) (k : ℕ) (b : List ℕ) → 512 * k ≤ length b → map (answer_of f) (whole_blocks k b) ≡ whole_answers f k b
unfolding whole_blocks
whole-answered f zero b inside = refl
whole-answered f (suc k) b inside =
    let size : length (take 512 b) ≡ 512 = length-take-le 512 b (omega (arith, inside)) in
    let left : 512 * k ≤ length (drop 512 b) = rw (length-drop 512 b) (omega (arith, inside)) in
    rw (eq-eqb (length (take 512 b)) 512 size, whole-answered f k (drop 512 b) left)

rest-answered : (f : Format) (b : List ℕ) (t : Bool) → map (answer_of f) (cond t [] (rest_of b ∷ [])) ≡ cond t [] (refused 0 9 ∷ [])
rest-answered f b true = refl
rest-answered f b false = rw (rest-short b)

-- whole blocks first, then a rest
pub answers-cut : (f : Format) (b : List ℕ) → answers f b ≡ whole_answers f (length b / 512) b ++ rest_answer (length b % 512)
unfolding answers blocks
answers-cut f b =
    map-append (answer_of f) (whole_blocks (length b / 512) b) (short_rest b)
    ∙ rw (whole-answered f (length b / 512) b (omega arith), rest-answered f b (eqb (length b % 512) 0))

-- where nothing is left over there are as many as blocks
pub answers-of-whole : (f : Format) (b : List ℕ) → length b % 512 ≡ 0 → length (answers f b) ≡ length b / 512
unfolding answers
answers-of-whole f b h = length-map (answer_of f) (blocks b) ∙ whole-counted b h

-- ---- each line from its own block
-- the line of block i, counted from 0: its number and its 512 bytes alone
abbrev pub line_at : Format → List ℕ → ℕ → List ℕ
line_at f b i = answer_line f (i + 1) (block_answer f (block_at b i))

-- g 0, g 1, .. g (k - 1), one after the other
unfoldable pub joined : (ℕ → List ℕ) → ℕ → List ℕ
joined g zero = []
joined g (suc k) = joined g k ++ g k

lines_more : (f : Format) (k : ℕ) (b : List ℕ) → lines_from f 0 (whole_answers f (suc k) b) ≡ lines_from f 0 (whole_answers f k b) ++ line_at f b k
unfolding lines_from
lines_more f k b =
    let count : 0 + length (whole_answers f k b) ≡ k = omega (arith, answers-counted f k b) in
    rw (answers-more f k b, lines-append f 0 (whole_answers f k b) (block_answer f (block_at b k) ∷ []), count, append-nil (line_at f b k))

pub lines-by-block : (f : Format) (k : ℕ) (b : List ℕ) → lines_from f 0 (whole_answers f k b) ≡ joined (line_at f b) k
unfolding joined lines_from whole_blocks
lines-by-block f zero b = refl
lines-by-block f (suc k) b = lines_more f k b ∙ ap (λ (l : List ℕ). l ++ line_at f b k) (lines-by-block f k b)

-- the whole text: the lines of the whole blocks, that of a rest, and the totals
pub sheet-by-block : (f : Format) (b : List ℕ) →
    let k = length b / 512 in
    sheet f b ≡ (joined (line_at f b) k ++ lines_from f k (rest_answer (length b % 512))) ++ total_line (totals_from none (answers f b))
unfolding sheet
sheet-by-block f b =
    let k = length b / 512 in
    let rest = rest_answer (length b % 512) in
    let count : 0 + length (whole_answers f k b) ≡ k = omega (arith, answers-counted f k b) in
    let cut : lines_from f 0 (answers f b) ≡ joined (line_at f b) k ++ lines_from f k rest =
    ap (lines_from f 0) (answers-cut f b) ∙ lines-append f 0 (whole_answers f k b) rest ∙ rw (count, lines-by-block f k b) in
    rw cut

-- ---- a file in two parts, the first of whole blocks
pub answers-in-two-parts : (f : Format) (p s : List ℕ) → length p % 512 ≡ 0 → answers f (p ++ s) ≡ answers f p ++ answers f s
unfolding answers
answers-in-two-parts f p s h = ap (map (answer_of f)) (blocks-in-two-parts p s h) ∙ map-append (answer_of f) (blocks p) (blocks s)

-- ---- a file worked in parts
-- part by part, the totals carried on; the last part ends with the totals
unfoldable pub by_parts : Format → Totals → List (List ℕ) → List ℕ
by_parts f t [] = total_line t
by_parts f t (p ∷ []) = part_text f t p true
by_parts f t (p ∷ q ∷ r) = part_text f t p false ++ by_parts f (totals_from t (answers f p)) (q ∷ r)

-- all parts but the last are whole blocks
unfoldable pub WholeParts : List (List ℕ) → Type 0
WholeParts [] = Unit {0}
WholeParts (p ∷ []) = Unit {0}
WholeParts (p ∷ q ∷ r) = (length p % 512 ≡ 0) × WholeParts (q ∷ r)

pub part-first : (f : Format) (t : Totals) (p s : List ℕ) → length p % 512 ≡ 0 →
    part_text f t (p ++ s) true ≡ part_text f t p false ++ part_text f (totals_from t (answers f p)) s true
part-first f t p s h =
    let xs = answers f p in
    let ys = answers f s in
    rw (answers-in-two-parts f p s h, lines-append f t.blocks xs ys, totals-append t xs ys, blocks-counted t xs, append-nil (lines_from f t.blocks xs))
    (append_assoc (lines_from f t.blocks xs) _ _)

pub parts_from : (f : Format) (t : Totals) (ps : List (List ℕ)) → WholeParts ps → by_parts f t ps ≡ part_text f t (together ps) true
unfolding by_parts WholeParts together answers blocks whole_blocks lines_from totals_from
parts_from f t [] w = refl
parts_from f t (p ∷ []) w = rw (append-nil p)
parts_from f t (p ∷ q ∷ r) w =
    ap (λ (l : List ℕ). part_text f t p false ++ l) (parts_from f (totals_from t (answers f p)) (q ∷ r) w.1) ∙ sym (part-first f t p (together (q ∷ r)) w.0)

-- a file worked in such parts, 64 KiB or any other, has the text of the whole
pub parts-make-whole : (f : Format) (ps : List (List ℕ)) → WholeParts ps → by_parts f none ps ≡ sheet f (together ps)
unfolding sheet
parts-make-whole f ps w = parts_from f none ps w
