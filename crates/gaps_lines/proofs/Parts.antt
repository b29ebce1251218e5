-- Lines one after the other, what there is room for, and that no count overflows. Assumes nothing.
use Rattle.std.proofs.Common.{Result, Ok, Err}
use mathlib.Core.Path.{◌≡◌, refl, sym, ap, ◌∙◌}
use mathlib.Core.Bool.{Bool, true, false, ◌&&◌, cond}
use mathlib.Core.List.{List, [], ◌∷◌, ◌++◌, append-nil, append_assoc}
use Prim.Native.Nat.{ℕ, suc, ◌+◌, ◌*◌, ◌/◌, ◌%◌, ◌≤◌}
use native.Mathlib.Omega.{arith}
use native.Mathlib.Numerals.{add-one}
use borrow.Author.Tests.{eq-eqb, ltb-true, leb-true}
use lib.Dec.{eqb, ltb, leb}
use lib.Ieee.{binary32}
use lib.ListN.{length, take, drop, length-drop}
use lib.Seq.{length-take-le}
use Rattle.model.specs.declared.Block.{Block}
use Rattle.model.specs.declared.BlockRefusal.{BlockRefusal}
use Rattle.model.specs.declared.Verdict.{Verdict}
use Rattle.model.specs.Block.{checked_block, most_points, refused}
use Rattle.model.specs.Blocks.{whole_blocks, short_rest, blocks, is_good}
use Rattle.model.specs.Parts.{count_limit}
use Rattle.model.specs.Sheet.{answer_of, refused_line}
use Rattle.model.specs.Wire.{byte}
use Rattle.model.specs.Work.{block_answer, answer_by, BlockAnswer, worked}
use Rattle.block.proofs.Passed.{is-passed, fields-of}
use Rattle.model.proofs.Blocks.{blocks_more, rest_of, rest-short}
use Rattle.model.proofs.DistanceCall.{both}
use Rattle.text.specs.declared.draft.Draft.{Draft}
use Rattle.text.specs.Written.{Wrote}
use Rattle.text.proofs.Written.{wrote-then}
use Rattle.gaps_lines.specs.declared.part.Tally.{Tally}
use Rattle.gaps_lines.specs.Gaps.{longest_line, line_by, line_of, lines_from, counted, tally_from}
use Rattle.gaps_lines.specs.Part.{Below, rest_line, rest_tally, fits}

-- ---- folds over blocks in two parts
pub lines-append : (n : ℕ) (xs ys : List (List ℕ)) → lines_from binary32 n (xs ++ ys) ≡ lines_from binary32 n xs ++ lines_from binary32 (n + length xs) ys
unfolding lines_from
lines-append n [] ys = let e : n + 0 ≡ n = omega arith in rw e
lines-append n (x ∷ xs) ys =
    let e : n + 1 + length xs ≡ n + suc (length xs) = omega arith in
    rw (lines-append (n + 1) xs ys, e) (sym (append_assoc (line_of binary32 (n + 1) x) _ _))

pub tally-append : (t : Tally) (xs ys : List (List ℕ)) → tally_from binary32 t (xs ++ ys) ≡ tally_from binary32 (tally_from binary32 t xs) ys
unfolding tally_from
tally-append t [] ys = refl
tally-append t (x ∷ xs) ys = tally-append (counted t (answer_of binary32 x)) xs ys

-- every block is counted once
one-counted : (t : Tally) (x : BlockAnswer) → (counted t x).blocks ≡ t.blocks + 1
one-counted t (Ok w) = refl
one-counted t (Err r) = refl

pub blocks-counted : (t : Tally) (xs : List (List ℕ)) → (tally_from binary32 t xs).blocks ≡ t.blocks + length xs
unfolding tally_from
blocks-counted t [] = omega arith
blocks-counted t (x ∷ xs) =
    omega (arith, blocks-counted (counted t (answer_of binary32 x)) xs, one-counted t (answer_of binary32 x))

-- and no more are refused than there are
one-refused : (t : Tally) (x : BlockAnswer) → t.refused ≤ t.blocks → (counted t x).refused ≤ (counted t x).blocks
one-refused t (Ok w) h = omega arith
one-refused t (Err r) h = omega arith

pub refused-among : (t : Tally) (xs : List (List ℕ)) → t.refused ≤ t.blocks → (tally_from binary32 t xs).refused ≤ (tally_from binary32 t xs).blocks
unfolding tally_from
refused-among t [] h = h
refused-among t (x ∷ xs) h = refused-among (counted t (answer_of binary32 x)) xs (one-refused t (answer_of binary32 x) h)

-- ---- the counts
pub below_less : {m n : ℕ} {t : Tally} → m ≤ n → Below m t → Below n t
below_less le h = record { blocks = omega (arith, h.blocks); refused = omega (arith, h.refused) }

pub below_more : (n : ℕ) (t : Tally) (x : BlockAnswer) → Below n t → Below (n + 1) (counted t x)
below_more n t (Ok w) h = record { blocks = omega (arith, h.blocks); refused = omega (arith, h.refused) }
below_more n t (Err r) h = record { blocks = omega (arith, h.blocks); refused = omega (arith, h.refused) }

-- ---- what there is room for
pub record Room (size room : ℕ) (t : Tally) : Type 0 where
  pub lines : longest_line * (size / 512) + longest_line + longest_line ≤ room
  pub small : Below count_limit t

pub fits-room : (size room : ℕ) (t : Tally) → fits size room t ≡ true → Room size room t
fits-room size room t e =
    let two = both (leb (size / 512 + 2) (room / longest_line) && ltb t.blocks count_limit) (ltb t.refused count_limit) e in
    let one = both (leb (size / 512 + 2) (room / longest_line)) (ltb t.blocks count_limit) two.0 in
    record {
      lines = omega (arith, leb-true (size / 512 + 2) (room / longest_line) one.0);
      small = record { blocks = ltb-true _ _ one.1; refused = ltb-true _ _ two.1 };
    }

-- ---- a turn over the blocks of a part
module _ (t₀ t : Tally) (b : List ℕ) (i : ℕ) (inside : 512 * i + 512 ≤ length b)
    (so_far : t ≡ tally_from binary32 t₀ (whole_blocks i b)) where
  abbrev x : List ℕ
  x = take 512 (drop (512 * i) b)

  size : length x ≡ 512
  size = length-take-le 512 (drop (512 * i) b) (rw (length-drop (512 * i) b) (omega (arith, inside)))

  answered : answer_of binary32 x ≡ block_answer binary32 x
  answered = rw (eq-eqb (length x) 512 size)

  more : whole_blocks (i + 1) b ≡ whole_blocks i b ++ (x ∷ [])
  more = rw (add-one i) (blocks_more i b)

  number : t.blocks ≡ t₀.blocks + length (whole_blocks i b)
  number = rw so_far (blocks-counted t₀ (whole_blocks i b))

  pub line_step : {k m : ℕ} {p₀ p p' : Draft} → p₀.at ≤ length p₀.bytes.now → Wrote k p₀ (lines_from binary32 t₀.blocks (whole_blocks i b)) p
      → Wrote m p (line_by binary32 (t.blocks + 1) x (block_answer binary32 x)) p'
      → Wrote (k + m) p₀ (lines_from binary32 t₀.blocks (whole_blocks (i + 1) b)) p'
  unfolding lines_from
  line_step start v w =
      let one = line_by binary32 (t.blocks + 1) x (block_answer binary32 x) in
      rw (more, lines-append t₀.blocks (whole_blocks i b) (x ∷ []), ← number, answered, append-nil one) (wrote-then start v w)

  pub tally-step : {t' : Tally} → t' ≡ counted t (block_answer binary32 x) → t' ≡ tally_from binary32 t₀ (whole_blocks (i + 1) b)
  unfolding tally_from
  tally-step e = e ∙ rw (more, tally-append t₀ (whole_blocks i b) (x ∷ []), ← so_far, answered)

-- ---- the rest is the short block, which is refused by 9
rest_lines : (b : List ℕ) (t : Tally) → lines_from binary32 t.blocks (short_rest b) ≡ rest_line t (length b % 512)
unfolding lines_from
rest_lines b t = go (eqb (length b % 512) 0)
  where
    go : (none : Bool) → lines_from binary32 t.blocks (cond none [] (rest_of b ∷ [])) ≡ cond none [] (refused_line (t.blocks + 1) 0 9)
    go true = refl
    go false = rw (rest-short b) (append-nil (refused_line (t.blocks + 1) 0 9))

rest-tally : (b : List ℕ) (t : Tally) → tally_from binary32 t (short_rest b) ≡ rest_tally t (length b % 512)
unfolding tally_from
rest-tally b t = go (eqb (length b % 512) 0)
  where
    go : (none : Bool) → tally_from binary32 t (cond none [] (rest_of b ∷ [])) ≡ cond none t (counted t (refused 0 9))
    go true = refl
    go false = rw (rest-short b)

-- ---- the whole blocks and the rest are the blocks of the part
in_two : (b : List ℕ) → blocks b ≡ whole_blocks (length b / 512) b ++ short_rest b
unfolding blocks
in_two b = refl

module _ (t₀ t : Tally) (b : List ℕ) (so_far : t ≡ tally_from binary32 t₀ (whole_blocks (length b / 512) b)) where
  pub all_lines : {k m : ℕ} {p₀ p p' : Draft} → p₀.at ≤ length p₀.bytes.now
      → Wrote k p₀ (lines_from binary32 t₀.blocks (whole_blocks (length b / 512) b)) p
      → Wrote m p (rest_line t (length b % 512)) p' → Wrote (k + m) p₀ (lines_from binary32 t₀.blocks (blocks b)) p'
  all_lines start v w =
      let xs = whole_blocks (length b / 512) b in
      let number : t.blocks ≡ t₀.blocks + length xs = rw so_far (blocks-counted t₀ xs) in
      rw (in_two b, lines-append t₀.blocks xs (short_rest b), ← number, rest_lines b t) (wrote-then start v w)

  pub all-tally : {t' : Tally} → t' ≡ rest_tally t (length b % 512) → t' ≡ tally_from binary32 t₀ (blocks b)
  all-tally e =
      let xs = whole_blocks (length b / 512) b in
      e ∙ sym (rest-tally b t) ∙ rw (in_two b, tally-append t₀ xs (short_rest b), ← so_far)

-- ---- a block that is worked has passed its checks, so its outlines have at most sixteen points each
pub worked-counts : (b : List ℕ) {job : ℕ} {v : Verdict} → block_answer binary32 b ≡ worked job v → (byte b 4 ≤ most_points) × (byte b 5 ≤ most_points)
unfolding block_answer
worked-counts b {job} {v} e = go (checked_block b) refl e
  where
    go : (k : Result Block BlockRefusal) → checked_block b ≡ k → answer_by binary32 b k ≡ worked job v → (byte b 4 ≤ most_points) × (byte b 5 ≤ most_points)
    go (Ok k) c e = let f = fields-of b (is-passed b (ap is_good c)).fields in (f.count-a, f.count-b)
    go (Err r) c e = absurd (let z : ◌≡◌ {A = ℕ} 0 1 = cc in omega (arith, z))
