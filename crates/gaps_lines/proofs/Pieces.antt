-- How a line is made of its pieces, and how long the gaps of one get. Assumes nothing.
use mathlib.Core.Path.{◌≡◌, refl, sym, ap, ◌∙◌}
use mathlib.Core.List.{List, [], ◌∷◌, ◌++◌, append_assoc, append-nil}
use Prim.Native.Nat.{ℕ, zero, suc, ◌+◌, ◌*◌}
use native.Mathlib.Omega.{arith}
use native.Mathlib.Numerals.{add-one}
use lib.Ieee.{Float, binary32, to_bits}
use lib.ListN.{length, length-append}
use Rattle.model.specs.declared.Sweep.{Sweep}
use Rattle.model.specs.Sheet.{refused_line}
use Rattle.model.specs.Text.{decimal, hex_float, line}
use Rattle.model.specs.Work.{floats_at, move_at}
use Rattle.text.specs.Put.{number}
use Rattle.text.proofs.Lengths.{length-hex}
use Rattle.gaps_lines.specs.declared.part.Tally.{Tally}
use Rattle.gaps_lines.specs.Gaps.{gap_at, gap_fields, block_gaps, worked_line, total_line}
use Rattle.gaps_lines.specs.Pieces.{two, gap_text, gap_texts, gaps_text, gaps_room, block_text}

pub two_is : (a b end : ℕ) → two a b end ≡ number a 32 ++ number b end
unfolding two
two_is a b end = refl

-- ---- gaps, one more at a time
module _ (outline_a : List Float) (wa : Sweep) (outline_b : List Float) (wb : Sweep) (most : Float) where
  abbrev text : ℕ → ℕ → List ℕ
  text = gap_text outline_a wa outline_b wb most

  abbrev texts : ℕ → ℕ → List ℕ
  texts = gap_texts outline_a wa outline_b wb most

  abbrev fields : ℕ → ℕ → List (List ℕ)
  fields = gap_fields binary32 outline_a wa outline_b wb most

  pub length-gap : (k end : ℕ) → length (text k end) ≡ 9
  unfolding gap_text
  length-gap k end = length-hex (to_bits binary32 (gap_at binary32 outline_a wa outline_b wb most k)) end

  texts-more : (k n : ℕ) → texts k (n + 1) ≡ texts k n ++ text (k + n) 32
  unfolding gap_texts
  texts-more k n = rw (add-one n) (go k n)
    where
      go : (k n : ℕ) → texts k (suc n) ≡ texts k n ++ text (k + n) 32
      go k zero = let e : k + 0 ≡ k = omega arith in rw e (append-nil (text k 32))
      go k (suc n) =
          let e : k + suc n ≡ k + 1 + n = omega arith in
          rw e (ap (λ (l : List ℕ). text k 32 ++ l) (go (k + 1) n) ∙ sym (append_assoc (text k 32) (texts (k + 1) n) (text (k + 1 + n) 32)))

  pub gaps-more : (k : ℕ) → texts 0 (k + 1) ≡ texts 0 k ++ text k 32
  gaps-more k = let e : 0 + k ≡ k = omega arith in texts-more 0 k ∙ rw e

  length-texts : (k n : ℕ) → length (texts k n) ≡ 9 * n
  unfolding gap_texts
  length-texts k zero = refl
  length-texts k (suc n) =
      rw (length-append (text k 32) (texts (k + 1) n)) (omega (arith, length-gap k 32, length-texts (k + 1) n))

  pub gaps-are : gaps_text outline_a wa outline_b wb most ≡ texts 0 256 ++ text 256 10
  unfolding gaps_text
  gaps-are = refl

  pub length-gaps : length (gaps_text outline_a wa outline_b wb most) ≡ gaps_room
  length-gaps = rw (gaps-are, length-append (texts 0 256) (text 256 10)) (omega (arith, length-texts 0 256, length-gap 256 10))

  -- the fields of a line, with a blank between and a newline
  fields-line : (k n : ℕ) → line (fields k (suc n)) ≡ texts k n ++ text (k + n) 10
  unfolding line gap_fields gap_texts gap_text
  fields-line k zero = let e : k + 0 ≡ k = omega arith in rw e
  fields-line k (suc n) =
      let e : k + suc n ≡ k + 1 + n = omega arith in
      rw e
      (ap (λ (l : List ℕ). hex_float binary32 (gap_at binary32 outline_a wa outline_b wb most k) ++ (32 ∷ l)) (fields-line (k + 1) n)
      ∙ simp append_assoc)

  three-first : (a b c : List ℕ) (k n : ℕ) → line (a ∷ b ∷ c ∷ fields k (suc n)) ≡ a ++ (32 ∷ b ++ (32 ∷ c ++ (32 ∷ line (fields k (suc n)))))
  unfolding line gap_fields
  three-first a b c k n = refl

  pub gaps-line : (n job : ℕ) → line (decimal n ∷ decimal job ∷ (48 ∷ []) ∷ fields 0 257)
      ≡ two n job 32 ++ (48 ∷ 32 ∷ []) ++ gaps_text outline_a wa outline_b wb most
  unfolding two
  gaps-line n job = three-first (decimal n) (decimal job) (48 ∷ []) 0 256 ∙ rw (fields-line 0 256, gaps-are) (simp append_assoc)

-- ---- the lines
-- the numbers of a block by their places
pub worked-is : (n job : ℕ) (b : List ℕ) → worked_line binary32 n job b ≡ two n job 32 ++ (48 ∷ 32 ∷ []) ++ block_text b
unfolding worked_line block_gaps block_text move_at floats_at
worked-is n job b = gaps-line _ _ _ _ _ n job

pub length-block : (b : List ℕ) → length (block_text b) ≡ gaps_room
unfolding block_text
length-block b = length-gaps _ _ _ _ _

pub refused-is : (n job k : ℕ) → refused_line n job k ≡ two n job 32 ++ number k 10
unfolding refused_line line two
refused-is n job k = simp append_assoc

pub total-is : (t : Tally) → total_line t ≡ (84 ∷ 79 ∷ 84 ∷ 65 ∷ 76 ∷ 32 ∷ []) ++ two t.blocks t.refused 10
unfolding total_line line two
total-is t = simp append_assoc
