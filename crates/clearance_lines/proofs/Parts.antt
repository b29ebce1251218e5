-- Blocks worked one after the other, what there is room for, and that no count overflows. Assumes nothing.
use mathlib.Core.Path.{◌≡◌, refl, sym, ◌∙◌}
use mathlib.Core.Bool.{true, false, ◌&&◌, true≢false}
use mathlib.Core.List.{List, [], ◌∷◌, ◌++◌, append-nil}
use Prim.Native.Nat.{ℕ, ◌+◌, ◌-◌, ◌*◌, ◌/◌, ◌%◌, ◌≤◌, ◌<◌}
use native.Mathlib.Omega.{arith}
use native.Mathlib.Numerals.{add-one}
use borrow.Author.Tests.{ltb-true, leb-true, lt-ltb, le-ltb, eq-eqb, ne_eqb}
use lib.Dec.{ltb, leb}
use lib.ListN.{length, take, drop, length-drop}
use lib.Seq.{take_all}
use Rattle.model.specs.declared.Totals.{Totals}
use Rattle.model.specs.Blocks.{whole_blocks, short_rest, blocks}
use Rattle.model.specs.Parts.{count_limit, part_size}
use Rattle.model.specs.Sheet.{total_line}
use Rattle.model.proofs.Blocks.{blocks_more}
use Rattle.model.proofs.DistanceCall.{both}
use Rattle.text.specs.declared.draft.Draft.{Draft}
use Rattle.text.specs.Written.{Wrote}
use Rattle.text.proofs.Pasted.{put-nothing}
use Rattle.text.proofs.Written.{wrote-nothing, wrote-then, wrote-most, left}
use Rattle.clearance_call.specs.declared.Cleared.{Cleared}
use Rattle.clearance_call.specs.declared.Cleared.TheVariants.{Refused, Clear, Touch, Open}
use Rattle.clearance_block.specs.declared.BlockCleared.{BlockCleared}
use Rattle.clearance_block.specs.Answer.{AnswerOf, AnswersOf}
use Rattle.clearance_lines.specs.Lines.{longest_line, line_of, lines_from, counted, totals_from}
use Rattle.clearance_lines.specs.Part.{Below, countable, fits, Worked, PartWorked}
use Rattle.clearance_lines.proofs.Folds.{lines-append, totals-append, answers-append, blocks-counted}

-- ---- the totals
pub below_less : {m n : ℕ} {t : Totals} → m ≤ n → Below m t → Below n t
below_less le h =
    record {
      blocks = omega (arith, h.blocks);
      clear = omega (arith, h.clear);
      contact = omega (arith, h.contact);
      undecided = omega (arith, h.undecided);
      refused = omega (arith, h.refused);
    }

-- an answer adds at most one to each
record Near (t t' : Totals) : Type 0 where
  pub blocks : t'.blocks ≤ t.blocks + 1
  pub clear : t'.clear ≤ t.clear + 1
  pub contact : t'.contact ≤ t.contact + 1
  pub undecided : t'.undecided ≤ t.undecided + 1
  pub refused : t'.refused ≤ t.refused + 1

near : (t : Totals) (x : Cleared) → Near t (counted t x)
near t (Refused number) =
    record { blocks = omega arith; clear = omega arith; contact = omega arith; undecided = omega arith; refused = omega arith }
near t (Clear pieces) =
    record { blocks = omega arith; clear = omega arith; contact = omega arith; undecided = omega arith; refused = omega arith }
near t (Touch u v pieces) =
    record { blocks = omega arith; clear = omega arith; contact = omega arith; undecided = omega arith; refused = omega arith }
near t (Open u pieces) =
    record { blocks = omega arith; clear = omega arith; contact = omega arith; undecided = omega arith; refused = omega arith }

pub below_more : (n : ℕ) (t : Totals) (x : Cleared) → Below n t → Below (n + 1) (counted t x)
below_more n t x h =
    let k = near t x in
    record {
      blocks = omega (arith, h.blocks, k.blocks);
      clear = omega (arith, h.clear, k.clear);
      contact = omega (arith, h.contact, k.contact);
      undecided = omega (arith, h.undecided, k.undecided);
      refused = omega (arith, h.refused, k.refused);
    }

-- ---- what there is room for
countable-below : (t : Totals) → countable t ≡ true → Below count_limit t
countable-below t e =
    let four = both (ltb t.blocks count_limit && ltb t.clear count_limit && ltb t.contact count_limit && ltb t.undecided count_limit)
    (ltb t.refused count_limit) e in
    let three = both (ltb t.blocks count_limit && ltb t.clear count_limit && ltb t.contact count_limit) (ltb t.undecided count_limit) four.0 in
    let two = both (ltb t.blocks count_limit && ltb t.clear count_limit) (ltb t.contact count_limit) three.0 in
    let one = both (ltb t.blocks count_limit) (ltb t.clear count_limit) two.0 in
    record {
      blocks = ltb-true _ _ one.0;
      clear = ltb-true _ _ one.1;
      contact = ltb-true _ _ two.1;
      undecided = ltb-true _ _ three.1;
      refused = ltb-true _ _ four.1;
    }

pub record Room (size room : ℕ) (t : Totals) : Type 0 where
  pub lines : longest_line * (size / 512) + longest_line + longest_line ≤ room
  pub small : Below count_limit t

pub fits-room : (size room : ℕ) (t : Totals) → fits size room t ≡ true → Room size room t
fits-room size room t e =
    let h = both (leb (size / 512 + 2) (room / longest_line)) (countable t) e in
    record { lines = omega (arith, leb-true (size / 512 + 2) (room / longest_line) h.0); small = countable-below t h.1 }

-- ---- blocks worked: none, one, and some after others
pub none-worked : (n : ℕ) (t : Totals) (p : Draft) → Worked n t [] p p t
unfolding lines_from totals_from AnswersOf
none-worked n t p = record { came = []; sound = tt; lines = wrote-nothing n p; totals = refl }

pub one-worked : {n : ℕ} {t t' : Totals} {b : List ℕ} {p p' : Draft} (a : BlockCleared) → AnswerOf b a → Wrote n p (line_of (t.blocks + 1) a) p'
    → t' ≡ counted t a.answer → Worked n t (b ∷ []) p p' t'
unfolding lines_from totals_from AnswersOf
one-worked {t = t} a h w q = record { came = a ∷ []; sound = (h, tt); lines = rw (append-nil (line_of (t.blocks + 1) a)) w; totals = q }

pub worked_then : {m n : ℕ} {t t₁ t₂ : Totals} {bs cs : List (List ℕ)} {p p₁ p₂ : Draft} → p.at ≤ length p.bytes.now → Worked m t bs p p₁ t₁
    → Worked n t₁ cs p₁ p₂ t₂ → Worked (m + n) t (bs ++ cs) p p₂ t₂
worked_then {t = t} {t₁ = t₁} {bs = bs} {cs = cs} inside w v =
    let xs = w.came in
    let ys = v.came in
    let number : t₁.blocks ≡ t.blocks + length xs = rw w.totals (blocks-counted t xs) in
    record {
      came = xs ++ ys;
      sound = answers-append bs cs xs ys w.sound v.sound;
      lines = rw (lines-append t.blocks xs ys, ← number) (wrote-then inside w.lines v.lines);
      totals = rw (totals-append t xs ys, ← w.totals) v.totals;
    }

pub worked-most : {m n : ℕ} {t t' : Totals} {bs : List (List ℕ)} {p p' : Draft} → m ≤ n → Worked m t bs p p' t' → Worked n t bs p p' t'
worked-most le w = record { came = w.came; sound = w.sound; lines = wrote-most le w.lines; totals = w.totals }

-- block i of a part
pub block-worked : {k m : ℕ} {t₀ t t' : Totals} {p₀ p p' : Draft} (part : List ℕ) (i : ℕ) (a : BlockCleared) → p₀.at ≤ length p₀.bytes.now
    → Worked k t₀ (whole_blocks i part) p₀ p t → AnswerOf (take 512 (drop (512 * i) part)) a → Wrote m p (line_of (t.blocks + 1) a) p'
    → t' ≡ counted t a.answer → Worked (k + m) t₀ (whole_blocks (i + 1) part) p₀ p' t'
block-worked part i a inside w h v q = rw (add-one i, blocks_more i part) (worked_then inside w (one-worked a h v q))

-- the rest of a part, by whether there is one: all the bytes behind the whole blocks
abbrev from : List ℕ → ℕ
from part = 512 * (length part / 512)

pub rest-worked : {n : ℕ} {t t' : Totals} {p p' : Draft} (part : List ℕ) (a : BlockCleared) → (length part % 512 ≡ 0 → ⊥)
    → AnswerOf (take (length part - from part) (drop (from part) part)) a → Wrote n p (line_of (t.blocks + 1) a) p' → t' ≡ counted t a.answer
    → Worked n t (short_rest part) p p' t'
rest-worked part a some h w q =
    let short : length (drop (from part) part) ≤ length part - from part = omega (arith, length-drop (from part) part) in
    rw (ne_eqb (length part % 512) 0 some) (one-worked a (rw (take_all (length part - from part) (drop (from part) part) short) at h) w q)

pub no-rest : (n : ℕ) (t : Totals) (p : Draft) (part : List ℕ) → length part % 512 ≡ 0 → Worked n t (short_rest part) p p t
no-rest n t p part none = rw (eq-eqb (length part % 512) 0 none) (none-worked n t p)

-- whole blocks first, then a rest
pub all-worked : {m n : ℕ} {t t₁ t₂ : Totals} {p p₁ p₂ : Draft} (part : List ℕ) → p.at ≤ length p.bytes.now
    → Worked m t (whole_blocks (length part / 512) part) p p₁ t₁ → Worked n t₁ (short_rest part) p₁ p₂ t₂ → Worked (m + n) t (blocks part) p p₂ t₂
unfolding blocks
all-worked part inside w v = worked_then inside w v

-- ---- a part: no room for it, the last, and one with more to come
module _ (t : Totals) (part d : List ℕ) where
  pub no_room : fits (length part) (length d) t ≡ false → PartWorked t part d d (record { at = 0; totals = t; last = true })
  no_room e = record { came = []; sound = λ h. absurd (true≢false (sym h ∙ e)); text = rw e (put-nothing d 0); totals = rw e; last = rw e }

module _ (t : Totals) (part d' : List ℕ) {n : ℕ} {t₁ : Totals} {p p₁ : Draft} (start : p.at ≡ 0) (w : Worked n t (blocks part) p p₁ t₁) where
  pub last-part : {m : ℕ} {p₂ : Draft} → fits (length part) (length p.bytes.now) t ≡ true → length part < part_size
      → Wrote m p₁ (total_line t₁) p₂ → d' ≡ p₂.bytes.now → PartWorked t part p.bytes.now d' (record { at = p₂.at; totals = t₁; last = true })
  last-part room short v e =
      let inside : p.at ≤ length p.bytes.now = omega arith in
      record {
        came = w.came;
        sound = λ h. w.sound;
        text = rw (room, lt-ltb (length part) part_size short) (rw start at (left (wrote-then inside w.lines (rw w.totals at v)) e));
        totals = rw room w.totals;
        last = rw (room, lt-ltb (length part) part_size short);
      }

  pub part-with-more : fits (length part) (length p.bytes.now) t ≡ true → part_size ≤ length part
      → d' ≡ p₁.bytes.now → PartWorked t part p.bytes.now d' (record { at = p₁.at; totals = t₁; last = false })
  part-with-more room full e = record {
    came = w.came;
    sound = λ h. w.sound;
    text = rw (room, le-ltb (length part) part_size full, append-nil (lines_from t.blocks w.came)) (rw start at (left w.lines e));
    totals = rw room w.totals;
    last = rw (room, le-ltb (length part) part_size full);
  }
