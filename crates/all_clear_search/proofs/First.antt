-- Blocks searched one after the other, and in two parts. Assumes nothing.
use Rattle.std.proofs.Common.{Result, Ok, Err}
use mathlib.Core.Path.{◌≡◌, refl, sym, ap, ◌∙◌}
use mathlib.Core.Bool.{Bool, true, false, true≢false, ◌||◌}
use mathlib.Core.List.{List, [], ◌∷◌, ◌++◌}
use Prim.Native.Nat.{ℕ, zero, suc, ◌+◌, ◌-◌, ◌*◌, ◌/◌, ◌%◌, ◌≤◌, ◌<◌}
use native.Mathlib.Omega.{arith}
use borrow.Author.Tests.{eqb-true, lt-ltb, le-ltb}
use lib.Dec.{eqb, ltb}
use lib.Ieee.{Float}
use lib.ListN.{length, take, drop, get_or}
use lib.Seq.{drop-drop}
use Rattle.model.specs.declared.Block.{Block}
use Rattle.model.specs.declared.BlockRefusal.{BlockRefusal}
use Rattle.model.specs.Block.{checked_block}
use Rattle.model.specs.Blocks.{whole_blocks, blocks}
use Rattle.model.proofs.Blocks.{blocks-counted, rest_of, rest-short, all_whole, rest-last}
use Rattle.model.specs.Parts.{count_limit, part_size}
use Rattle.planned.specs.Planned as planned
use Rattle.clearance_call.specs.declared.Cleared.{Cleared}
use Rattle.clearance_call.specs.declared.Cleared.TheVariants.{Refused, Clear, Touch, Open}
use Rattle.clearance_call.specs.Call.{Told}
use Rattle.clearance_block.specs.declared.BlockCleared.{BlockCleared}
use Rattle.clearance_block.specs.Answer.{refused_block, AnswerBy, AnswerIf, AnswerOf}
use Rattle.all_clear_search.specs.First.{is_clear, ClearBlock, AllClear, NotCleared, Found, none, first}
use Rattle.all_clear_search.specs.Search.{PartSearched}

-- ---- one block
clear_told : (a b ns : List Float) (from : Float) (x : Cleared) → Told a b ns from x → is_clear x ≡ true → planned.Clear a b ns from
clear_told a b ns from (Refused k) t e = absurd (true≢false (sym e))
clear_told a b ns from (Clear n) t e = t.holds
clear_told a b ns from (Touch u v n) t e = absurd (true≢false (sym e))
clear_told a b ns from (Open u n) t e = absurd (true≢false (sym e))

-- a refused block is not clear
not-refused : (job number : ℕ) (a : BlockCleared) → a ≡ refused_block job number → is_clear a.answer ≡ true → ⊥
not-refused job number a is e = true≢false (sym e ∙ ap (λ (x : BlockCleared). is_clear x.answer) is)

module _ (b : List ℕ) (a : BlockCleared) (e : is_clear a.answer ≡ true) where
  by-check : length b ≡ 512 → (x : Result Block BlockRefusal) → checked_block b ≡ x → AnswerBy b x a → ClearBlock b
  by-check whole (Ok k) is h = record { whole = whole; block = k; good = is; clear = clear_told _ _ _ _ a.answer h.told e }
  by-check whole (Err r) is h = absurd (not-refused r.job r.number a h e)

  by_size : (c : Bool) → eqb (length b) 512 ≡ c → AnswerIf c b a → ClearBlock b
  by_size true is h = by-check (eqb-true (length b) 512 is) (checked_block b) refl h
  by_size false is h = absurd (not-refused 0 9 a h e)

  pub cleared : AnswerOf b a → ClearBlock b
  unfolding AnswerOf
  cleared h = by_size (eqb (length b) 512) refl h

-- ---- one after the other
pub found_none : (n : ℕ) → Found n [] 0
unfolding AllClear
found_none n = none refl tt

pub found_here : (n : ℕ) (b : List ℕ) (bs : List (List ℕ)) → NotCleared b → Found n (b ∷ bs) (n + 1)
unfolding AllClear
found_here n b bs not = first 0 (omega arith) (omega arith) tt not

pub found-behind : (n : ℕ) (b : List ℕ) (bs : List (List ℕ)) (found : ℕ) → ClearBlock b → Found (n + 1) bs found → Found n (b ∷ bs) found
unfolding AllClear
found-behind n b bs found c (none e all) = none e (c, all)
found-behind n b bs found c (first j e inside all not) = first (suc j) (omega (arith, e)) (omega (arith, inside)) (c, all) not

-- ---- blocks in two parts: the second counts where the first are all clear
pub found-later : (n : ℕ) (bs cs : List (List ℕ)) (found : ℕ) → AllClear bs → Found (n + length bs) cs found → Found n (bs ++ cs) found
unfolding AllClear
found-later n [] cs found all h = let e : n + 0 ≡ n = omega arith in rw e at h
found-later n (b ∷ bs) cs found all h =
    let e : n + suc (length bs) ≡ n + 1 + length bs = omega arith in
    found-behind n b (bs ++ cs) found all.0 (found-later (n + 1) bs cs found all.1 (rw e at h))

sooner-by : (n : ℕ) (bs cs : List (List ℕ)) (j : ℕ) → j < length bs → AllClear (take j bs) → NotCleared (get_or bs j []) → Found n (bs ++ cs) (n + j + 1)
unfolding AllClear
sooner-by n [] cs j inside all not = absurd (omega (arith, inside))
sooner-by n (b ∷ bs) cs zero inside all not = let e : n + 0 + 1 ≡ n + 1 = omega arith in rw e (found_here n b (bs ++ cs) not)
sooner-by n (b ∷ bs) cs (suc j) inside all not =
    let e : n + suc j + 1 ≡ n + 1 + j + 1 = omega arith in
    rw e (found-behind n b (bs ++ cs) _ all.0 (sooner-by (n + 1) bs cs j (omega (arith, inside)) all.1 not))

pub found-sooner : (n : ℕ) (bs cs : List (List ℕ)) (found : ℕ) → 0 < found → Found n bs found → Found n (bs ++ cs) found
found-sooner n bs cs found some (none e all) = absurd (omega (arith, e, some))
found-sooner n bs cs found some (first j e inside all not) = rw e (sooner-by n bs cs j inside all not)

pub all-if-none : (n : ℕ) (bs : List (List ℕ)) (found : ℕ) → found ≡ 0 → Found n bs found → AllClear bs
all-if-none n bs found e (none _ all) = all
all-if-none n bs found e (first j f inside all not) = absurd (omega (arith, e, f))

-- ---- the whole blocks of a part: what is found from block i on is found among all
abbrev pub LeftFrom : (b : List ℕ) (k before n i : ℕ) → Type 0
LeftFrom b k before n i = (found : ℕ) → Found n (whole_blocks (k - i) (drop (512 * i) b)) found → Found before (whole_blocks k b) found

pub from_start : (b : List ℕ) (k before : ℕ) → LeftFrom b k before before 0
from_start b k before found h = let e : k - 0 ≡ k = omega arith in rw e at h

pub none_left : (b : List ℕ) (k before n i : ℕ) → k < i + 1 → LeftFrom b k before n i → Found before (whole_blocks k b) 0
unfolding whole_blocks
none_left b k before n i done left = let e : k - i ≡ 0 = omega arith in left 0 (rw e (found_none n))

-- block i, answered by a
module _ (b : List ℕ) (k before n i : ℕ) (more : i < k) (a : BlockCleared) (answer : AnswerOf (take 512 (drop (512 * i) b)) a)
    (left : LeftFrom b k before n i) where
  one_block : (found : ℕ) → Found n (take 512 (drop (512 * i) b) ∷ whole_blocks (k - (i + 1)) (drop (512 * (i + 1)) b)) found
      → Found before (whole_blocks k b) found
  unfolding whole_blocks
  one_block found h =
      let count : k - i ≡ suc (k - (i + 1)) = omega arith in
      let place : 512 * i + 512 ≡ 512 * (i + 1) = omega arith in
      left found (rw (count, drop-drop 512 (512 * i) b, place) h)

  pub stopped : is_clear a.answer ≡ false → Found before (whole_blocks k b) (n + 1)
  stopped e = one_block (n + 1) (found_here n _ _ (record { came = a; sound = answer; other = e }))

  pub passed : is_clear a.answer ≡ true → LeftFrom b k before (n + 1) (i + 1)
  passed e found h = one_block found (found-behind n _ _ found (cleared _ a e answer) h)

pub none_above : (found : ℕ) → found ≤ 0 → found ≡ 0
none_above found h = omega (arith, h)

-- ---- all blocks of a part: a short rest is refused
module _ (b : List ℕ) (n : ℕ) where
  abbrev k : ℕ
  k = length b / 512

  pub some-found : (found : ℕ) → 0 < found → Found n (whole_blocks k b) found → Found n (blocks b) found
  unfolding blocks
  some-found found some h = found-sooner n (whole_blocks k b) _ found some h

  pub without-rest : (found : ℕ) → length b % 512 ≡ 0 → Found n (whole_blocks k b) found → Found n (blocks b) found
  without-rest found e h = rw (all_whole b e) h

  rest-not-cleared : NotCleared (rest_of b)
  unfolding AnswerOf
  rest-not-cleared = record { came = refused_block 0 9; sound = rw (rest-short b) refl; other = refl }

  pub with_rest : (found : ℕ) → (length b % 512 ≡ 0 → ⊥) → found ≡ 0 → Found n (whole_blocks k b) found → Found n (blocks b) (n + k + 1)
  with_rest found some e h =
      let last : Found (n + length (whole_blocks k b)) (rest_of b ∷ []) (n + k + 1) =
      rw (blocks-counted k b) (found_here (n + k) (rest_of b) [] rest-not-cleared) in
      rw (rest-last b some) (found-later n (whole_blocks k b) (rest_of b ∷ []) (n + k + 1) (all-if-none n (whole_blocks k b) found e h) last)

-- ---- what a part comes to
module _ (before : ℕ) (part : List ℕ) where
  pub not-counted : count_limit ≤ before → PartSearched before part (record { found = 0; blocks = 0; over = true })
  not-counted many = record {
    sound = λ few. absurd (omega (arith, many, few));
    uncounted = λ h. refl;
    blocks = rw (le-ltb _ _ many);
    over = rw (le-ltb _ _ many);
  }

  pub searched : (found n : ℕ) → before < count_limit → Found before (blocks part) found → n ≡ length (blocks part)
      → PartSearched before part (record { found = found; blocks = before + n; over = ltb 0 found || ltb (length part) part_size })
  searched found n few h e = record {
    sound = λ few. h;
    uncounted = λ many. absurd (omega (arith, many, few));
    blocks = rw (lt-ltb _ _ few, e);
    over = rw (lt-ltb _ _ few);
  }
