-- A part walked block by block, as `chunks_exact(512)` walks it: which block comes next, and that all whole ones have come at the end. Assumes nothing.
use Rattle.std.proofs.Common.{◌≡◌, sym, ap, ◌∙◌, ℕ, ◌+◌, ◌*◌, ◌/◌, ◌≤◌, ◌<◌, List, ◌++◌, Bor, Some, None, length, take, drop, arith}
use Rattle.std.proofs.Math.ListN.{length-append, length-drop}
use Rattle.std.proofs.Math.Seq.{take_at, drop_at, drop-drop}
use Rattle.std.specs.declared.slice.ChunksExact.{ChunksExact}
use Rattle.std.specs.Slice.Iter.{chunks_exact_rest, chunks_exact_size, chunks_exact_steps}

-- what is left after n blocks
pub record Walked (part : List ℕ) (n : ℕ) (left : ChunksExact ℕ) : Type 0 where
  pub size : chunks_exact_size left ≡ 512
  pub inside : 512 * n ≤ length part
  pub rest : chunks_exact_rest left ≡ drop (512 * n) part

pub walk_begins : {part : List ℕ} {made left : ChunksExact ℕ} → left ≡ made → chunks_exact_rest made ≡ part → chunks_exact_size made ≡ 512 → Walked part 0 left
walk_begins same rest size =
    record { size = ap chunks_exact_size same ∙ size; inside = omega arith; rest = ap chunks_exact_rest same ∙ rest }

-- one block more
module _ {part : List ℕ} {n : ℕ} {left : ChunksExact ℕ} (w : Walked part n left) (x : Bor (List ℕ)) (later : ChunksExact ℕ)
    (s : chunks_exact_steps left (Some x) later) where
  block_size : length x.now ≡ 512
  block_size = s.1.1 ∙ w.size

  cut : drop (512 * n) part ≡ x.now ++ chunks_exact_rest later
  cut = sym w.rest ∙ s.1.0

  pub block_here : x.now ≡ take 512 (drop (512 * n) part)
  block_here = sym (ap (take 512) cut ∙ take_at x.now (chunks_exact_rest later) 512 block_size)

  pub block_inside : 512 * n + 512 ≤ length part
  block_inside =
      omega (arith, w.inside, block_size, length-drop (512 * n) part, ap length cut ∙ length-append x.now (chunks_exact_rest later))

  pub walk-on : Walked part (n + 1) later
  walk-on =
      let place : 512 * n + 512 ≡ 512 * (n + 1) = omega arith in
      record {
        size = s.0 ∙ w.size;
        inside = omega (arith, block_inside);
        rest = sym (drop_at x.now (chunks_exact_rest later) 512 block_size) ∙ ap (drop 512) (sym cut) ∙ drop-drop 512 (512 * n) part
            ∙ ap (λ (m : ℕ). drop m part) place;
      }

pub all_walked : {part : List ℕ} {n : ℕ} {left later : ChunksExact ℕ} → Walked part n left → chunks_exact_steps left None later → n ≡ length part / 512
all_walked {part} {n} w s = omega (arith, w.inside, w.size, ap length w.rest ∙ length-drop (512 * n) part, s.1.0)
