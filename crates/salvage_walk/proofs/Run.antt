-- A file walked part by part, what is left handed on each time, comes to what the whole does. Assumes nothing.
use mathlib.Core.Path.{◌≡◌, refl, sym, ap, ◌∙◌}
use mathlib.Core.Bool.{Bool, true, false, cond}
use mathlib.Core.List.{List, [], ◌∷◌, ◌++◌, append_assoc, append-nil}
use Prim.Native.Nat.{ℕ, zero, suc, ◌+◌, ◌*◌, ◌/◌, ◌≤◌, ◌<◌}
use native.Mathlib.Omega.{arith}
use borrow.Author.Tests.{le-leb, lt-ltb, le-ltb, ltb-false}
use lib.Dec.{ltb}
use lib.ListN.{length, drop, length-append}
use Rattle.model.specs.Parts.{together}
use Rattle.runs.specs.Run.{Cut, TextSteps}
use Rattle.runs.proofs.Whole.{run-makes-whole, text-steps}
use Rattle.salvage_walk.specs.declared.Walk.{Walk}
use Rattle.salvage_walk.specs.Walk.{Step, bytes_of, step_at, steps_by, steps, kept_bytes, next, after, run_lines, last_lines, at_start, file_of, text_of}
use Rattle.salvage_walk.specs.Walk.Step.{skipped}
use Rattle.salvage_walk.specs.Part.{steps_in, all_bytes, rest_of, place_limit, countable, fits, skipped_on, Stand, stand, part_room, next_stand, is_over, write_by}
use Rattle.salvage_walk.specs.Part.{tell_by, file_by, text_by}
use Rattle.salvage_walk.proofs.Steps.{Kind, keeps, skips, kind, behind, whole-inside, first_step, over, walked-by-parts, kept_append, after-append}
use Rattle.salvage_walk.proofs.Steps.{lines-append}
use Rattle.salvage_walk.proofs.Laws.{counted}

-- the place after all that was walked
abbrev pub place_of : Walk → ℕ
place_of w = 512 * w.kept + w.skipped + w.run

module _ (least : ℕ) (positive : 1 ≤ least) where
  pub place_after : (n : ℕ) (b : List ℕ) (w : Walk) → place_of (after w (steps_by least n b)) ≡ place_of w + length (all_bytes (steps_by least n b))
  unfolding steps_by after all_bytes
  place_after zero b w = omega arith
  place_after (suc n) b w = go (place_after n (behind b) (next w (step_at b))) (ltb (length b) least) refl
    where
      go : place_of (after (next w (step_at b)) (steps_by least n (behind b))) ≡ place_of (next w (step_at b)) + length (all_bytes (steps_by least n (behind b)))
          → (t : Bool) → ltb (length b) least ≡ t
          → place_of (after w (cond t [] (step_at b ∷ steps_by least n (behind b))))
          ≡ place_of w + length (all_bytes (cond t [] (step_at b ∷ steps_by least n (behind b))))
      go later true e = omega arith
      go later false e =
          let some : 1 ≤ length b = omega (arith, positive, ltb-false (length b) least e) in
          later ∙ omega (arith, (counted b w some).places, length-append (bytes_of (step_at b)) (all_bytes (steps_by least n (behind b))))

-- ---- fewer than 512 bytes are skipped
short-step : (x : ℕ) (r : List ℕ) → length (x ∷ r) < 512 → (s : Step) → Kind (x ∷ r) s → s ≡ skipped (x ∷ [])
short-step x r h s (keeps e) = absurd (omega (arith, h, whole-inside (x ∷ r) e))
short-step x r h s (skips e) = refl

short-first : (x : ℕ) (r : List ℕ) → length (x ∷ r) < 512 → steps (x ∷ r) ≡ skipped (x ∷ []) ∷ steps r
short-first x r h =
    let first = short-step x r h (step_at (x ∷ r)) (kind (x ∷ r)) in
    first_step 1 (omega arith) (x ∷ r) (omega arith) ∙ ap (λ (s : Step). s ∷ steps (drop (length (bytes_of s)) (x ∷ r))) first

record Skipped (b : List ℕ) (w : Walk) : Type 0 where
  pub file : kept_bytes (steps b) ≡ []
  pub text : run_lines w (steps b) ≡ []
  pub walk : after w (steps b) ≡ skipped_on (length b) w

all-skipped : (b : List ℕ) (w : Walk) → length b < 512 → Skipped b w
unfolding kept_bytes run_lines after steps_by
all-skipped [] w h = record {
  file = refl;
  text = refl;
  walk = ap (λ (n : ℕ). record { kept = w.kept; skipped = w.skipped; run = n }) (let e : w.run ≡ w.run + 0 = omega arith in e);
}
all-skipped (x ∷ r) w h =
    let later = all-skipped r (next w (skipped (x ∷ []))) (omega (arith, h)) in
    let more : w.run + 1 + length r ≡ w.run + suc (length r) = omega arith in
    record {
      file = ap kept_bytes (short-first x r h) ∙ later.file;
      text = ap (run_lines w) (short-first x r h) ∙ later.text;
      walk = ap (after w) (short-first x r h) ∙ later.walk ∙ ap (λ (n : ℕ). record { kept = w.kept; skipped = w.skipped; run = n }) more;
    }

-- ---- one part in front of the others
module _ (s : Stand) (p : List ℕ) where
  abbrev b : List ℕ
  b = s.held ++ p

  abbrev w : Walk
  w = s.walk

  abbrev left : List ℕ
  left = rest_of b

  abbrev w' : Walk
  w' = after w (steps_in b)

  onward : (r : List ℕ) → steps (s.held ++ (p ++ r)) ≡ steps_in b ++ steps (left ++ r)
  onward r = ap steps (sym (append_assoc s.held p r)) ∙ walked-by-parts b r

  few : length left < 512
  few = (over 512 (omega arith) b).few

  walked : length (all_bytes (steps_in b)) + length left ≡ length b
  walked = sym (length-append (all_bytes (steps_in b)) left) ∙ ap length (over 512 (omega arith) b).in_order

  far : place_of w' ≡ place_of w + length (all_bytes (steps_in b))
  far = place_after 512 (omega arith) (length b) b w

  -- nothing behind it: what is left is skipped
  at-end : steps b ≡ steps_in b ++ steps left
  at-end = rw (append-nil b, append-nil left) at (walked-by-parts b [])

  no-more-kept : kept_bytes (steps b) ≡ kept_bytes (steps_in b)
  no-more-kept =
      ap kept_bytes at-end ∙ kept_append (steps_in b) (steps left) ∙ rw (all-skipped left w' few).file (append-nil (kept_bytes (steps_in b)))

  no-more-told : run_lines w (steps b) ≡ run_lines w (steps_in b)
  no-more-told =
      ap (run_lines w) at-end ∙ lines-append w (steps_in b) (steps left) ∙ rw (all-skipped left w' few).text (append-nil (run_lines w (steps_in b)))

  walk_ends : after w (steps b) ≡ skipped_on (length left) w'
  walk_ends = ap (after w) at-end ∙ after-append w (steps_in b) (steps left) ∙ (all-skipped left w' few).walk

can-count : (size : ℕ) (w : Walk) → place_of w + size < place_limit → countable size w ≡ true
can-count size w h =
    rw (
      lt-ltb size place_limit (omega (arith, h)),
      lt-ltb w.kept (place_limit / 512) (omega (arith, h)),
      lt-ltb w.skipped place_limit (omega (arith, h)),
      lt-ltb w.run place_limit (omega (arith, h)),
    )

-- few bytes are held, and what is still to come can be counted
abbrev Can : Stand → List ℕ → Type 0
Can s rest = (length s.held < 512) × (place_of s.walk + length s.held + length rest < place_limit)

-- what a file comes to from where the run stands
abbrev file_from : Stand → List ℕ → List ℕ
file_from s r = kept_bytes (steps (s.held ++ r))

abbrev text_from : Stand → List ℕ → List ℕ
text_from s r = run_lines s.walk (steps (s.held ++ r)) ++ last_lines (after s.walk (steps (s.held ++ r)))

-- ---- the run, with room for a run's line before each block that a part can have
module _ (room text_room : ℕ) (block : 512 ≤ room) (lines : 42 * (room / 512) ≤ text_room) (long : 48 ≤ text_room) where
  has_room : (size : ℕ) (w : Walk) → size ≤ room → place_of w + size < place_limit → fits size room text_room w ≡ true
  has_room size w inside h =
      rw (le-leb size room inside, le-leb (size / 512) (text_room / 42) (omega (arith, inside, lines)), can-count size w h)

  module _ (s : Stand) (p : List ℕ) where
    size : length (b s p) ≡ length s.held + length p
    size = length-append s.held p

    module _ (can : Can s p) (short : length p < part_room room text_room s) where
      roomy-last : fits (length (b s p)) room text_room s.walk ≡ true
      roomy-last = has_room (length (b s p)) s.walk (omega (arith, size, short)) (omega (arith, size, can.1))

      not_full : ltb (length (b s p)) room ≡ true
      not_full = lt-ltb (length (b s p)) room (omega (arith, size, short))

      counted-last : countable (length (left s p)) (w' s p) ≡ true
      counted-last = can-count (length (left s p)) (w' s p) (omega (arith, can.1, size, walked s p, far s p))

      last-file : (is_over room text_room s p ≡ true) × (write_by room text_room s p ≡ file_from s p)
      last-file = rw (roomy-last, not_full) (refl, sym (no-more-kept s p))

      last-text : (is_over room text_room s p ≡ true) × (tell_by room text_room s p ≡ text_from s p)
      last-text =
          rw (roomy-last, not_full, counted-last, le-leb 42 text_room (omega (arith, long)), le-leb 48 text_room long, no-more-told s p, walk_ends s p)
          (refl, refl)

    module _ (r : List ℕ) (can : Can s (p ++ r)) (full : length p ≡ part_room room text_room s) where
      roomy-full : fits (length (b s p)) room text_room s.walk ≡ true
      roomy-full =
          has_room (length (b s p)) s.walk (omega (arith, size, full, can.0, block)) (omega (arith, size, can.1, length-append p r))

      filled : ltb (length (b s p)) room ≡ false
      filled = le-ltb (length (b s p)) room (omega (arith, size, full, can.0, block))

      goes_on : is_over room text_room s p ≡ false
      goes_on = rw (roomy-full, filled)

      can-on : Can (next_stand room text_room s p) r
      can-on = rw roomy-full (few s p, omega (arith, can.1, size, walked s p, far s p, length-append p r))

      next-file : write_by room text_room s p ++ file_from (next_stand room text_room s p) r ≡ file_from s (p ++ r)
      next-file = rw (roomy-full, onward s p r) (sym (kept_append (steps_in (b s p)) (steps (left s p ++ r))))

      next-text : tell_by room text_room s p ++ text_from (next_stand room text_room s p) r ≡ text_from s (p ++ r)
      next-text = rw (roomy-full, filled, onward s p r, append-nil (run_lines s.walk (steps_in (b s p)))) text
        where
          here : List Step
          here = steps_in (b s p)

          t : List Step
          t = steps (left s p ++ r)

          text : run_lines s.walk (steps_in (b s p)) ++ (run_lines (w' s p) (steps (left s p ++ r)) ++ last_lines (after (w' s p) (steps (left s p ++ r))))
              ≡ run_lines s.walk (steps_in (b s p) ++ steps (left s p ++ r)) ++ last_lines (after s.walk (steps_in (b s p) ++ steps (left s p ++ r)))
          text =
              sym (append_assoc (run_lines s.walk here) (run_lines (w' s p) t) (last_lines (after (w' s p) t)))
              ∙ ap (λ (l : List ℕ). l ++ last_lines (after (w' s p) t)) (sym (lines-append s.walk here t))
              ∙ ap (λ (v : Walk). run_lines s.walk (here ++ t) ++ last_lines v) (sym (after-append s.walk here t))

  file-steps : TextSteps (next_stand room text_room) (is_over room text_room) (write_by room text_room) (part_room room text_room) file_from Can
  file-steps = text-steps last-file (λ s p r can full. (goes_on s p r can full, next-file s p r can full, can-on s p r can full))

  told-steps : TextSteps (next_stand room text_room) (is_over room text_room) (tell_by room text_room) (part_room room text_room) text_from Can
  told-steps = text-steps last-text (λ s p r can full. (goes_on s p r can full, next-text s p r can full, can-on s p r can full))

  abbrev start : Stand
  start = stand [] at_start

  -- for every file that a machine can hold
  pub run-salvages-whole : (ps : List (List ℕ)) → Cut (part_room room text_room) (next_stand room text_room) start ps → length (together ps) < place_limit
      → (file_by room text_room start ps ≡ file_of (together ps)) × (text_by room text_room start ps ≡ text_of (together ps))
  run-salvages-whole ps cut small =
      (run-makes-whole file-steps start ps cut (omega arith, omega (arith, small)), run-makes-whole told-steps start ps cut (omega arith, omega (arith, small)))
