-- One step more, with the room that it needs. Assumes nothing.
use mathlib.Core.Path.{◌≡◌, refl, sym, ap, ◌∙◌}
use mathlib.Core.Bool.{Bool, true, false, not, cond, ◌&&◌, true≢false}
use mathlib.Core.List.{List, [], ◌∷◌, ◌++◌, append_assoc, append-nil}
use Prim.Native.Nat.{ℕ, ◌+◌, ◌-◌, ◌*◌, ◌/◌, ◌≤◌, ◌<◌}
use native.Mathlib.Omega.{arith}
use borrow.Author.Tests.{not-true, not-false, leb-true, ltb-true, eq-eqb, ne_eqb}
use lib.Dec.{eqb, leb, ltb}
use lib.ListN.{length, take, drop, length-append, length-drop}
use lib.Seq.{drop-drop, length-take-le, take_all, take-length, take_at}
use Rattle.text.specs.Put.{Put, where_room, number}
use Rattle.text.proofs.Pasted.{length-pasted, put_then, put-nothing}
use Rattle.text.proofs.Lengths.{length-number, ends, roomy}
use Rattle.model.specs.Blocks.{passes}
use Rattle.model.proofs.Blocks.{whole-if-passes}
use Rattle.salvage_walk.specs.declared.Walk.{Walk}
use Rattle.salvage_walk.specs.Walk.{Step, bytes_of, step_at, kept_by, kept_bytes, next, after, run_line, told_by, run_lines, total_text, total_line}
use Rattle.salvage_walk.specs.Walk.Step.{kept, skipped}
use Rattle.salvage_walk.specs.Part.{steps_in, all_bytes, rest_of, place_limit, countable, fits, SalvagedTo}
use Rattle.salvage_walk.proofs.Steps.{Kind, keeps, skips, kind, goes, behind, none_left, first_step, bytes-append, kept_append, after-append, lines-append}

-- ---- what room says
pub record Small (size : ℕ) (w : Walk) : Type 0 where
  pub part : size < place_limit
  pub kept : w.kept < place_limit / 512
  pub skipped : w.skipped < place_limit
  pub run : w.run < place_limit

pub record Room (size room text_room : ℕ) (w : Walk) : Type 0 where
  pub blocks : size ≤ room
  pub lines : size / 512 ≤ text_room / 42
  pub small : Small size w

both : (x y : Bool) → (x && y) ≡ true → (x ≡ true) × (y ≡ true)
both true true e = (refl, refl)
both true false e = (cc, cc)
both false y e = (cc, cc)

pub and-false : (x : Bool) → (x && false) ≡ false
and-false true = refl
and-false false = refl

pub small : (size : ℕ) (w : Walk) → countable size w ≡ true → Small size w
small size w e =
    let third = both (ltb size place_limit && ltb w.kept (place_limit / 512) && ltb w.skipped place_limit) (ltb w.run place_limit) e in
    let second = both (ltb size place_limit && ltb w.kept (place_limit / 512)) (ltb w.skipped place_limit) third.0 in
    let first = both (ltb size place_limit) (ltb w.kept (place_limit / 512)) second.0 in
    record { part = ltb-true _ _ first.0; kept = ltb-true _ _ first.1; skipped = ltb-true _ _ second.1; run = ltb-true _ _ third.1 }

pub fits-room : (size room text_room : ℕ) (w : Walk) → fits size room text_room w ≡ true → Room size room text_room w
fits-room size room text_room w e =
    let outer = both (leb size room && leb (size / 512) (text_room / 42)) (countable size w) e in
    let inner = both (leb size room) (leb (size / 512) (text_room / 42)) outer.0 in
    record { blocks = leb-true _ _ inner.0; lines = leb-true _ _ inner.1; small = small size w outer.1 }

pub length_run : (w : Walk) → length (run_line w) ≤ 42
unfolding run_line
length_run w = go (eqb w.run 0)
  where
    first : List ℕ
    first = number (512 * w.kept + w.skipped) 32

    go : (t : Bool) → length (cond t [] (first ++ number w.run 10)) ≤ 42
    go true = omega arith
    go false = rw length-append (omega (arith, length-number (512 * w.kept + w.skipped) 32, length-number w.run 10))

-- ---- lines
pub no_run : (w : Walk) → w.run ≡ 0 → [] ≡ run_line w
unfolding run_line
no_run w e = rw (eq-eqb w.run 0 e)

pub a-run : (w : Walk) → (w.run ≡ 0 → ⊥) → number (512 * w.kept + w.skipped) 32 ++ number w.run 10 ≡ run_line w
unfolding run_line
a-run w some = rw (ne_eqb w.run 0 some)

same_size : {d d' t : List ℕ} {k e : ℕ} → Put d k t d' e → k + length t ≤ length d → length d' ≡ length d
same_size {d} {d'} {t} {k} {e} p h = ap length p.bytes ∙ length-pasted d k t h

pub two-numbers : {d d₁ d₂ : List ℕ} {k e₁ e₂ : ℕ} (n x m y : ℕ) → k + 42 ≤ length d → Put d k (where_room (k + 21) (length d) (number n x)) d₁ e₁
    → Put d₁ e₁ (where_room (e₁ + 21) (length d₁) (number m y)) d₂ e₂ → Put d k (number n x ++ number m y) d₂ e₂
two-numbers {d} {d₁} {d₂} {k} {e₁} {e₂} n x m y h p q =
    let first = roomy 21 p (omega (arith, h)) in
    let size = same_size first (omega (arith, h, length-number n x)) in
    put_then (omega (arith, h)) first (roomy 21 q (omega (arith, h, size, ends first (length-number n x))))

pub totals : {d d₁ d₂ d₃ : List ℕ} {e₁ e₂ e₃ : ℕ} (w : Walk) → 48 ≤ length d
    → Put d 0 (where_room (0 + 6) (length d) total_text) d₁ e₁ → Put d₁ e₁ (where_room (e₁ + 21) (length d₁) (number w.kept 32)) d₂ e₂
    → Put d₂ e₂ (where_room (e₂ + 21) (length d₂) (number (w.skipped + w.run) 10)) d₃ e₃ → Put d 0 (total_line w) d₃ e₃
unfolding total_line
totals {d} {d₁} {d₂} {d₃} {e₁} {e₂} {e₃} w h word p q =
    let first = roomy 6 word (omega (arith, h)) in
    let size = same_size first (omega (arith, h)) in
    put_then (omega arith) first (two-numbers w.kept 32 (w.skipped + w.run) 10 (omega (arith, h, size, first.place)) p q)

-- ---- a step in numbers
module _ (b : List ℕ) (w : Walk) where
  pub record Counted (s : Step) : Type 0 where
    pub places : 512 * (next w s).kept + (next w s).skipped + (next w s).run ≡ 512 * w.kept + w.skipped + w.run + length (bytes_of s)
    pub file : length (kept_by s) ≤ length (bytes_of s)
    pub text : length (told_by w s) + 42 * w.kept ≤ 42 * (next w s).kept
    pub blocks : 512 * (next w s).kept ≤ 512 * w.kept + length (bytes_of s)

  counting : 1 ≤ length b → (s : Step) → Kind b s → Counted s
  counting more s (keeps e) =
      let size = whole-if-passes (take 512 b) e in
      record { places = omega (arith, size); file = omega arith; text = omega (arith, length_run w); blocks = omega (arith, size) }
  counting more s (skips e) = record { places = omega (arith, length-take-le 1 b more); file = omega arith; text = omega arith; blocks = omega arith }

  pub counted : 1 ≤ length b → Counted (step_at b)
  counted more = counting more (step_at b) (kind b)

-- ---- a step's results
module _ (b : List ℕ) (at : ℕ) (w : Walk) (inside : at + 512 ≤ length b) where
  abbrev one : Step
  one = step_at (drop at b)

  -- what is answered of a step from there
  abbrev Stepped : List ℕ → ℕ → List ℕ → ℕ → List ℕ → ℕ → List ℕ → ℕ → ℕ → Walk → Type 0
  Stepped file file_at text text_at file' file_at' text' text_at' at' w' =
      ((at' ≡ at + length (bytes_of one)) × (w' ≡ next w one)) × (Put file file_at (kept_by one) file' file_at' × Put text text_at (told_by w one) text' text_at')

  pub skipping : (file : List ℕ) (file_at : ℕ) (text : List ℕ) (text_at : ℕ) → passes (take 512 (drop at b)) ≡ false
      → Stepped file file_at text text_at file file_at text text_at (at + 1) (next w (skipped []))
  skipping file file_at text text_at e = go one (kind (drop at b))
    where
      go : (t : Step) → Kind (drop at b) t
          → ((at + 1 ≡ at + length (bytes_of t)) × (next w (skipped []) ≡ next w t))
          × (Put file file_at (kept_by t) file file_at × Put text text_at (told_by w t) text text_at)
      go t (keeps o) = absurd (true≢false (sym o ∙ e))
      go t (skips o) =
          let one_byte = length-take-le 1 (drop at b) (omega (arith, inside, length-drop at b)) in
          ((ap (λ (n : ℕ). at + n) (sym one_byte), refl), (put-nothing file file_at, put-nothing text text_at))

  pub keeping : (file : List ℕ) (file_at : ℕ) (text : List ℕ) (text_at : ℕ) (file' : List ℕ) (file_at' : ℕ) (text' : List ℕ) (text_at' : ℕ) (size : ℕ)
      → passes (take 512 (drop at b)) ≡ true → size ≡ 512 → file_at + 512 ≤ length file
      → Put file file_at (where_room (file_at + length (take size (drop at b))) (length file) (take size (drop at b))) file' file_at'
      → Put text text_at (run_line w) text' text_at'
      → Stepped file file_at text text_at file' file_at' text' text_at' (at + 512) (next w (kept []))
  keeping file file_at text text_at file' file_at' text' text_at' size e f room p q = go one (kind (drop at b))
    where
      whole : length (take 512 (drop at b)) ≡ 512
      whole = whole-if-passes (take 512 (drop at b)) e

      block : Put file file_at (take 512 (drop at b)) file' file_at'
      block = roomy (length (take 512 (drop at b))) (rw f at p) (omega (arith, room, whole))

      go : (t : Step) → Kind (drop at b) t
          → ((at + 512 ≡ at + length (bytes_of t)) × (next w (kept []) ≡ next w t))
          × (Put file file_at (kept_by t) file' file_at' × Put text text_at (told_by w t) text' text_at')
      go t (skips o) = absurd (true≢false (sym e ∙ o))
      go t (keeps o) = ((ap (λ (n : ℕ). at + n) (sym whole), refl), (block, q))

-- ---- the steps so far, and what they came to
module _ (b : List ℕ) (w : Walk) (file₀ text₀ : List ℕ) where
  pub record Walked (at : ℕ) (now : Walk) (file : List ℕ) (file_at : ℕ) (text : List ℕ) (text_at : ℕ) : Type 0 where
    pub done : List Step
    pub so_far : steps_in b ≡ done ++ steps_in (drop at b)
    pub place : at ≡ length (all_bytes done)
    pub inside : at ≤ length b
    pub walk : now ≡ after w done
    pub kept : Put file₀ 0 (kept_bytes done) file file_at
    pub told : Put text₀ 0 (run_lines w done) text text_at
    pub places : 512 * now.kept + now.skipped + now.run ≡ 512 * w.kept + w.skipped + w.run + at
    pub file-end : file_at ≤ at
    pub text-end : text_at + 42 * w.kept ≤ 42 * now.kept
    pub blocks : 512 * now.kept ≤ 512 * w.kept + at

  pub begun : Walked 0 w file₀ 0 text₀ 0
  unfolding all_bytes after kept_bytes run_lines
  begun = record {
    done = [];
    so_far = refl;
    place = refl;
    inside = omega arith;
    walk = refl;
    kept = put-nothing file₀ 0;
    told = put-nothing text₀ 0;
    places = omega arith;
    file-end = omega arith;
    text-end = omega arith;
    blocks = omega arith;
  }

  module _ (at : ℕ) (now : Walk) (file : List ℕ) (file_at : ℕ) (text : List ℕ) (text_at : ℕ) (before : Walked at now file file_at text text_at)
      (more : at + 512 ≤ length b) where
    abbrev here : List ℕ
    here = drop at b

    abbrev s : Step
    s = step_at here

    whole : 512 ≤ length here
    whole = omega (arith, more, length-drop at b)

    abbrev done' : List Step
    done' = before.done ++ (s ∷ [])

    -- room for it
    pub record RoomFor (room text_room : ℕ) : Type 0 where
      pub for-file : file_at + 512 ≤ room
      pub for-text : text_at + 42 ≤ text_room
      pub places : 512 * now.kept + now.skipped + now.run + 512 < 18446744073709551616

    pub room_for : (room text_room : ℕ) → Room (length b) room text_room w → RoomFor room text_room
    room_for room text_room r = record {
      for-file = omega (arith, before.file-end, more, r.blocks);
      for-text = omega (arith, before.text-end, before.blocks, more, r.lines);
      places = omega (arith, before.places, more, r.small.part, r.small.kept, r.small.skipped, r.small.run);
    }

    pub one_more : (at' : ℕ) (now' : Walk) (file' : List ℕ) (file_at' : ℕ) (text' : List ℕ) (text_at' : ℕ)
        → at' ≡ at + length (bytes_of s) → now' ≡ next now s → Put file file_at (kept_by s) file' file_at' → Put text text_at (told_by now s) text' text_at'
        → Walked at' now' file' file_at' text' text_at'
    unfolding all_bytes after kept_bytes run_lines
    one_more at' now' file' file_at' text' text_at' e f p q =
        let n = counted here now (omega (arith, whole)) in
        let on : behind here ≡ drop at' b = drop-drop (length (bytes_of s)) at b ∙ ap (λ (k : ℕ). drop k b) (sym e) in
        record {
          done = done';
          so_far = before.so_far ∙ ap (λ (l : List Step). before.done ++ l) (first_step 512 (omega arith) here whole)
              ∙ ap (λ (l : List ℕ). before.done ++ (s ∷ steps_in l)) on ∙ sym (append_assoc before.done (s ∷ []) (steps_in (drop at' b)));
          place = e ∙ ap (λ (k : ℕ). k + length (bytes_of s)) before.place ∙ sym (length-append (all_bytes before.done) (bytes_of s))
              ∙ ap (λ (l : List ℕ). length (all_bytes before.done ++ l)) (sym (append-nil (bytes_of s)))
              ∙ ap length (sym (bytes-append before.done (s ∷ [])));
          inside = omega (arith, e, (goes here (omega (arith, whole))).inside, length-drop at b);
          walk = f ∙ ap (λ (v : Walk). next v s) before.walk ∙ sym (after-append w before.done (s ∷ []));
          kept = rw (kept_append, append-nil (kept_by s)) (put_then (omega arith) before.kept p);
          told = rw (lines-append, ← before.walk, append-nil (told_by now s)) (put_then (omega arith) before.told q);
          places = ap counts f ∙ n.places ∙ omega (arith, e, before.places);
          file-end = omega (arith, e, p.place, n.file, before.file-end);
          text-end = omega (arith, q.place, n.text, before.text-end, ap kept_of f);
          blocks = omega (arith, e, n.blocks, before.blocks, ap kept_of f);
        }
      where
        counts : Walk → ℕ
        counts v = 512 * v.kept + v.skipped + v.run

        kept_of : Walk → ℕ
        kept_of v = v.kept

  -- where fewer than 512 bytes are left
  pub finished : (at : ℕ) (now : Walk) (file : List ℕ) (file_at : ℕ) (text : List ℕ) (text_at : ℕ) → Walked at now file file_at text text_at → length b < at + 512
      → ((at ≡ length (all_bytes (steps_in b))) × (now ≡ after w (steps_in b)))
      × ((Put file₀ 0 (kept_bytes (steps_in b)) file file_at × Put text₀ 0 (run_lines w (steps_in b)) text text_at) × ((at ≤ length b) × (length b < at + 512)))
  finished at now file file_at text text_at so few =
      let all : steps_in b ≡ so.done =
      so.so_far ∙ ap (λ (l : List Step). so.done ++ l) (none_left 512 (omega arith) (length (drop at b)) (drop at b) (omega (arith, few, length-drop at b)))
      ∙ append-nil so.done in
      rw all ((so.place, so.walk), ((so.kept, so.told), (so.inside, few)))

-- ---- a part
module _ (b : List ℕ) (w : Walk) (buffer buffer' file file' text text' : List ℕ) where
  pub no_room : fits (length b) (length file) (length text) w ≡ false
      → SalvagedTo b w buffer buffer file file text text 0 0 0 w false
  no_room e = record {
    kept = rw e (put-nothing file 0);
    told = rw e (put-nothing text 0);
    left = rw e (put-nothing buffer 0);
    walk = rw e;
    done = sym e;
  }

  pub with-room : (at file_at text_at left : ℕ) (now : Walk) (rest : List ℕ) → fits (length b) (length file) (length text) w ≡ true
      → (at ≡ length (all_bytes (steps_in b))) × (now ≡ after w (steps_in b))
      → Put file 0 (kept_bytes (steps_in b)) file' file_at × Put text 0 (run_lines w (steps_in b)) text' text_at
      → rest ≡ drop at b → length b ≤ length buffer → Put buffer 0 (where_room (0 + length rest) (length buffer) rest) buffer' left
      → SalvagedTo b w buffer buffer' file file' text text' file_at text_at left now true
  with-room at file_at text_at left now rest e reached puts same inside p =
      let fine : 0 + length rest ≤ length buffer = omega (arith, inside, ap length same, length-drop at b) in
      let all : rest ≡ rest_of b = same ∙ ap (λ (n : ℕ). drop n b) reached.0 in
      record {
        kept = rw e puts.0;
        told = rw e puts.1;
        left = rw (e, ← all) (roomy (length rest) p fine);
        walk = reached.1 ∙ rw e;
        done = sym e;
      }
