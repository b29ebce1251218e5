-- A run of `pack`, byte by byte, and what its places show. Assumes nothing.
use mathlib.Core.Path.{◌≡◌, refl, sym, ap, ◌∙◌}
use mathlib.Core.Bool.{Bool, true, false, cond}
use mathlib.Core.List.{List, [], ◌∷◌, ◌++◌, append-nil}
use Prim.Native.Nat.{ℕ, ◌+◌, ◌≤◌, ◌<◌}
use native.Mathlib.Omega.{arith}
use native.Mathlib.Numerals.{add-one}
use borrow.Author.Tests.{ltb-true}
use lib.Dec.{eqb, ltb}
use lib.ListN.{length, take, get_or}
use lib.Seq.{length-take-le, take-suc, take_all}
use Rattle.text.specs.Put.{Put}
use Rattle.text.proofs.Pasted.{put_then, put-nothing}
use Rattle.pack_lines.specs.declared.Held.{Held}
use Rattle.job_text.specs.Job.{block_for, is_job}
use Rattle.job_text.specs.Room.{refusal, refusal_room}
use Rattle.pack_lines.specs.Pack.{Run, longer, line_ended, line_on, byte_more, run_over, used_bytes, run_in, Ends}
use Rattle.job_text.proofs.BlockBuilt.{length-block-for}
use Rattle.job_text.proofs.Fitting.{length-refusal}

-- ---- one byte more
pub run-append : (r : Run) (xs ys : List ℕ) → run_over r (xs ++ ys) ≡ run_over (run_over r xs) ys
unfolding run_over
run-append r [] ys = refl
run-append r (x ∷ xs) ys = run-append (byte_more r x) xs ys

run-one : (r : Run) (x : ℕ) → run_over r (x ∷ []) ≡ byte_more r x
unfolding run_over
run-one r x = refl

pub run_more : (r : Run) (xs : List ℕ) (i : ℕ) → i < length xs → run_over r (take (i + 1) xs) ≡ byte_more (run_over r (take i xs)) (get_or xs i 0)
run_more r xs i inside =
    rw (add-one i, take-suc xs i 0 inside) (run-append r (take i xs) (get_or xs i 0 ∷ []) ∙ run-one (run_over r (take i xs)) (get_or xs i 0))

-- the places after both texts, the line and the count are those of a run
pub record Shows (out₀ err₀ : List ℕ) (r : Run) (out : List ℕ) (at : ℕ) (err : List ℕ) (told : ℕ) (l : List ℕ) (lines : ℕ) : Type 0 where
  pub written : Put out₀ 0 r.out out at
  pub complaints : Put err₀ 0 r.told err told
  pub held : l ≡ r.line
  pub ended : lines ≡ r.lines

abbrev pub starting : List ℕ → ℕ → Run
starting l lines = record { out = []; told = []; line = l; lines = lines }

pub shows-start : (out err l : List ℕ) (lines : ℕ) (part : List ℕ) → Shows out err (run_over (starting l lines) (take 0 part)) out 0 err 0 l lines
unfolding run_over
shows-start out err l lines part = record { written = put-nothing out 0; complaints = put-nothing err 0; held = refl; ended = refl }

module _ (out₀ err₀ : List ℕ) (r : Run) (x : ℕ) (buffer : List ℕ) (now : ℕ) (inside : now ≤ length buffer) {out : List ℕ} {at : ℕ} {err : List ℕ} {told : ℕ}
    {l : List ℕ} {lines : ℕ} (s : Shows out₀ err₀ r out at err told l lines) (kept : take now buffer ≡ longer l x) {out' : List ℕ} {at' : ℕ} {err' : List ℕ}
    {told' size lines' : ℕ} (e : Ends x (take now buffer) lines out at out' at' err told err' told' size lines') where
  line-now : take now buffer ≡ longer r.line x
  line-now = kept ∙ ap (λ (k : List ℕ). longer k x) s.held

  shows-ended : eqb x 10 ≡ true → Shows out₀ err₀ (line_ended r (longer r.line x)) out' at' err' told' (take size buffer) lines'
  shows-ended over =
      let empty : size ≡ 0 = rw over at e.held in
      let counted : lines' ≡ lines + 1 = rw over at e.ended in
      record {
        written = put_then (omega arith) s.written (rw (over, line-now) at e.written);
        complaints = put_then (omega arith) s.complaints (rw (over, line-now, s.ended) at e.complaints);
        held = rw empty;
        ended = counted ∙ ap (λ (n : ℕ). n + 1) s.ended;
      }

  shows-on : eqb x 10 ≡ false → Shows out₀ err₀ (line_on r (longer r.line x)) out' at' err' told' (take size buffer) lines'
  shows-on on =
      let whole : size ≡ now = (rw on at e.held) ∙ length-take-le now buffer inside in
      let counted : lines' ≡ lines = rw on at e.ended in
      record {
        written = rw (append-nil r.out) at (put_then (omega arith) s.written (rw on at e.written));
        complaints = rw (append-nil r.told) at (put_then (omega arith) s.complaints (rw on at e.complaints));
        held = rw whole line-now;
        ended = counted ∙ s.ended;
      }

  pub shows-byte : Shows out₀ err₀ (byte_more r x) out' at' err' told' (take size buffer) lines'
  shows-byte = go (eqb x 10) refl
    where
      go : (t : Bool) → eqb x 10 ≡ t →
          Shows out₀ err₀ (cond t (line_ended r (longer r.line x)) (line_on r (longer r.line x))) out' at' err' told' (take size buffer) lines'
      go true f = shows-ended f
      go false f = shows-on f

pub record Further (at told size lines at' told' size' lines' : ℕ) : Type 0 where
  pub written : at' ≤ at + 512
  pub complaints : told' ≤ told + refusal_room
  pub held : size' ≤ size
  pub ended : lines' ≤ lines + 1

pub goes_further : {x : ℕ} {l : List ℕ} {lines : ℕ} {out : List ℕ} {at : ℕ} {out' : List ℕ} {at' : ℕ} {err : List ℕ} {told : ℕ} {err' : List ℕ}
    {told' size lines' : ℕ} → Ends x l lines out at out' at' err told err' told' size lines' → Further at told (length l) lines at' told' size lines'
goes_further {x} {l} {lines} {out} {at} {out'} {at'} {err} {told} {err'} {told'} {size} {lines'} e = record {
  written = omega (arith, e.written.place, most-written (eqb x 10) (is_job l));
  complaints = omega (arith, e.complaints.place, most-told (eqb x 10) (is_job l));
  held = omega (arith, e.held, most-held (eqb x 10));
  ended = omega (arith, e.ended, most-ended (eqb x 10));
}
  where
    most-written : (t j : Bool) → length (cond t (cond j (block_for l) []) []) ≤ 512
    most-written true true = omega (arith, length-block-for l)
    most-written true false = omega arith
    most-written false j = omega arith

    most-told : (t j : Bool) → length (cond t (cond j [] (refusal (lines + 1) 14)) []) ≤ refusal_room
    most-told true true = omega arith
    most-told true false = length-refusal (lines + 1) 14
    most-told false j = omega arith

    most-held : (t : Bool) → cond t 0 (length l) ≤ length l
    most-held true = omega arith
    most-held false = omega arith

    most-ended : (t : Bool) → cond t (lines + 1) lines ≤ lines + 1
    most-ended true = omega arith
    most-ended false = omega arith

-- ---- the whole part
pub run-in-is : (h : Held) (part : List ℕ) (room err_room : ℕ) (l : List ℕ) {n i : ℕ} → i ≡ n → n ≡ used_bytes h part room err_room
    → l ≡ take h.size h.line → run_over (starting l h.lines) (take i part) ≡ run_in h part room err_room
run-in-is h part room err_room l done used same = rw (done, used, same)
