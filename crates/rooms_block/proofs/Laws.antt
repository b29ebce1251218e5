-- What a look's answer says of a room and of a cell. Assumes nothing.
use Rattle.std.proofs.Common.{Option, IfSome, IfOk, Result, Ok, Err}
use mathlib.Core.Path.{◌≡◌, refl, sym, ap, ◌∙◌}
use mathlib.Core.Bool.{Bool, true, false, cond, true≢false}
use mathlib.Core.List.{List}
use Prim.Native.Nat.{ℕ, ◌+◌, ◌≤◌, ◌<◌}
use native.Mathlib.Omega.{arith}
use borrow.Author.Tests.{eqb-true, eq-eqb}
use lib.Dec.{ltb, eqb}
use lib.Ieee.{Float, binary32, of_bits, le}
use lib.ListN.{length, set, get_or}
use lib.Seq.{get_or-set_same, get_or-set_other}
use Rattle.model.specs.declared.Vector.{Vector}
use Rattle.model.specs.declared.Block.{Block}
use Rattle.model.specs.declared.BlockRefusal.{BlockRefusal}
use Rattle.model.specs.Block.{checked_block}
use Rattle.model.specs.Support.{point}
use Rattle.planned.specs.Planned as planned
use Rattle.places.specs.Place.{place_bits}
use Rattle.clearance_call.specs.declared.Cleared.{Cleared}
use Rattle.clearance_call.specs.declared.Cleared.TheVariants as cleared
use Rattle.clearance_call.specs.Call.{Told, refusal_of}
use Rattle.rooms_block.specs.declared.Proved.{Proved}
use Rattle.rooms_block.specs.Answer.{BlockRooms, Roomed, Numbered, AnswerBy, AnswerIf, AnswerOf}
use Rattle.rooms_block.specs.Rooms.{is_clear, edge, touch_letter, letter_by, Keeps, Contact, Cell, clear, contact, unsettled, CellsTo}

module _ (a b ns : List Float) where
  pub kept : (room : Float) (x : Cleared) → Told a b (set ns 3 room) (of_bits binary32 0) x → is_clear x ≡ true → Keeps a b ns room
  kept room (cleared.Refused k) t e = absurd (true≢false (sym e))
  kept room (cleared.Clear n) t e = record { passed = t.passed; clear = t.holds }
  kept room (cleared.Touch u v n) t e = absurd (true≢false (sym e))
  kept room (cleared.Open u n) t e = absurd (true≢false (sym e))

  touch-by : (from to : Float) (u t : ℕ) → planned.Touch a b (set ns 2 to) from u t → (s r : Bool) → le from (of_bits binary32 (place_bits (t + 1))) ≡ r
      → Cell a b ns from to (cond s 79 (cond r 84 79))
  touch-by from to u t h true r e = unsettled refl
  touch-by from to u t h false false e = unsettled refl
  touch-by from to u t h false true e = contact refl (record { place = t; after = e; before = h.before; touching = h.touching })

  pub lettered : (from to : Float) (x : Cleared) → Told a b (set ns 2 to) from x → Cell a b ns from to (letter_by from x)
  lettered from to (cleared.Refused k) h = unsettled refl
  lettered from to (cleared.Clear n) h = clear refl h.holds
  lettered from to (cleared.Touch u t n) h = touch-by from to u t h.holds (ltb 16777216 t) _ refl
  lettered from to (cleared.Open u n) h = unsettled refl

  -- one letter more
  pub cell-more : (end : Float) (letters : List ℕ) (i letter : ℕ) → i < length letters → CellsTo a b ns end letters i
      → Cell a b ns (edge end i) (edge end (i + 1)) letter → CellsTo a b ns end (set letters i letter) (i + 1)
  cell-more end letters i letter inside so_far c k below = go (eqb k i) refl
    where
      go : (s : Bool) → eqb k i ≡ s → Cell a b ns (edge end k) (edge end (k + 1)) (get_or (set letters i letter) k 0)
      go true e = let same : k ≡ i = eqb-true k i e in rw (same, get_or-set_same letters i letter 0 inside) c
      go false e =
          let other : k ≡ i → ⊥ = λ same. true≢false (sym (eq-eqb k i same) ∙ e) in
          rw (get_or-set_other letters i k letter 0 other) (so_far k (less other))
        where
          less : (k ≡ i → ⊥) → k < i
          less other = omega (arith, below, other)

  -- ---- a job's answer, told
  pub roomed : (j n : ℕ) (limits : Vector) (room : Option Float) (cells : List ℕ) → n ≡ refusal_of a b ns (of_bits binary32 0)
      → n ≤ 0 → limits ≡ point ns 1 → IfSome room (λ x. Keeps a b ns x) → (length cells ≡ 64) × CellsTo a b ns limits.x cells 64
      → Roomed a b ns j (record { job = j; room = room; cells = cells })
  roomed j n limits room cells e none at-limits k h = record {
    job = refl;
    passed = sym e ∙ omega (arith, none);
    letters = h.0;
    room = k;
    cells = rw at-limits at h.1;
  }

-- ---- every answer that is told has 64 letters
abbrev pub Lettered : BlockRooms → Type 0
Lettered r = IfOk r (λ p. length p.cells ≡ 64)

module _ (a b ns : List Float) (j : ℕ) where
  by-number : (r : BlockRooms) → Numbered a b ns j r → Lettered r
  by-number (Ok p) h = h.letters
  by-number (Err e) h = tt

module _ (b : List ℕ) (r : BlockRooms) where
  by-check : (x : Result Block BlockRefusal) → AnswerBy b x r → Lettered r
  by-check (Ok k) h = by-number _ _ _ _ r h
  by-check (Err e) h = rw h tt

  by_size : (c : Bool) → AnswerIf c b r → Lettered r
  by_size true h = by-check (checked_block b) h
  by_size false h = rw h tt

  pub letters-told : AnswerOf b r → Lettered r
  unfolding AnswerOf
  letters-told h = by_size (eqb (length b) 512) h
