-- A placed shape, told by a number and the list afterwards. Assumes nothing.
use mathlib.Core.Path.{◌≡◌, refl, ap, ◌∙◌}
use mathlib.Core.List.{List}
use Prim.Native.Nat.{ℕ}
use borrow.Author.Tests.{eq-eqb, ne_eqb}
use lib.ListN.{length}
use lib.Ieee.{Float}
use Rattle.std.proofs.Common.{Result}
use Rattle.model.specs.declared.Pose.{Pose}
use Rattle.model.specs.declared.Refusal.{Refusal}
use Rattle.list_calls.specs.Entry.{pose_of}
use Rattle.foldflake.specs.Entry.{built_number, PlacedTold}

module _ (told : Pose → List Float → Result ℕ Refusal) (left : Pose → List Float → List Float) (ns out : List Float) where
  pub no-pose : (length ns ≡ 4 → ⊥) → PlacedTold told left ns out out 255
  no-pose other = let test = ne_eqb (length ns) 4 other in record { number = rw test refl; corners = rw test refl }

  pub placed : (p : Pose) (x : Result ℕ Refusal) (out' : List Float) (r : ℕ) → length ns ≡ 4 → p ≡ pose_of ns →
      (x ≡ told p out) × (out' ≡ left p out) → r ≡ built_number x → PlacedTold told left ns out out' r
  placed p x out' r four from built is =
      let test = eq-eqb (length ns) 4 four in
      let answer : x ≡ told (pose_of ns) out = rw from at built.0 in
      let after : out' ≡ left (pose_of ns) out = rw from at built.1 in
      record { number = rw test (is ∙ ap built_number answer); corners = rw test after }
