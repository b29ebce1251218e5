-- A text put where there is room for it ends within the list; two such put one after the other. Assumes nothing.
use Prim.Native.Nat.{ℕ, ◌+◌, ◌≤◌}
use mathlib.Core.Path.{◌≡◌, refl, ap, subst, ◌∙◌}
use mathlib.Core.Bool.{Bool, true, false, cond}
use mathlib.Core.List.{List, []}
use native.Mathlib.Omega.{arith}
use borrow.Author.Tests.{ltb-false}
use lib.Dec.{ltb}
use lib.ListN.{length}
use Rattle.text.specs.Put.{Put, where_room}
use Rattle.text.proofs.Pasted.{put_then}
use Rattle.outfile.specs.Names.{joined}

pub ends-inside : {d d' : List ℕ} {k e : ℕ} (s : List ℕ) → k ≤ length d → Put d k (where_room (k + length s) (length d) s) d' e → e ≤ length d
ends-inside {d} {d'} {k} {e} s inside p = omega (arith, p.place, go (ltb (length d) (k + length s)) refl)
  where
    go : (t : Bool) → ltb (length d) (k + length s) ≡ t → k + length (cond t [] s) ≤ length d
    go true h = omega (arith, inside)
    go false h = ltb-false (length d) (k + length s) h

pub joined-put : {d d₁ d₂ : List ℕ} {e₁ e₂ : ℕ} (s t : List ℕ) → Put d 0 (where_room (0 + length s) (length d) s) d₁ e₁ → length d₁ ≡ length d
    → Put d₁ e₁ (where_room (e₁ + length t) (length d₁) t) d₂ e₂ → Put d 0 (joined s t (length d)) d₂ e₂
joined-put {d} {d₁} {d₂} {e₁} {e₂} s t p same q =
    let start : 0 + length s ≡ length s = omega arith in
    let first : Put d 0 (where_room (length s) (length d) s) d₁ e₁ = rw start at p in
    let place : e₁ ≡ length (where_room (length s) (length d) s) = omega (arith, first.place) in
    let room = ap (λ (n : ℕ). where_room (e₁ + length t) n t) same ∙ ap (λ (n : ℕ). where_room (n + length t) (length d) t) place in
    put_then (omega arith) first (subst (λ (u : List ℕ). Put d₁ e₁ u d₂ e₂) room q)
