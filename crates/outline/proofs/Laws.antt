-- The two endings of `support`: its check's refusal, and both indices. Assumes nothing.
use Prim.Native.Nat.{ℕ}
use mathlib.Core.List.{List}
use mathlib.Core.Path.{◌≡◌, refl}
use lib.Ieee.{Float, Format}
use Rattle.std.proofs.Common.{Result, Ok, Err}
use Rattle.model.specs.declared.Vector.{Vector}
use Rattle.model.specs.declared.SupportPair.{SupportPair}
use Rattle.model.specs.declared.Refusal.{Refusal}
use Rattle.model.specs.Domain.{outline_refusal, checked, refusal, numbered}
use Rattle.model.specs.Second.{support_pair, support_by, support_answer}
use Rattle.model.proofs.Domain.{passed, refused}

module _ (f : Format) (s : List Float) (d : Vector) (x : Result Unit Refusal) (is : x ≡ checked (outline_refusal f s)) where
  pub outline-refused : (r : Refusal) → x ≡ Err r → (j : ℕ) → j ≡ refusal x → Err (numbered j) ≡ support_answer f s d
  unfolding support_answer
  outline-refused = refused (λ k. support_by k (support_pair f s d)) (λ n. Err (numbered n)) (λ n. refl) (outline_refusal f s) x is

  pub outline-passed : x ≡ Ok tt → (p : SupportPair) → p ≡ support_pair f s d → Ok p ≡ support_answer f s d
  unfolding support_answer
  outline-passed e p ep = rw ep (passed (λ k. support_by k (support_pair f s d)) (λ n. Err (numbered n)) (λ n. refl) (outline_refusal f s) x is e)
