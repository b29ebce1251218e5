-- How a contract is shown to fit one result: its clauses are taken as plain facts, and what is left in the lists lent to be written is compared list by
-- list. Assumes nothing.
use Prim.Native.Nat.{ℕ}
use mathlib.Core.List.{List, [], ◌∷◌}
use mathlib.Core.Path.{◌≡◌, sym, ◌∙◌}
use seplogic.Ra.Ura.{Ura}
use base.Logic.{SProp, ent, sep, fst∗, snd∗, via}
use contract.Lifetimes.{Lfts}
use contract.Monad.{conj, conj_l, conj_r, fact, fact_i, fact_use}
use denote.RattleType.{Denots}
use denote.Signature.{Slot, types_at}
use denote.Triple.Clauses.{Ended, Lasts}
use denote.Triple.Entry.{Args}
use denote.Triple.End.{Kepts, Fins}

pub same-value : {A : Type 0} {x y z : A} → x ≡ z → y ≡ z → x ≡ y
same-value p q = p ∙ sym q

-- ---- what is left in the lent lists, parameter by parameter
module _ {n : ℕ} (κs : Lfts n) where
  abbrev Each : (ss : List (Slot n)) (ks : Kepts ss) (a : Denots (types_at ss κs)) → Fins κs ss ks a → Fins κs ss ks a → Type 0
  Each [] ks a v w = Unit {0}
  Each (s ∷ ss) ks a v w = (v.0 ≡ w.0) × Each ss ks.1 a.1 v.1 w.1

  all : (ss : List (Slot n)) (ks : Kepts ss) (a : Denots (types_at ss κs)) (v w : Fins κs ss ks a) → Each ss ks a v w → v ≡ w
  all [] ks a v w p = λ i. tt
  all (s ∷ ss) ks a v w p = λ i. (p.0 i, all ss ks.1 a.1 v.1 w.1 p.1 i)

pub each-list : (T : Ended) (κs : Lfts T.signature.lifetimes) (a : Args T.signature κs) (v w : Lasts T κs a)
    → Each κs T.signature.params T.kept a v w → v ≡ w
each-list T κs = all κs T.signature.params T.kept

-- ---- a contract of one clause, and of two
module _ {M : Type 1} (𝓤 : Ura M) {ω : Type 0} where
  pub told : {φ ψ : Type 0} → (φ → ψ → ω) → ent 𝓤 (conj 𝓤 (fact 𝓤 φ) (fact 𝓤 ψ)) (fact 𝓤 ω)
  told {φ} {ψ} same =
      let P : SProp 𝓤 = fact 𝓤 φ in
      let Q : SProp 𝓤 = fact 𝓤 ψ in
      fact_use 𝓤 φ (conj_l 𝓤 P Q) (λ p. fact_use 𝓤 ψ (conj_r 𝓤 P Q) (λ q. fact_i 𝓤 ω (conj 𝓤 P Q) (same p q)))

  pub told-in-two : {φ φ' ψ ψ' : Type 0} → (φ × φ' → ψ × ψ' → ω)
      → ent 𝓤 (conj 𝓤 (sep 𝓤 (fact 𝓤 φ) (fact 𝓤 φ')) (sep 𝓤 (fact 𝓤 ψ) (fact 𝓤 ψ'))) (fact 𝓤 ω)
  told-in-two {φ} {φ'} {ψ} {ψ'} same =
      let P : SProp 𝓤 = sep 𝓤 (fact 𝓤 φ) (fact 𝓤 φ') in
      let Q : SProp 𝓤 = sep 𝓤 (fact 𝓤 ψ) (fact 𝓤 ψ') in
      fact_use 𝓤 φ (via 𝓤 P (conj_l 𝓤 P Q) (fst∗ 𝓤 (fact 𝓤 φ) (fact 𝓤 φ'))) (λ p.
      fact_use 𝓤 φ' (via 𝓤 P (conj_l 𝓤 P Q) (snd∗ 𝓤 (fact 𝓤 φ) (fact 𝓤 φ'))) (λ p'.
      fact_use 𝓤 ψ (via 𝓤 Q (conj_r 𝓤 P Q) (fst∗ 𝓤 (fact 𝓤 ψ) (fact 𝓤 ψ'))) (λ q.
      fact_use 𝓤 ψ' (via 𝓤 Q (conj_r 𝓤 P Q) (snd∗ 𝓤 (fact 𝓤 ψ) (fact 𝓤 ψ'))) (λ q'.
      fact_i 𝓤 ω (conj 𝓤 P Q) (same (p, p') (q, q'))))))
