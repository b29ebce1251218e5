-- What it is that no second result fits a contract. The contract is the one that the checker makes of a function's `ensures` lines, and that the function's
-- theorem is about: nothing of it is written again here. That some result fits is the function's own theorem.
use Rattle.std.specs.Prelude.{◌≡◌}
use seplogic.Ra.Ura.{Ura}
use base.Logic.{SProp, ent}
use types.Logic.{Logic}
use contract.Lifetimes.{Lfts}
use contract.Monad.{conj, fact}
use denote.Triple.Clauses.{Ended, Clauses, Lasts, at_exit, closing}
use denote.Triple.Entry.{Args, Res}
use denote.Triple.Spec.{Spec}

module _ {M : Type 1} {𝓤 : Ura M} (𝓛 : Logic 𝓤) (T : Ended) where
  module _ (clauses : Clauses 𝓤 T) (κs : Lfts T.signature.lifetimes) (args : Args T.signature κs) (g : (clauses κs args).ghost) where
    -- what the clauses say of a result, and of what each list lent to be written holds at the end
    abbrev pub Fits : Res T.signature κs → Lasts T κs args → SProp 𝓤
    Fits r left = (clauses κs args).ensures g r (at_exit T κs args left)

    -- where they say that of two, the two are one
    abbrev pub Once : Type 1
    Once = (r r' : Res T.signature κs) (left left' : Lasts T κs args)
        → ent 𝓤 (conj 𝓤 (Fits r left) (Fits r' left')) (fact 𝓤 ((r ≡ r') × (left ≡ left')))

  pub record OneResult (contract : Spec 𝓤 T.signature) : Type 2 where
    pub clauses : Clauses 𝓤 T
    pub of-contract : closing 𝓛 T clauses ≡ contract
    pub once : (κs : Lfts T.signature.lifetimes) (args : Args T.signature κs) (g : (clauses κs args).ghost) → Once clauses κs args g
