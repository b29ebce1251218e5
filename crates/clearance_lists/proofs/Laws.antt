-- An answer that holds, told; and a list of the wrong length. Assumes nothing.
use mathlib.Core.Path.{◌≡◌, refl, sym, ap, ◌∙◌}
use mathlib.Core.Bool.{Bool, true, false, ◌&&◌, true≢false}
use mathlib.Core.List.{List}
use Prim.Native.Nat.{ℕ, ◌≤◌}
use native.Mathlib.Omega.{arith}
use borrow.Author.Tests.{eqb-true}
use lib.Dec.{eqb}
use lib.ListN.{length}
use lib.Ieee.{Float}
use Rattle.model.specs.declared.Vector.{Vector}
use Rattle.model.specs.Support.{point}
use Rattle.model.proofs.DistanceCall.{both}
use Rattle.clearance_call.specs.declared.Cleared.{Cleared}
use Rattle.clearance_call.specs.declared.Cleared.TheVariants.{Refused, Clear, Touch, Open}
use Rattle.clearance_call.specs.Call.{Told}
use Rattle.clearance_lists.specs.Entry.{cleared_number, fractions_after, pieces_after, Few, clearance_fits, ClearanceTold}

pub few-pieces : (a b ns : List Float) (from : Float) (x : Cleared) → Told a b ns from x → Few x
few-pieces a b ns from (Refused k) h = omega arith
few-pieces a b ns from (Clear n) h = h.few
few-pieces a b ns from (Touch u t n) h = h.few
few-pieces a b ns from (Open u n) h = h.few

module _ (ns out : List Float) (pieces : List ℕ) where
  pub lengths : clearance_fits ns out pieces ≡ true → (length ns ≡ 24) × (length out ≡ 2) × (length pieces ≡ 1)
  lengths fits =
      let last = both (eqb (length ns) 24 && eqb (length out) 2) (eqb (length pieces) 1) fits in
      let first = both (eqb (length ns) 24) (eqb (length out) 2) last.0 in
      (eqb-true _ _ first.0, eqb-true _ _ first.1, eqb-true _ _ last.1)

  module _ (a b : List Float) (from : Float) where
    pub reported : (x : Cleared) (limits : Vector) (out' : List Float) (pieces' : List ℕ) (r : ℕ) → clearance_fits ns out pieces ≡ true
        → Told a b ns from x → limits ≡ point ns 1
        → (r ≡ cleared_number x) × (out' ≡ fractions_after limits.x x out) × (pieces' ≡ pieces_after x pieces)
        → ClearanceTold a b ns from out pieces out' pieces' r
    reported x limits out' pieces' r fits holds is told = record {
      told = λ e. record {
        answer = x;
        holds = holds;
        number = told.0;
        fractions = told.1 ∙ ap (λ (v : Vector). fractions_after v.x x out) is;
        tried = told.2;
      };
      misfit = λ e. absurd (true≢false (sym fits ∙ e));
    }

    pub misfit : clearance_fits ns out pieces ≡ false → ClearanceTold a b ns from out pieces out pieces 255
    misfit fits = record {
      told = λ e. absurd (true≢false (sym e ∙ fits));
      misfit = λ e. record { number = refl; fractions = refl; tried = refl };
    }
