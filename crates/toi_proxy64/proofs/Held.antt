-- Written by tests/written/wide.py from toi_proxy, in f64.
-- What a walk has of a proxy that it was handed: its machine value, what its list owns beside the whole, and that its parts fit their types. Assumes nothing.
use mathlib.Core.Path.{◌≡◌}
use mathlib.Core.Bool.{true}
use mathlib.Core.List.{[], ◌∷◌}
use lib.Dec.{T as Holds}
use lib.Ieee.{binary64, fits}
use lib.ListN.{length}
use seplogic.Ra.Ura.{Ura}
use mir.Val.{Val, WT, has_ty}
use base.Logic.{ent, sep}
use base.Fml.{Fml}
use types.Logic.{Logic, sem}
use contract.Lifetimes.{Lfts}
use types.Kit.{‵, ◌⊛◌, given, ◌$◌, ◌∵◌, !, qed, move, drop, use1, split, learn, frame, done}
use denote.RattleType.{RattleType}
use denote.Laws.{Is}
use denote.Builtin.{f64}
use denote.Ref.{NamedLft}
use denote.Signature.{named_lft}
use denote.Slice.{slice_val, ShrSlice}
use denote.Struct.Declared.{Declared}
use denote.Struct.Laws as LL
use denote.Struct.Rest.{all_own, field_own, rest, own_open, own_out}
use denote.Struct.Values.{Values}
use Rattle.toi_proxy64.specs.declared.ToiProxy.{ToiProxy}
use Rattle.toi_proxy64.specs.contracts.ToiProxy as T
use Rattle.toi_proxy64.proofs.ToiProxy.TheLaws as T'

-- the machine values of a proxy and of its list
abbrev pub proxy_val : ToiProxy → Val
proxy_val d = T'.lowered d

abbrev pub list_val : ToiProxy → Val
list_val d = slice_val d.points.ref_ptr (length d.points.now)

module _ (α : NamedLft) where
  abbrev pub Proxy : RattleType
  Proxy = T.the_row α

  abbrev pub declared : Declared
  declared = T.the_type α

  abbrev pub laws : LL.Laws declared
  laws = T'.the_laws α

  -- what a proxy owns, and what its list owns
  abbrev pub Own : ToiProxy → Fml
  Own d = Proxy.own_val d (proxy_val d ∷ [])

  abbrev pub Lent : ToiProxy → Fml
  Lent d = (ShrSlice α.mir α.lft f64).own_val d.points (list_val d ∷ [])

  abbrev values : ToiProxy → Values declared.parts
  values d = (d.points, (d.radius, tt))

  pub radius-fits : (d : ToiProxy) → Is Proxy d (proxy_val d ∷ []) → fits binary64 d.radius ≡ true
  radius-fits d p = (LL.owed declared laws d (proxy_val d ∷ []) p).1.0.1

  module _ {M : Type 1} {𝓤 : Ura M} (𝓛 : Logic 𝓤) (d : ToiProxy) where
    -- a proxy is Copy: one copy stays whole, and of the other the list's part is taken
    pub lends : ent 𝓤 (sem 𝓛 (Own d)) (sep 𝓤 (sem 𝓛 (Lent d)) (sem 𝓛 (Own d)))
    lends =
        qed 𝓛 (‵ (Own d) ∷ []) ∵ use1 𝓛 (‵ (Own d) ⊛ ‵ (Own d)) ((LL.copy declared (T'.the_copy α) 𝓛).twice d (proxy_val d ∷ [])) $ split ! $
        use1 𝓛 (given (proxy_val d ∷ [] ≡ proxy_val d ∷ []) (‵ (all_own declared.parts laws (values d))))
        (own_open 𝓛 declared laws (values d) (proxy_val d)) $ learn ! (λ _.
        use1 𝓛 (‵ (field_own declared.parts laws 0 d.points) ⊛ ‵ (rest declared.parts laws 0 (values d)))
        (own_out 𝓛 declared.parts laws 0 (values d)) $ split ! $
        -- [what the list owns; what the radius owns; what the proxy owns]
        move ! (1 ∷ []) $ drop ! $ frame ! $ done !)

    pub typed : Is Proxy d (proxy_val d ∷ []) → Holds (has_ty (T'.mir α.mir) (proxy_val d)) × WT (proxy_val d)
    typed p = ((LL.lawful declared laws 𝓛).typed d (proxy_val d ∷ []) p).0

-- the lifetimes of two proxies, A and B, and their types at them
abbrev pub lft_a : Lfts 2 → NamedLft
lft_a κs = named_lft 2 0 tt κs

abbrev pub lft_b : Lfts 2 → NamedLft
lft_b κs = named_lft 2 1 tt κs

abbrev pub ProxyA : Lfts 2 → RattleType
ProxyA κs = Proxy (lft_a κs)

abbrev pub ProxyB : Lfts 2 → RattleType
ProxyB κs = Proxy (lft_b κs)
