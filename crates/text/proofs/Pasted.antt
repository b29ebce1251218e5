-- What a pasted text does to a list: its length stays, a byte more is one store, and two texts one after the other are one. Assumes nothing.
use mathlib.Core.Path.{◌≡◌, refl, sym, ap, ◌∙◌}
use mathlib.Core.List.{List, [], ◌∷◌, ◌++◌, append_assoc}
use Prim.Native.Nat.{ℕ, ◌+◌, ◌≤◌, ◌<◌}
use native.Mathlib.Omega.{arith}
use native.Mathlib.Nat.{le_refl}
use native.Mathlib.Numerals.{add-one}
use lib.ListN.{length, take, drop, set, length-append}
use lib.Seq.{paste, paste-zero, length-paste, length-take-le, take-length, take_at, drop_at, drop-drop, set_split}
use Rattle.text.specs.Put.{pasted, Put}

-- the whole of a text, copied byte by byte
pub whole-paste : (d : List ℕ) (k : ℕ) (s : List ℕ) → paste d k s (length s) ≡ pasted d k s
unfolding pasted
whole-paste d k s = rw (take-length s)

pub length-pasted : (d : List ℕ) (k : ℕ) (s : List ℕ) → k + length s ≤ length d → length (pasted d k s) ≡ length d
length-pasted d k s fits = rw (← whole-paste d k s) (length-paste d k s (length s) fits (le_refl (length s)))

pasted-is : (d : List ℕ) (k : ℕ) (s : List ℕ) → pasted d k s ≡ (take k d ++ s) ++ drop (k + length s) d
unfolding pasted
pasted-is d k s = refl

module _ (d : List ℕ) (k : ℕ) (s t : List ℕ) (inside : k ≤ length d) where
  head-length : length (take k d ++ s) ≡ k + length s
  head-length = rw (length-append, length-take-le k d inside)

  start : take (k + length s) (pasted d k s) ≡ take k d ++ s
  unfolding pasted
  start = take_at (take k d ++ s) (drop (k + length s) d) (k + length s) head-length

  rest : drop (k + length s + length t) (pasted d k s) ≡ drop (k + length (s ++ t)) d
  unfolding pasted
  rest =
      let n = k + length s in
      let e : n + length t ≡ k + length (s ++ t) = omega (arith, length-append s t) in
      sym (drop-drop (length t) n (pasted d k s)) ∙ ap (drop (length t)) (drop_at (take k d ++ s) (drop n d) n head-length) ∙ drop-drop (length t) n d
      ∙ ap (λ (m : ℕ). drop m d) e

  pub pasted-twice : pasted (pasted d k s) (k + length s) t ≡ pasted d k (s ++ t)
  pasted-twice = pasted-is (pasted d k s) (k + length s) t ∙ rw (start, rest, append_assoc (take k d) s t) (sym (pasted-is d k (s ++ t)))

-- a text, and another from where it ends
pub put_then : {d d₁ d₂ s t : List ℕ} {k e₁ e₂ : ℕ} → k ≤ length d → Put d k s d₁ e₁ → Put d₁ e₁ t d₂ e₂ → Put d k (s ++ t) d₂ e₂
put_then {d} {d₁} {d₂} {s} {t} {k} {e₁} {e₂} inside p q = record {
  place = omega (arith, p.place, q.place, length-append s t);
  bytes = q.bytes ∙ rw (p.bytes, p.place) (pasted-twice d k s t inside);
}

-- one byte is one store
pub put_byte : (d : List ℕ) (e x : ℕ) → e < length d → Put d e (x ∷ []) (set d e x) (e + 1)
unfolding pasted
put_byte d e x inside = record {
  place = refl;
  bytes = set_split d e x inside ∙ rw (← add-one e) (sym (append_assoc (take e d) (x ∷ []) (drop (e + 1) d)));
}

pub put-nothing : (d : List ℕ) (k : ℕ) → Put d k [] d k
unfolding pasted
put-nothing d k = record { place = omega arith; bytes = paste-zero d k [] }
