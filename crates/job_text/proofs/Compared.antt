-- A line compared with what was put. Assumes nothing.
use Rattle.std.proofs.Common.{◌≡◌, ℕ, ◌+◌, Bool, true, false, eqb, List, [], ◌∷◌, length, take, drop, sym, refl, ◌∙◌, arith, take_at, eq-eqb, eqb-true}
use Rattle.text.specs.Put.{pasted, Put}
use Rattle.job_text.specs.Job as Job
use Rattle.block.proofs.Passed.{both_true}

-- the start of the list up to where a text ends is that text
pub put-start : {d d' s : List ℕ} {e : ℕ} → Put d 0 s d' e → take e d' ≡ s
unfolding pasted
put-start {d} {d'} {s} {e} p =
    let size : e ≡ length s = omega (arith, p.place) in
    rw (p.bytes, size) (take_at s (drop (0 + length s) d) (length s) refl)

pub same-list : (xs ys : List ℕ) → Job.same xs ys ≡ true → xs ≡ ys
unfolding Job.same
same-list [] [] e = refl
same-list [] (y ∷ ys) e = cc
same-list (x ∷ xs) [] e = cc
same-list (x ∷ xs) (y ∷ ys) e =
    let h = both_true (eqb x y) (Job.same xs ys) e in
    let first : x ≡ y = eqb-true x y h.0 in
    rw (first, same-list xs ys h.1)

pub list_same : (xs : List ℕ) → Job.same xs xs ≡ true
unfolding Job.same
list_same [] = refl
list_same (x ∷ xs) = rw (eq-eqb x x refl, list_same xs)

-- an answer that is true where and only where two lists are one
pub same-is : (r : Bool) {xs ys zs : List ℕ} → (r ≡ true → xs ≡ ys) → (xs ≡ ys → r ≡ true) → xs ≡ zs → r ≡ Job.same zs ys
same-is true {xs} {ys} {zs} one two e =
    let f : zs ≡ ys = sym e ∙ one refl in
    rw f (sym (list_same ys))
same-is false {xs} {ys} {zs} one two e = go (Job.same zs ys) refl
  where
    go : (b : Bool) → Job.same zs ys ≡ b → false ≡ b
    go false f = refl
    go true f = two (e ∙ same-list zs ys f)
