-- A text at the start of a list ends within the list. Assumes nothing.
use mathlib.Core.Path.{◌≡◌, sym, ap, ◌∙◌}
use mathlib.Core.List.{List}
use Prim.Native.Nat.{ℕ, ◌≤◌}
use native.Mathlib.Omega.{arith}
use lib.ListN.{length, length-append}
use lib.Seq.{length-take-le}
use Rattle.io.specs.Counts.{IsPrefixLen}
use Rattle.text.specs.Put.{pasted, Put}

length-at_start : (d s : List ℕ) → length s ≤ length (pasted d 0 s)
unfolding pasted
length-at_start d s = rw length-append (omega arith)

longest : (d s : List ℕ) → length (pasted d 0 s) ≡ length d → length s ≤ length d
longest d s same = omega (arith, length-at_start d s)

pub prefix : {d d' s : List ℕ} {e : ℕ} → Put d 0 s d' e → length d' ≡ length d → IsPrefixLen e d'
prefix {d} {d'} {s} {e} p same =
    let fits : length s ≤ length d = longest d s (sym (ap length p.bytes) ∙ same) in
    let within : e ≤ length d' = omega (arith, p.place) in
    (within, sym (length-take-le e d' within))
