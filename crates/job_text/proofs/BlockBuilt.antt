-- A block built word by word. Assumes nothing.
use Rattle.std.proofs.Common.{◌≡◌, ℕ, zero, suc, ◌+◌, ◌-◌, ◌*◌, ◌%◌, ◌^◌, List, length, sym, refl, ◌∙◌, append-nil, add-one, arith, length-append}
use native.Mathlib.Nat.{mod-add-mod}
use lib.Seq.{drop-length}
use Rattle.text.specs.Put.{pasted, Put}
use Rattle.text.proofs.Pasted.{put_then}
use Rattle.wire.specs.Bytes.{word_bytes}
use Rattle.job_text.specs.Job.{word_at, first_words, sum_of_first, block_from, numbers_of, block_for}

pub words_more : (ns : List ℕ) (i : ℕ) {d d₁ d₂ : List ℕ} {at e : ℕ} → Put d 0 (first_words ns i) d₁ at → Put d₁ at (word_bytes (word_at ns i)) d₂ e →
    Put d 0 (first_words ns (i + 1)) d₂ e
unfolding first_words
words_more ns i p q = rw (add-one i) (put_then (omega arith) p q)

pub sum_more : (ns : List ℕ) (i : ℕ) → (sum_of_first ns i % 2 ^ 32 + word_at ns i) % 2 ^ 32 ≡ sum_of_first ns (i + 1) % 2 ^ 32
unfolding sum_of_first
sum_more ns i = rw (add-one i, mod-add-mod)

pub length-first : (ns : List ℕ) (n : ℕ) → length (first_words ns n) ≡ 4 * n
unfolding first_words
length-first ns zero = refl
length-first ns (suc n) = rw (length-append (first_words ns n) (word_bytes (word_at ns n)), length-first ns n) (omega arith)

pub length-block : (ns : List ℕ) → length (block_from ns) ≡ 512
unfolding block_from
length-block ns = rw (length-append (first_words ns 127) (word_bytes (4294967295 - sum_of_first ns 127 % 2 ^ 32)), length-first ns 127)

-- a text as long as the list takes its place
pub whole-put : {d d' s : List ℕ} {e : ℕ} → Put d 0 s d' e → length d ≡ length s → d' ≡ s
unfolding pasted
whole-put {d} {d'} {s} {e} p same =
    let size : 0 + length s ≡ length d = omega (arith, same) in
    p.bytes ∙ rw (size, drop-length d) (append-nil s)

pub whole-block : (ns : List ℕ) {d d₁ d₂ : List ℕ} {at e sum : ℕ} → Put d 0 (first_words ns 127) d₁ at → Put d₁ at (word_bytes (4294967295 - sum)) d₂ e →
    sum ≡ sum_of_first ns 127 % 2 ^ 32 → length d ≡ 512 → d₂ ≡ block_from ns
unfolding block_from
whole-block ns {d} {d₁} {d₂} {at} {e} {sum} p q wrapped size =
    whole-put (put_then (omega arith) p (rw wrapped at q)) (size ∙ sym (length-block ns))

pub length-block-for : (l : List ℕ) → length (block_for l) ≡ 512
unfolding block_for
length-block-for l = length-block (numbers_of l)
