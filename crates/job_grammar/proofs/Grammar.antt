-- A line is a job if and only if it is of the grammar. Assumes nothing.
use mathlib.Core.Path.{◌≡◌, refl, sym, ap, ◌∙◌}
use mathlib.Core.Bool.{Bool, true, false, ◌||◌}
use mathlib.Core.List.{List, [], ◌∷◌, ◌++◌}
use Prim.Native.Nat.{ℕ, ◌+◌, ◌*◌, ◌^◌, ◌≤◌, ◌<◌}
use native.Mathlib.Omega.{arith}
use borrow.Author.Tests.{eqb-false}
use lib.Dec.{eqb, ltb}
use lib.ListN.{length}
use Rattle.model.specs.Wire.{byte, word}
use Rattle.model.specs.Block.{job_of, bad_count}
use Rattle.model.specs.Blocks.{is_good}
use Rattle.model.specs.Text.{decimal, line}
use Rattle.block.proofs.Passed.{Fields, is-passed, fields-of}
use Rattle.job_text.specs.Job.{words_of, word_count, hexes, job_line, block_from, block_for, is_job}
use Rattle.job_text.specs.Job as Job
use Rattle.job_text.proofs.Lines.{length-words}
use Rattle.job_text.proofs.Read.{Bytes, word_below}
use Rattle.job_text.proofs.RoundTrip.{line-block-line, job-accepted}
use Rattle.numerals.proofs.Numerals.{as-printed, at_least_one, print-is-decimal}
use Rattle.job_grammar.specs.Grammar.{words_text, numbers_of, JobLine, Has}
use Rattle.job_grammar.proofs.Words.{words-printed, words-fit, as-many-numbers, hexes-are-words, as-many-hexes, line-by-grammar}
use Rattle.job_grammar.proofs.Block.{Fits, block-is-bytes, numbers-are-a-job, Holds, block-holds}

-- ---- of the grammar, so a job, and its block has what the line says
fits : (l : List ℕ) (g : JobLine l) → Fits g.job g.points-a g.points-b (numbers_of g.words)
fits l g = record {
  some-job = at_least_one g.job-text g.job g.job-said;
  job-fits = g.job-fits;
  some-a = at_least_one g.a-text g.points-a g.a-said;
  few-a = g.a-most;
  some-c = at_least_one g.b-text g.points-b g.b-said;
  few-c = g.b-most;
  as_many = as-many-numbers g.words ∙ g.as_many;
  words-fit = λ k. words-fit g.words k g.each_word;
}

-- a line of the grammar is the print of its numbers
as-print : (l : List ℕ) (g : JobLine l) → l ≡ line (decimal g.job ∷ decimal g.points-a ∷ decimal g.points-b ∷ hexes (numbers_of g.words))
as-print l g =
    rw (
      as-printed g.job-text g.job g.job-said g.job-fits,
      as-printed g.a-text g.points-a g.a-said (omega (arith, g.a-most)),
      as-printed g.b-text g.points-b g.b-said (omega (arith, g.b-most)),
      words-printed g.words g.each_word,
    )
    (g.whole ∙ sym (line-by-grammar g.job-text g.a-text g.b-text g.words))

pub grammar-is-job : (l : List ℕ) → JobLine l → is_job l ≡ true
grammar-is-job l g =
    ap is_job (as-print l g) ∙ numbers-are-a-job g.job g.points-a g.points-b (numbers_of g.words) (fits l g)

pub block-has-what-it-says : (l : List ℕ) (g : JobLine l) → Has (block_for l) l g
block-has-what-it-says l g =
    let h = block-holds g.job g.points-a g.points-b (numbers_of g.words) (fits l g) in
    let same : block_for (line (decimal g.job ∷ decimal g.points-a ∷ decimal g.points-b ∷ hexes (numbers_of g.words))) ≡ block_for l =
    ap block_for (sym (as-print l g)) in
    record {
      job = ap job_of (sym same) ∙ h.job-held;
      points-a = ap (λ (b : List ℕ). byte b 4) (sym same) ∙ h.a-held;
      points-b = ap (λ (b : List ℕ). byte b 5) (sym same) ∙ h.c-held;
      words = ap (λ (b : List ℕ). words_of b (word_count b)) (sym same) ∙ h.words-held;
    }

-- ---- a job, so of the grammar
fair-least : (n : ℕ) → bad_count n ≡ false → 1 ≤ n
fair-least n e = go (eqb n 0) refl e
  where
    go : (t : Bool) → eqb n 0 ≡ t → (t || ltb 16 n) ≡ false → 1 ≤ n
    go true f h = absurd (let z : ◌≡◌ {A = ℕ} 0 1 = cc in omega arith)
    go false f h = omega (arith, eqb-false n 0 f)

pub job-is-grammar : (l : List ℕ) → is_job l ≡ true → JobLine l
unfolding job_line block_for
job-is-grammar l e =
    let b = block_for l in
    let bytes : Bytes b = block-is-bytes (Job.numbers_of l) in
    let f : Fields b = fields-of b (is-passed b (ap is_good (job-accepted l e))).fields in
    let no-job = eqb-false (job_of b) 0 f.job in
    let small : word b 0 < 4294967296 = word_below b 0 bytes in
    record {
      job = job_of b;
      points-a = byte b 4;
      points-b = byte b 5;
      job-text = decimal (job_of b);
      a-text = decimal (byte b 4);
      b-text = decimal (byte b 5);
      words = hexes (words_of b (word_count b));
      job-said = print-is-decimal 20 (job_of b) (omega (arith, no-job)) (omega arith);
      a-said = print-is-decimal 20 (byte b 4) (fair-least (byte b 4) f.fair-a) (omega (arith, f.count-a));
      b-said = print-is-decimal 20 (byte b 5) (fair-least (byte b 5) f.fair-b) (omega (arith, f.count-b));
      job-fits = small;
      a-most = f.count-a;
      b-most = f.count-b;
      each_word = hexes-are-words (words_of b (word_count b));
      as_many = as-many-hexes (words_of b (word_count b)) ∙ length-words b (word_count b);
      whole = sym (line-block-line l e) ∙ line-by-grammar (decimal (job_of b)) (decimal (byte b 4)) (decimal (byte b 5)) (hexes (words_of b (word_count b)));
    }
