-- `job_text::build::build_block` meets its contract: the words so far stand at the start, their sum has wrapped as it goes. Assumes nothing.
use Rattle.std.proofs.Common.{◌≡◌, refl, ◌∙◌, arith, rules}
use Rattle.text.proofs.Pasted.{put-nothing}
use Rattle.job_text.specs.Job.{first_words, sum_of_first}
use Rattle.job_text.proofs.BlockBuilt.{words_more, sum_more, whole-block}
use Rattle.job_text.proofs.build.build_block.Goals as goal

pub loop-i-init : goal.loop-i-init
unfolding first_words sum_of_first
loop-i-init c = (search rules, search rules, put-nothing _ _, refl)

pub loop-i-preserved : goal.loop-i-preserved
loop-i-preserved c = let l = c.loop-i in
    let w = c.word_at-w in
    let p = c.put_word-at in (
      omega (arith, p.ensures.place, l.invariant.0),
      p.auto.block ∙ l.invariant.1,
      words_more _ _ l.invariant.2 (rw w.ensures at p.ensures),
      simp (c.wrapping_add_u32-sum.ensures.value, l.invariant.3, w.ensures) (sum_more _ _),
    )

pub returns : goal.returns
returns c = let l = c.loop-i in
    let done : l.i ≡ 127 = omega arith in
    whole-block _ (rw done at l.invariant.2) c.put_word.ensures (rw done at l.invariant.3)
    c.requires
