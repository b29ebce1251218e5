-- The answer that a refused block comes to; a block that passed has number 0 here.
use Rattle.std.specs.Prelude.{Result, Ok, Err}
use Rattle.model.specs.declared.Block.{Block}
use Rattle.model.specs.declared.BlockRefusal.{BlockRefusal}
use Rattle.model.specs.Block.{refused}
use Rattle.model.specs.Work.{BlockAnswer}

abbrev pub refusal_by : Result Block BlockRefusal → BlockAnswer
refusal_by (Ok k) = refused k.job 0
refusal_by (Err r) = Err r
