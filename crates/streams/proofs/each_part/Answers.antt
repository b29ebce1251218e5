-- Each turn is one call more; the last one ends the run. Assumes nothing.
use Rattle.std.proofs.Common.{rules, arith, of_calls, ◌≡◌, ◌+◌, ℕ, List, [], ◌∷◌, ◌++◌, length, ap, subst, sym, ◌∙◌, Option, Result, Ok, Err, Bor, length-append, refl}
use Rattle.std.proofs.lemmas.Fn.{FoldsTo-push}
use Rattle.std.proofs.lemmas.Result.{err_from_is_err_and}
use Rattle.std.specs.declared.ops.ControlFlow.TheVariants.{Continue}
use Rattle.std.specs.Fn.{Called}
use Rattle.streams.specs.Parts.{IsNextPart, Turn, Runs}
use Rattle.streams.proofs.each_part.Goals as goal

of_room : {E : Type 0} {n m : ℕ} {known known' : Option (List ℕ)} {part : Result (Bor (List ℕ)) E} → IsNextPart n known known' part → n ≡ m → IsNextPart m known known' part
of_room {E} {n} {m} {known} {known'} {part} read same = subst (λ k. IsNextPart k known known' part) same read

pub returns-in_err-end : goal.returns-in_err-end
returns-in_err-end g c =
    let inv = c.loop-reads.invariant in
    let given = err_from_is_err_and c.from_residual.result c.from_residual.ensures.1 in
    subst (Runs _ _ _ _) (sym given.1) (record {
      parts = inv.2;
      last = (c.loop-reads.work, g.R.Read.remaining c.loop-reads.input);
      turns = inv.4;
      ended = (
        c.read_part.result,
        c.work.new.self,
        record {
          read = of_room c.read_part.ensures inv.1;
          called = subst (λ r. Called g.F.FnMut c.loop-reads.work (c.read_part.result, tt) r c.work.new.self) (c.in_err-end.was ∙ ap Err (sym given.2)) c.work.ensures;
        },
      );
    })

pub returns-in-Break : goal.returns-in-Break
returns-in-Break g c =
    let inv = c.loop-reads.invariant in
    record {
      parts = inv.2;
      last = (c.loop-reads.work, g.R.Read.remaining c.loop-reads.input);
      turns = inv.4;
      ended = (
        c.read_part.result,
        c.work.new.self,
        record {
          read = of_room c.read_part.ensures inv.1;
          called = subst (λ r. Called g.F.FnMut c.loop-reads.work (c.read_part.result, tt) r c.work.new.self) (c.in_ok-end.was ∙ ap Ok c.in-Break.is) c.work.ensures;
        },
      );
    }

pub loop-reads-preserved : goal.loop-reads-preserved
loop-reads-preserved g c =
    let inv = c.loop-reads.invariant in
    let turn : Turn g.F.FnMut (length c.args.buffer.now) (Ok (Continue tt)) (c.loop-reads.work, g.R.Read.remaining c.loop-reads.input) c.read_part.result (c.work.new.self, g.R.Read.remaining c.read_part.new.input)
    = record {
      read = of_room c.read_part.ensures inv.1;
      called = subst (λ r. Called g.F.FnMut c.loop-reads.work (c.read_part.result, tt) r c.work.new.self) (c.in_ok-end.was ∙ ap Ok c.in_default.is) c.work.ensures;
    } in (
      search of_calls,
      search rules,
      inv.2 ++ (c.read_part.result ∷ []),
      length-append inv.2 _ ∙ ap (λ n. n + 1) inv.3,
      FoldsTo-push _ _ _ _ _ _ inv.4 turn,
    )

pub returns : goal.returns
returns g c =
    let inv = c.loop-reads.invariant in
    record {
      parts = inv.2;
      last = (c.loop-reads.work, g.R.Read.remaining c.loop-reads.input);
      turns = inv.4;
      ended = (inv.3 ∙ omega arith, refl);
    }
