-- `foldflake::tell_route::tell_route` meets its contract, case by case. Assumes nothing.
use mathlib.Core.Path.{refl}
use borrow.Author.Rules.{rules}
use Rattle.foldflake.proofs.tell_route.tell_route.Goals as goal

pub returns-in-Clear : goal.returns-in-Clear
returns-in-Clear c = let told = c.put_place.ensures in
    simp c.in-Clear.is (told.0, refl, told.1)

pub returns-in-Ended : goal.returns-in-Ended
returns-in-Ended c = simp c.in-Ended.is c.put_end.ensures

pub returns-in-Refused : goal.returns-in-Refused
returns-in-Refused c = let told = c.put_place-in-Refused.ensures in
    simp c.in-Refused.is (told.0, refl, told.1)
