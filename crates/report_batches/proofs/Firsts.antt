-- What the last three lines of a report say: the count stands on a worked block, none has a larger one, and every worked block before it has a
-- smaller one; where there is no maximum no block was worked. Assumes nothing.
use Rattle.std.proofs.Common.{Ok, Err, Option, Some, None}
use mathlib.Core.Path.{◌≡◌, refl, sym, ap, ◌∙◌}
use mathlib.Core.Bool.{Bool, true, false, cond}
use mathlib.Core.List.{List, [], ◌∷◌, ◌++◌}
use Prim.Native.Nat.{ℕ, zero, suc, ◌+◌, ◌≤◌, ◌<◌}
use native.Mathlib.Omega.{arith}
use native.Mathlib.Nat.{le_refl}
use borrow.Author.Tests.{ltb-true, ltb-false}
use lib.Dec.{ltb}
use lib.ListN.{length, get_or}
use Rattle.model.specs.declared.Counts.{Counts}
use Rattle.model.specs.Work.{BlockAnswer}
use Rattle.report_counts.specs.declared.most.Most.{Most}
use Rattle.report_counts.specs.declared.most.Largest.{Largest}
use Rattle.report_counts.specs.Largest.{hold, larger, nowhere, larger_each, seen, largest_from, largest_in, seen_at}
use Rattle.report_counts.specs.Report.{report}
use Rattle.report_batches.specs.Told.{Place, in_batch, in_batches, shown, shown_at, AtMost, Below, nobody, Told, none, first, calls_of, searches_of, steps_of}
use Rattle.report_batches.specs.Told.{Firsts}
use Rattle.report_counts.proofs.Places.{each-assoc, none_each}

unfoldable fold_each : List Place → Largest
fold_each [] = nowhere
fold_each (p ∷ ps) = larger_each (seen (hold p.batch) (hold p.block) p.answer) (fold_each ps)

fold-append : (ps qs : List Place) → fold_each (ps ++ qs) ≡ larger_each (fold_each ps) (fold_each qs)
unfolding fold_each
fold-append [] qs = sym (none_each (fold_each qs))
fold-append (p ∷ ps) qs =
    let first = seen (hold p.batch) (hold p.block) p.answer in
    ap (larger_each first) (fold-append ps qs) ∙ sym (each-assoc first (fold_each ps) (fold_each qs))

fold-batch : (i n : ℕ) (xs : List BlockAnswer) → fold_each (in_batch i n xs) ≡ largest_from i n xs
unfolding fold_each in_batch largest_from
fold-batch i n [] = refl
fold-batch i n (x ∷ xs) = ap (larger_each (seen (hold i) (hold (n + 1)) x)) (fold-batch i (n + 1) xs)

fold-batches : (i : ℕ) (bs : List (List BlockAnswer)) → fold_each (in_batches i bs) ≡ largest_in i bs
unfolding fold_each in_batches largest_in
fold-batches i [] = refl
fold-batches i (b ∷ bs) =
    fold-append (in_batch (i + 1) 0 b) (in_batches (i + 1) bs)
    ∙ ap (λ (a : Largest). larger_each a (fold_each (in_batches (i + 1) bs))) (fold-batch (i + 1) 0 b)
    ∙ ap (larger_each (largest_from (i + 1) 0 b)) (fold-batches (i + 1) bs)

-- ---- the first of the largest
unfoldable fold_one : (Counts → ℕ) → List Place → Option Most
fold_one which [] = None
fold_one which (p ∷ ps) = larger (shown_at which p) (fold_one which ps)

at_most : (n m : ℕ) (s : Option Most) → n ≤ m → AtMost n s → AtMost m s
at_most n m None h p = tt
at_most n m (Some s) h p = omega (arith, p)

nowhere-most : (n : ℕ) (s : Option Most) → s ≡ None → AtMost n s
nowhere-most n s e = rw e tt

none-shown : (which : Counts → ℕ) (k : ℕ) → shown_at which (get_or [] k nobody) ≡ None
none-shown which k = refl

module _ (which : Counts → ℕ) (p : Place) (ps : List Place) where
  -- one that was not worked in front
  passed : (m : Option Most) → shown_at which p ≡ None → Told which ps m → Told which (p ∷ ps) m
  passed m e (none is quiet) = none is go
    where
      go : (k : ℕ) → shown_at which (get_or (p ∷ ps) k nobody) ≡ None
      go zero = e
      go (suc k) = quiet k
  passed m e (first k n i j is inside here most less) = first (suc k) n i j is (omega arith) here all before
    where
      all : (l : ℕ) → AtMost n (shown_at which (get_or (p ∷ ps) l nobody))
      all zero = rw e tt
      all (suc l) = most l

      before : (l : ℕ) → l < suc k → Below n (shown_at which (get_or (p ∷ ps) l nobody))
      before zero h = rw e tt
      before (suc l) h = less l (omega arith)

  -- a worked one in front of none
  alone : (c a b : ℕ) → shown_at which p ≡ seen_at c a b → ((k : ℕ) → shown_at which (get_or ps k nobody) ≡ None) → Told which (p ∷ ps) (seen_at c a b)
  alone c a b e quiet = first 0 c a b refl (omega arith) e all (λ l h. absurd (omega arith))
    where
      all : (l : ℕ) → AtMost c (shown_at which (get_or (p ∷ ps) l nobody))
      all zero = rw e (le_refl c)
      all (suc l) = nowhere-most c (shown_at which (get_or ps l nobody)) (quiet l)

  -- a worked one in front of a larger, and of one that is not larger
  smaller : (c a b k n i j : ℕ) → shown_at which p ≡ seen_at c a b → c < n → k < length ps → shown_at which (get_or ps k nobody) ≡ seen_at n i j
      → ((l : ℕ) → AtMost n (shown_at which (get_or ps l nobody))) → ((l : ℕ) → l < k → Below n (shown_at which (get_or ps l nobody)))
      → Told which (p ∷ ps) (seen_at n i j)
  smaller c a b k n i j e small inside here most less = first (suc k) n i j refl (omega arith) here all before
    where
      all : (l : ℕ) → AtMost n (shown_at which (get_or (p ∷ ps) l nobody))
      all zero = rw e (omega arith)
      all (suc l) = most l

      before : (l : ℕ) → l < suc k → Below n (shown_at which (get_or (p ∷ ps) l nobody))
      before zero h = rw e small
      before (suc l) h = less l (omega arith)

  not-smaller : (c a b n : ℕ) → shown_at which p ≡ seen_at c a b → n ≤ c → ((l : ℕ) → AtMost n (shown_at which (get_or ps l nobody))) → Told which (p ∷ ps) (seen_at c a b)
  not-smaller c a b n e large most = first 0 c a b refl (omega arith) e all (λ l h. absurd (omega arith))
    where
      all : (l : ℕ) → AtMost c (shown_at which (get_or (p ∷ ps) l nobody))
      all zero = rw e (le_refl c)
      all (suc l) = at_most n c (shown_at which (get_or ps l nobody)) large (most l)

  one_more : (s m : Option Most) → shown_at which p ≡ s → Told which ps m → Told which (p ∷ ps) (larger s m)
  unfolding larger
  one_more None m e told = passed m e told
  one_more (Some s) m e (none is quiet) = rw is (alone s.count s.batch s.block e quiet)
  one_more (Some s) m e (first k n i j is inside here most less) = rw is (go (ltb s.count n) refl)
    where
      go : (t : Bool) → ltb s.count n ≡ t → Told which (p ∷ ps) (cond t (seen_at n i j) (Some s))
      go true f = smaller s.count s.batch s.block k n i j e (ltb-true s.count n f) inside here most less
      go false f = not-smaller s.count s.batch s.block n e (ltb-false s.count n f) most

told : (which : Counts → ℕ) (ps : List Place) → Told which ps (fold_one which ps)
unfolding fold_one
told which [] = none refl (none-shown which)
told which (p ∷ ps) = one_more which p ps (shown_at which p) (fold_one which ps) refl (told which ps)

-- ---- the three lines
one-calls : (i j : ℕ) (x : BlockAnswer) → (seen (hold i) (hold j) x).calls ≡ shown calls_of i j x
one-calls i j (Ok w) = refl
one-calls i j (Err r) = refl

one-searches : (i j : ℕ) (x : BlockAnswer) → (seen (hold i) (hold j) x).searches ≡ shown searches_of i j x
one-searches i j (Ok w) = refl
one-searches i j (Err r) = refl

one-steps : (i j : ℕ) (x : BlockAnswer) → (seen (hold i) (hold j) x).steps ≡ shown steps_of i j x
one-steps i j (Ok w) = refl
one-steps i j (Err r) = refl

fold-calls : (ps : List Place) → (fold_each ps).calls ≡ fold_one calls_of ps
unfolding fold_each fold_one
fold-calls [] = refl
fold-calls (p ∷ ps) = rw (one-calls p.batch p.block p.answer, fold-calls ps)

fold-searches : (ps : List Place) → (fold_each ps).searches ≡ fold_one searches_of ps
unfolding fold_each fold_one
fold-searches [] = refl
fold-searches (p ∷ ps) = rw (one-searches p.batch p.block p.answer, fold-searches ps)

fold-steps : (ps : List Place) → (fold_each ps).steps ≡ fold_one steps_of ps
unfolding fold_each fold_one
fold-steps [] = refl
fold-steps (p ∷ ps) = rw (one-steps p.batch p.block p.answer, fold-steps ps)

pub firsts : (bs : List (List BlockAnswer)) → Firsts bs (report bs).largest
unfolding report
firsts bs =
    let ps = in_batches 0 bs in
    rw (← fold-batches 0 bs) (record {
      calls = rw (fold-calls ps) (told calls_of ps);
      searches = rw (fold-searches ps) (told searches_of ps);
      steps = rw (fold-steps ps) (told steps_of ps);
    })
