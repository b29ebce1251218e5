-- What is printed and written of a file tells every byte once, in order, and nothing else does so. Assumes nothing.
use mathlib.Core.Path.{◌≡◌, refl, sym, ap, ◌∙◌, subst}
use mathlib.Core.Bool.{Bool, true, false, true≢false}
use mathlib.Core.List.{List, [], ◌∷◌, ◌++◌, append_assoc, append-nil}
use Prim.Native.Nat.{ℕ, zero, suc, ◌+◌, ◌*◌, ◌≤◌, ◌<◌}
use native.Mathlib.Omega.{arith}
use borrow.Author.Tests.{eqb-true, eqb-false, ltb-true, ltb-false}
use lib.Dec.{eqb, ltb}
use lib.ListN.{length, take, drop, length-drop}
use lib.Seq.{drop-drop, length-take-le}
use Rattle.text.specs.Put.{number}
use Rattle.model.specs.Blocks.{passes}
use Rattle.model.specs.Parts.{together}
use Rattle.model.proofs.Blocks.{whole-if-passes}
use Rattle.salvage_walk.specs.declared.Walk.{Walk}
use Rattle.salvage_walk.specs.Walk.{Step, bytes_of, step_at, steps, kept_bytes, next, after, run_line, run_lines, total_text, total_line, at_start}
use Rattle.salvage_walk.specs.Walk.Step.{kept, skipped}
use Rattle.salvage_walk.specs.Told.{Run, there, Told, sizes, printed, Salvage}
use Rattle.salvage_walk.specs.Told.Told.{end, block, run}
use Rattle.salvage_walk.proofs.Steps.{Kind, keeps, skips, kind, whole-inside, none_left, first_step}
use Rattle.salvage_walk.proofs.Laws.{no_run, a-run}

one_size : (n m : ℕ) → (n < m → ⊥) → (m < n → ⊥) → n ≡ m
one_size n m f g = omega (arith, f, g)

-- ---- no second way
module _ (b : List ℕ) where
  beyond : (p : ℕ) → length b ≤ p → passes (there b p) ≡ true → ⊥
  beyond p h e = omega (arith, whole-inside (drop p b) e, length-drop p b, h)

  -- a run that is followed by no other has one length
  no_longer : {p n m : ℕ} {rs : List Run} {ks : List (List ℕ)} → Told b false (p + n) rs ks → p + m ≤ length b
      → ((k : ℕ) → p ≤ k → k < p + m → passes (there b k) ≡ false) → n < m → ⊥
  no_longer {p} {n} {m} (end e) inside fails h = omega (arith, e, inside, h)
  no_longer {p} {n} {m} (block e t) inside fails h = true≢false (sym e ∙ fails (p + n) (omega arith) (omega (arith, h)))

  pub only_one : {free : Bool} {p : ℕ} {rs rs' : List Run} {ks ks' : List (List ℕ)} → Told b free p rs ks → Told b free p rs' ks' → (rs ≡ rs') × (ks ≡ ks')
  only_one (end e) (end f) = (refl, refl)
  only_one {p = p} (end e) (block f t) = absurd (beyond p (omega (arith, e)) f)
  only_one (end e) (run some inside fails t) = absurd (omega (arith, e, some, inside))
  only_one {p = p} (block e t) (end f) = absurd (beyond p (omega (arith, f)) e)
  only_one {p = p} (block e t) (block f u) =
      let same = only_one t u in
      (same.0, ap (λ (l : List (List ℕ)). there b p ∷ l) same.1)
  only_one {p = p} (block e t) (run some inside fails u) = absurd (true≢false (sym e ∙ fails p (omega arith) (omega (arith, some))))
  only_one (run some inside fails t) (end f) = absurd (omega (arith, f, some, inside))
  only_one {p = p} (run some inside fails t) (block f u) = absurd (true≢false (sym f ∙ fails p (omega arith) (omega (arith, some))))
  only_one {p = p} (run {n = n} {rs = rs} some inside fails t) (run {n = m} {rs = rs'} {ks = ks'} more within misses u) =
      let same : n ≡ m = one_size n m (no_longer t within misses) (no_longer u inside fails) in
      let rest = only_one t (subst (λ (k : ℕ). Told b false (p + k) rs' ks') (sym same) u) in (
        ap (λ (k : ℕ). record { place = p; size = k } ∷ rs) same ∙ ap (λ (l : List Run). record { place = p; size = m } ∷ l) rest.0,
        rest.1,
      )

-- ---- the walk is such a way
module _ (b : List ℕ) where
  -- at place p, in a run that started at q
  record Open (p q : ℕ) (w : Walk) : Type 0 where
    pub start : 512 * w.kept + w.skipped ≡ q
    pub here : p ≡ q + w.run
    pub inside : p ≤ length b
    pub fails : (k : ℕ) → q ≤ k → k < p → passes (there b k) ≡ false

  -- that run put before what is told behind it
  record Closed (q : ℕ) (w : Walk) (rs : List Run) (ks : List (List ℕ)) : Type 0 where
    pub runs : List Run
    pub told : Told b true q runs ks
    pub text : run_line w ++ printed rs ≡ printed runs
    pub size : w.run + sizes rs ≡ sizes runs

  module _ (p q : ℕ) (w : Walk) (o : Open p q w) (rs : List Run) (ks : List (List ℕ)) (behind-it : (free : Bool) → Told b free p rs ks) where
    nothing-open : w.run ≡ 0 → Closed q w rs ks
    nothing-open e = record {
      runs = rs;
      told = subst (λ (k : ℕ). Told b true k rs ks) (let same : p ≡ q = omega (arith, o.here, e) in same) (behind-it true);
      text = ap (λ (l : List ℕ). l ++ printed rs) (sym (no_run w e));
      size = omega (arith, e);
    }

    run-open : (w.run ≡ 0 → ⊥) → Closed q w rs ks
    unfolding sizes printed
    run-open some = record {
      runs = record { place = q; size = w.run } ∷ rs;
      told = run {p = q} {n = w.run} (omega (arith, some)) (omega (arith, o.here, o.inside)) (λ k l m. o.fails k l (omega (arith, m, o.here)))
          (subst (λ (k : ℕ). Told b false k rs ks) o.here (behind-it false));
      text = ap (λ (l : List ℕ). l ++ printed rs) (sym (a-run w some))
          ∙ append_assoc (number (512 * w.kept + w.skipped) 32) (number w.run 10) (printed rs)
          ∙ ap (λ (k : ℕ). number k 32 ++ (number w.run 10 ++ printed rs)) o.start;
      size = refl;
    }

    closed : Closed q w rs ks
    closed = go (eqb w.run 0) refl
      where
        go : (t : Bool) → eqb w.run 0 ≡ t → Closed q w rs ks
        go true e = nothing-open (eqb-true w.run 0 e)
        go false e = run-open (eqb-false w.run 0 e)

  -- from the start of the present run on
  record From (q : ℕ) (w : Walk) (s : List Step) : Type 0 where
    pub runs : List Run
    pub blocks : List (List ℕ)
    pub told : Told b true q runs blocks
    pub text : run_lines w s ++ run_line (after w s) ≡ printed runs
    pub file : kept_bytes s ≡ together blocks
    pub kept : (after w s).kept ≡ w.kept + length blocks
    pub skipped : (after w s).skipped + (after w s).run ≡ w.skipped + sizes runs

  at-end : (p q : ℕ) (w : Walk) → Open p q w → length b ≤ p → From q w []
  unfolding run_lines after kept_bytes together printed sizes
  at-end p q w o h =
      let c = closed p q w o [] [] (λ free. end (let e : p ≡ length b = omega (arith, h, o.inside) in e)) in
      record {
        runs = c.runs;
        blocks = [];
        told = c.told;
        text = sym (append-nil (run_line w)) ∙ c.text;
        file = refl;
        kept = omega arith;
        skipped = omega (arith, c.size);
      }

  module _ (p q : ℕ) (w : Walk) (o : Open p q w) where
    abbrev block_on : Walk
    block_on = next w (kept [])

    abbrev byte-on : Walk
    byte-on = next w (skipped [])

    block-open : passes (there b p) ≡ true → Open (p + 512) (p + 512) block_on
    block-open e = record {
      start = omega (arith, o.start, o.here);
      here = omega arith;
      inside = omega (arith, o.inside, whole-inside (drop p b) e, length-drop p b);
      fails = λ k l m. absurd (omega (arith, l, m));
    }

    block-told : passes (there b p) ≡ true → (s : List Step) → From (p + 512) block_on s → From q w (kept (there b p) ∷ s)
    unfolding run_lines after kept_bytes together
    block-told e s later =
        let c = closed p q w o later.runs (there b p ∷ later.blocks) (λ free. block e later.told) in
        record {
          runs = c.runs;
          blocks = there b p ∷ later.blocks;
          told = c.told;
          text = append_assoc (run_line w) (run_lines block_on s) (run_line (after block_on s)) ∙ ap (λ (l : List ℕ). run_line w ++ l) later.text ∙ c.text;
          file = ap (λ (l : List ℕ). there b p ++ l) later.file;
          kept = omega (arith, later.kept);
          skipped = omega (arith, later.skipped, c.size);
        }

    byte-open : passes (there b p) ≡ false → p < length b → Open (p + 1) q byte-on
    byte-open e h = record {
      start = o.start;
      here = omega (arith, o.here);
      inside = omega (arith, h);
      fails = λ k l m. go k l m (ltb k p) refl;
    }
      where
        go : (k : ℕ) → q ≤ k → k < p + 1 → (t : Bool) → ltb k p ≡ t → passes (there b k) ≡ false
        go k l m true f = o.fails k l (ltb-true k p f)
        go k l m false f =
            let same : k ≡ p = omega (arith, m, ltb-false k p f) in
            ap (λ (n : ℕ). passes (there b n)) same ∙ e

    byte-told : (x : List ℕ) (s : List Step) → From q byte-on s → From q w (skipped x ∷ s)
    unfolding run_lines after kept_bytes
    byte-told x s later = record {
      runs = later.runs;
      blocks = later.blocks;
      told = later.told;
      text = later.text;
      file = later.file;
      kept = later.kept;
      skipped = later.skipped;
    }

  -- a step, and what is told behind it
  module _ (n p q : ℕ) (w : Walk) (o : Open p q w) (h : p < length b) (few : length b ≤ p + suc n)
      (later : (p' q' : ℕ) (w' : Walk) → Open p' q' w' → length b ≤ p' + n → From q' w' (steps (drop p' b))) where
    on : (s : Step) → Kind (drop p b) s → From q w (s ∷ steps (drop (length (bytes_of s)) (drop p b)))
    on s (keeps e) =
        let size = whole-if-passes (there b p) e in
        let place : drop (length (there b p)) (drop p b) ≡ drop (p + 512) b = ap (λ (k : ℕ). drop k (drop p b)) size ∙ drop-drop 512 p b in
        subst (λ (l : List ℕ). From q w (kept (there b p) ∷ steps l)) (sym place)
        (block-told p q w o e (steps (drop (p + 512) b)) (later (p + 512) (p + 512) (next w (kept [])) (block-open p q w o e) (omega (arith, few))))
    on s (skips e) =
        let size = length-take-le 1 (drop p b) (omega (arith, h, length-drop p b)) in
        let place : drop (length (take 1 (drop p b))) (drop p b) ≡ drop (p + 1) b = ap (λ (k : ℕ). drop k (drop p b)) size ∙ drop-drop 1 p b in
        subst (λ (l : List ℕ). From q w (skipped (take 1 (drop p b)) ∷ steps l)) (sym place)
        (byte-told p q w o (take 1 (drop p b)) (steps (drop (p + 1) b)) (later (p + 1) q (next w (skipped [])) (byte-open p q w o e h) (omega (arith, few))))

    stepped : From q w (steps (drop p b))
    stepped =
        subst (λ (l : List Step). From q w l) (sym (first_step 1 (omega arith) (drop p b) (omega (arith, h, length-drop p b))))
        (on (step_at (drop p b)) (kind (drop p b)))

  ended : (p q : ℕ) (w : Walk) → Open p q w → length b ≤ p → From q w (steps (drop p b))
  ended p q w o h =
      subst (λ (l : List Step). From q w l)
      (sym (none_left 1 (omega arith) (length (drop p b)) (drop p b) (omega (arith, h, length-drop p b)))) (at-end p q w o h)

  from : (n p q : ℕ) (w : Walk) → Open p q w → length b ≤ p + n → From q w (steps (drop p b))
  from zero p q w o h = ended p q w o (omega (arith, h))
  from (suc n) p q w o h = go (λ m. stepped n p q w o m h (λ p' q' w' o' h'. from n p' q' w' o' h')) (ltb p (length b)) refl
    where
      go : (p < length b → From q w (steps (drop p b))) → (t : Bool) → ltb p (length b) ≡ t → From q w (steps (drop p b))
      go step true e = step (ltb-true p (length b) e)
      go step false e = ended p q w o (ltb-false p (length b) e)

  counts : {free : Bool} {p : ℕ} {rs : List Run} {ks : List (List ℕ)} → Told b free p rs ks → p + (512 * length ks + sizes rs) ≡ length b
  unfolding sizes
  counts (end e) = omega (arith, e)
  counts (block e t) = omega (arith, counts t)
  counts (run some inside fails t) = omega (arith, counts t)

  pub salvaged : Salvage b
  unfolding total_line
  salvaged =
      let o : Open 0 0 at_start = record { start = refl; here = refl; inside = omega arith; fails = λ k l m. absurd (omega (arith, m)) } in
      let f = from (length b) 0 0 at_start o (omega arith) in
      let s = steps b in
      let z = after at_start s in
      let kept : z.kept ≡ length f.blocks = omega (arith, f.kept) in
      let skipped : z.skipped + z.run ≡ sizes f.runs = omega (arith, f.skipped) in
      record {
        runs = f.runs;
        blocks = f.blocks;
        told = f.told;
        text = sym (append_assoc (run_lines at_start s) (run_line z) (total_line z)) ∙ ap (λ (l : List ℕ). l ++ total_line z) f.text
            ∙ ap (λ (k : ℕ). printed f.runs ++ (total_text ++ (number k 32 ++ number (z.skipped + z.run) 10))) kept
            ∙ ap (λ (k : ℕ). printed f.runs ++ (total_text ++ (number (length f.blocks) 32 ++ number k 10))) skipped;
        file = f.file;
        counts = omega (arith, counts f.told);
      }
