-- Lent lists of 4,390 numbers and 33 lengths suffice: what is kept of any route's text has the answer of that route. Assumes nothing.
use mathlib.Core.Path.{◌≡◌, refl, sym, ap, ◌∙◌}
use mathlib.Core.Bool.{Bool, true, false}
use mathlib.Core.List.{List, [], ◌∷◌, ◌++◌, map, append_assoc}
use mathlib.Core.Logic.{◌⊎◌, inl, inr}
use Prim.Native.Nat.{ℕ, zero, suc, ◌+◌, ◌-◌, ◌*◌, ◌/◌, ◌%◌, ◌^◌, ◌≤◌, ◌<◌}
use native.Mathlib.Omega.{arith}
use borrow.Author.Tests.{le-ltb, ltb-true, ltb-false}
use lib.Dec.{ltb}
use lib.Ieee.{Float, binary32, of_bits}
use lib.ListN.{length, take, drop, length-append, length-drop, length-map}
use lib.Seq.{take_all, take_at, drop_at, length-take-le}
use Rattle.model.specs.Support.{point}
use Rattle.route_legs.specs.Route.{route}
use Rattle.route_line.specs.declared.Kind.TheVariants.{Cart, At, Still}
use Rattle.route_line.specs.declared.Line.{Line}
use Rattle.route_line.specs.Line.{line, between}
use Rattle.route_line.specs.Text.{Way, route_text}
use Rattle.route_read.specs.Read.{kept, no_text, Run, run, run_over}
use Rattle.std.proofs.Math.Nat.{min-eq_left, min-eq_right}
use Rattle.route_text.specs.Answer.{longest_line, cut, whole_end, route_of, answer_line, answer_of, answer_text, answer_by}
use Rattle.route_text.proofs.Run.{run-answers-whole}
use Rattle.runs.specs.Run.{Cut}
use Rattle.model.specs.Parts.{together}
use Rattle.route_grammar.specs.Grammar.{numbers, way_numbers, joined, sizes, route_for, Fit, FitWays, FitStills, enough_numbers, enough_lengths}
use Rattle.route_grammar.specs.Grammar.{ShortLines, Within, Handed}
use Rattle.route_grammar.proofs.Kept.{filled, stored, holding, firsts_of, behind-cart, behind-way, Done, no-still, behind-still}
use Rattle.route_grammar.proofs.Kept.{holds, text-run}
use Rattle.route_grammar.proofs.Cut.{as-many-sizes, route-cut, wrong-16, wrong-17}

-- ---- lists with as many as there are places for
module _ {A : Type 0} where
  length-filled : (ks d : List A) → length (filled ks d) ≡ length d
  unfolding filled
  length-filled [] d = refl
  length-filled (k ∷ ks) [] = refl
  length-filled (k ∷ ks) (x ∷ d) = ap suc (length-filled ks d)

  filled-fits : (ks d : List A) → length ks ≤ length d → filled ks d ≡ ks ++ drop (length ks) d
  unfolding filled
  filled-fits [] d fits = refl
  filled-fits (k ∷ ks) [] fits = absurd (omega (arith, fits))
  filled-fits (k ∷ ks) (x ∷ d) fits = ap (λ (l : List A). k ∷ l) (filled-fits ks d (omega (arith, fits)))

  stored-fits : (ks d : List A) → length ks ≤ length d → stored ks d ≡ length ks
  unfolding stored
  stored-fits [] d fits = refl
  stored-fits (k ∷ ks) [] fits = absurd (omega (arith, fits))
  stored-fits (k ∷ ks) (x ∷ d) fits = ap suc (stored-fits ks d (omega (arith, fits)))

  stored-full : (ks d : List A) → length d ≤ length ks → stored ks d ≡ length d
  unfolding stored
  stored-full [] [] full = refl
  stored-full [] (x ∷ d) full = absurd (omega (arith, full))
  stored-full (k ∷ ks) [] full = refl
  stored-full (k ∷ ks) (x ∷ d) full = ap suc (stored-full ks d (omega (arith, full)))

  stored-most : (ks d : List A) → stored ks d ≤ length d
  unfolding stored
  stored-most [] d = omega arith
  stored-most (k ∷ ks) [] = omega arith
  stored-most (k ∷ ks) (x ∷ d) = omega (arith, stored-most ks d)

  stored_short : (ks d : List A) → stored ks d ≤ length ks
  unfolding stored
  stored_short [] d = omega arith
  stored_short (k ∷ ks) [] = omega arith
  stored_short (k ∷ ks) (x ∷ d) = omega (arith, stored_short ks d)

  stored_grows : (ks ls d : List A) → stored ks d ≤ stored (ks ++ ls) d
  unfolding stored
  stored_grows [] ls d = omega arith
  stored_grows (k ∷ ks) ls [] = omega arith
  stored_grows (k ∷ ks) ls (x ∷ d) = omega (arith, stored_grows ks ls d)

  -- as many as there are, or all places
  stored-least : (ks d : List A) (n : ℕ) → n ≤ length ks → n ≤ length d → n ≤ stored ks d
  stored-least ks d n many room = go (ltb (length d) (length ks)) refl
    where
      go : (t : Bool) → ltb (length d) (length ks) ≡ t → n ≤ stored ks d
      go true e = rw (stored-full ks d (omega (arith, ltb-true (length d) (length ks) e))) room
      go false e = rw (stored-fits ks d (ltb-false (length d) (length ks) e)) many

  take-most : (n : ℕ) (l : List A) → length (take n l) ≤ n
  take-most zero l = omega arith
  take-most (suc n) [] = omega arith
  take-most (suc n) (x ∷ l) = omega (arith, take-most n l)

-- ---- outlines with their first 129 numbers
firsts-cut : (ss : List (List ℕ)) → map firsts_of ss ≡ map (take 129) (map numbers ss)
firsts-cut [] = refl
firsts-cut (s ∷ ss) = ap (λ (l : List (List Float)). firsts_of s ∷ l) (firsts-cut ss)

short_cut : (ss : List (List ℕ)) → ShortLines ss → map firsts_of ss ≡ map numbers ss
unfolding ShortLines
short_cut [] h = refl
short_cut (s ∷ ss) h =
    ap (λ (l : List Float). l ∷ map firsts_of ss) (take_all 129 (numbers s) (rw (length-map s (of_bits binary32)) h.0))
    ∙ ap (λ (l : List (List Float)). numbers s ∷ l) (short_cut ss h.1)

-- ---- how many numbers there are
ways-numbers : (ways : List Way) → length (way_numbers ways) ≡ 4 * length ways
unfolding way_numbers
ways-numbers [] = refl
ways-numbers (w ∷ ways) = omega (arith, ways-numbers ways)

firsts-most : (ws : List ℕ) → length (firsts_of ws) ≤ 129
firsts-most ws = take-most 129 (numbers ws)

joined-most : (stills : List (List ℕ)) → length (joined (map firsts_of stills)) ≤ 129 * length stills
unfolding joined
joined-most [] = omega arith
joined-most (s ∷ stills) =
    rw (length-append (firsts_of s) (joined (map firsts_of stills))) (omega (arith, firsts-most s, joined-most stills))

sizes-many : (stills : List (List ℕ)) → length (sizes (map firsts_of stills)) ≡ length stills
sizes-many stills = as-many-sizes (map firsts_of stills) ∙ length-map stills firsts_of

pub numbers-suffice : (slop : Float) (cart : List ℕ) (ways : List Way) (stills : List (List ℕ)) → length ways ≤ 33 → length stills ≤ 32 →
    length (slop ∷ (firsts_of cart ++ way_numbers ways ++ joined (map firsts_of stills))) ≤ enough_numbers
numbers-suffice slop cart ways stills few-ways few-stills =
    let a = length-append (firsts_of cart ++ way_numbers ways) (joined (map firsts_of stills)) in
    let b = length-append (firsts_of cart) (way_numbers ways) in
    omega (arith, a, b, firsts-most cart, ways-numbers ways, joined-most stills)

-- ---- what a run hands on
route-of : (u c e o : ℕ) (fl : List Float) (le : List ℕ) → u ≤ length fl → e ≤ u → c ≤ e → 1 ≤ c → o ≤ length le →
    route_of (kept u c e o) fl le ≡ route binary32 (cut fl 1 c) (cut fl c (whole_end c e)) (cut fl e u) (take o le) (point fl 0).x
unfolding route_of
route-of u c e o fl le used ways cart some outlines =
    rw (min-eq_left used, min-eq_left ways, min-eq_left cart, min-eq_right some, min-eq_left outlines)

length_cut : (s : List Float) (a b : ℕ) → b ≤ length s → length (cut s a b) ≡ b - a
length_cut s a b inside = length-take-le (b - a) (drop a s) (rw (length-drop a s) (omega arith))

-- the pieces, one behind another
module _ (sl : Float) (ct wn st rest : List Float) where
  abbrev all : List Float
  all = sl ∷ ((ct ++ wn ++ st) ++ rest)

  behind-cart-is : (ct ++ wn ++ st) ++ rest ≡ ct ++ (wn ++ (st ++ rest))
  behind-cart-is = append_assoc (ct ++ wn) st rest ∙ append_assoc ct wn (st ++ rest)

  cart-piece : cut all 1 (suc (length ct)) ≡ ct
  cart-piece =
      let size : suc (length ct) - 1 ≡ length ct = omega arith in
      rw (size, behind-cart-is) (take_at ct (wn ++ (st ++ rest)) (length ct) refl)

  ways-piece : cut all (suc (length ct)) (suc (length ct) + length wn) ≡ wn
  ways-piece =
      let size : suc (length ct) + length wn - suc (length ct) ≡ length wn = omega arith in
      rw (size, behind-cart-is, drop_at ct (wn ++ (st ++ rest)) (length ct) refl) (take_at wn (st ++ rest) (length wn) refl)

  stills-piece : cut all (suc (length ct) + length wn) (suc (length ct) + length wn + length st) ≡ st
  stills-piece =
      let size : suc (length ct) + length wn + length st - (suc (length ct) + length wn) ≡ length st = omega arith in
      let place : suc (length ct) + length wn ≡ suc (length (ct ++ wn)) = rw (length-append ct wn) (omega arith) in
      rw (size, place, append_assoc (ct ++ wn) st rest, drop_at (ct ++ wn) (st ++ rest) (length (ct ++ wn)) refl)
      (take_at st rest (length st) refl)

whole-fours : (x : ℕ) → (x / 4 * 4 % 4 ≡ 0) × (x / 4 * 4 / 4 ≡ x / 4)
whole-fours x = (omega arith, omega arith)

-- ---- a text, read into lists of that length
module _ (d : List Float) (d' : List ℕ) (room : enough_numbers ≤ length d) (room' : enough_lengths ≤ length d') (slop : ℕ) (cart : List ℕ) (ways : List Way)
    (stills : List (List ℕ)) where
  abbrev sl : Float
  sl = of_bits binary32 slop

  abbrev ct : List Float
  ct = firsts_of cart

  abbrev wn : List Float
  wn = way_numbers ways

  abbrev st : List Float
  st = joined (map firsts_of stills)

  abbrev ks : List Float
  ks = sl ∷ (ct ++ wn ++ st)

  abbrev ns : List ℕ
  ns = sizes (map firsts_of stills)

  abbrev c : ℕ
  c = stored (sl ∷ ct) d

  abbrev e : ℕ
  e = stored (sl ∷ (ct ++ wn)) d

  abbrev u : ℕ
  u = stored ks d

  abbrev o : ℕ
  o = stored ns d'

  abbrev fl : List Float
  fl = filled ks d

  abbrev le : List ℕ
  le = filled ns d'

  c-is : c ≡ suc (length ct)
  c-is = stored-fits (sl ∷ ct) d (omega (arith, firsts-most cart))

  c-below-e : c ≤ e
  c-below-e = stored_grows (sl ∷ ct) wn d

  e-below-u : e ≤ u
  e-below-u = stored_grows (sl ∷ (ct ++ wn)) st d

  u-inside : u ≤ length fl
  u-inside = rw (length-filled ks d) (stored-most ks d)

  o-inside : o ≤ length le
  o-inside = rw (length-filled ns d') (stored-most ns d')

  kept-route : route_of (kept u c e o) fl le ≡ route binary32 (cut fl 1 c) (cut fl c (whole_end c e)) (cut fl e u) (take o le) (point fl 0).x
  kept-route = route-of u c e o fl le u-inside e-below-u c-below-e (rw c-is (omega arith)) o-inside

  way-length : length (cut fl c (whole_end c e)) ≡ (e - c) / 4 * 4
  way-length =
      let inside : whole_end c e ≤ length fl = omega (arith, c-below-e, e-below-u, u-inside) in
      length_cut fl c (whole_end c e) inside ∙ omega arith

  e-is : length ways ≤ 33 → e ≡ suc (length ct) + length wn
  e-is few =
      let size = length-append ct wn in
      stored-fits (sl ∷ (ct ++ wn)) d (omega (arith, size, firsts-most cart, ways-numbers ways)) ∙ omega (arith, size)

  -- as many waypoints as are written, or more than 33
  ways-kept : length ways ≤ 33 → (e - c) / 4 ≡ length ways
  ways-kept few = rw (e-is few, c-is) (omega (arith, ways-numbers ways))

  ways-many : 33 < length ways → 33 < (e - c) / 4
  ways-many many =
      let size = length-append ct wn in
      let least = stored-least (sl ∷ (ct ++ wn)) d (suc (length ct) + 136) (omega (arith, size, ways-numbers ways)) (omega (arith, firsts-most cart)) in
      omega (arith, least, c-is)

  written-ways : (length wn % 4 ≡ 0) × (length wn / 4 ≡ length ways)
  written-ways = rw (ways-numbers ways) (omega arith, omega arith)

  kept-ways : (length (cut fl c (whole_end c e)) % 4 ≡ 0) × (length (cut fl c (whole_end c e)) / 4 ≡ (e - c) / 4)
  kept-ways = rw way-length (whole-fours (e - c))

  lengths-kept : length (take o le) ≡ o
  lengths-kept = length-take-le o le o-inside

  -- ---- where a route is refused by the number of its waypoints or outlines
  both-16 : (length ways < 2) ⊎ (33 < length ways) → (((e - c) / 4 < 2) ⊎ (33 < (e - c) / 4)) → route_of (kept u c e o) fl le ≡ route_for slop cart ways stills
  both-16 written read =
      kept-route
      ∙ wrong-16 binary32 (cut fl 1 c) (cut fl c (whole_end c e)) (cut fl e u) (take o le) (point fl 0).x kept-ways.0 (rw kept-ways.1 read)
      ∙ sym (wrong-16 binary32 (numbers cart) wn (joined (map numbers stills)) (sizes (map numbers stills)) sl written-ways.0 (rw written-ways.1 written))

  written-many : length (sizes (map numbers stills)) ≡ length stills
  written-many = as-many-sizes (map numbers stills) ∙ length-map stills numbers

  both-17 : 2 ≤ length ways → length ways ≤ 33 → (length stills ≡ 0) ⊎ (32 < length stills) → (o ≡ 0) ⊎ (32 < o) →
      route_of (kept u c e o) fl le ≡ route_for slop cart ways stills
  both-17 least most written read =
      let same = ways-kept most in
      kept-route
      ∙ wrong-17 binary32 (cut fl 1 c) (cut fl c (whole_end c e)) (cut fl e u) (take o le) (point fl 0).x kept-ways.0
      (rw (kept-ways.1, same) least) (rw (kept-ways.1, same) most) (rw lengths-kept read)
      ∙ sym (wrong-17 binary32 (numbers cart) wn (joined (map numbers stills)) (sizes (map numbers stills)) sl written-ways.0
      (rw written-ways.1 least) (rw written-ways.1 most) (rw written-many written))

  -- ---- where all is kept
  module _ (few-ways : length ways ≤ 33) (few-stills : length stills ≤ 32) where
    all-fits : length ks ≤ length d
    all-fits = omega (arith, numbers-suffice sl cart ways stills few-ways few-stills)

    u-is : u ≡ suc (length ct) + length wn + length st
    u-is =
        let a = length-append (ct ++ wn) st in
        let b = length-append ct wn in
        stored-fits ks d all-fits ∙ omega (arith, a, b)

    o_is : o ≡ length ns
    o_is = stored-fits ns d' (omega (arith, sizes-many stills))

    fl-is : fl ≡ all sl ct wn st (drop (length ks) d)
    fl-is = filled-fits ks d all-fits

    slop-kept : (point fl 0).x ≡ sl
    slop-kept = rw fl-is

    cart-kept : cut fl 1 c ≡ ct
    cart-kept = rw (fl-is, c-is) (cart-piece sl ct wn st (drop (length ks) d))

    way-kept : cut fl c e ≡ wn
    way-kept = rw (fl-is, c-is, e-is few-ways) (ways-piece sl ct wn st (drop (length ks) d))

    whole-way : whole_end c e ≡ e
    whole-way = rw (c-is, e-is few-ways) (omega (arith, ways-numbers ways))

    stills-kept : cut fl e u ≡ st
    stills-kept = rw (fl-is, e-is few-ways, u-is) (stills-piece sl ct wn st (drop (length ks) d))

    sizes-kept : take o le ≡ ns
    sizes-kept = rw (o_is, filled-fits ns d' (omega (arith, sizes-many stills))) (take_at ns (drop (length ns) d') (length ns) refl)

    kept-is-cut : route_of (kept u c e o) fl le ≡ route binary32 ct wn st ns sl
    kept-is-cut = kept-route ∙ rw (whole-way, slop-kept, cart-kept, way-kept, stills-kept, sizes-kept)

  both-same : 2 ≤ length ways → length ways ≤ 33 → 1 ≤ length stills → length stills ≤ 32 → route_of (kept u c e o) fl le ≡ route_for slop cart ways stills
  both-same least most some few =
      let many : length (map numbers stills) ≡ length stills = length-map stills numbers in
      kept-is-cut most few
      ∙ ap (λ (ss : List (List Float)). route binary32 ct wn (joined ss) (sizes ss) sl) (firsts-cut stills)
      ∙ route-cut binary32 (numbers cart) wn (map numbers stills) sl written-ways.0 (rw written-ways.1 least) (rw written-ways.1 most)
      (rw many some) (rw many few)

  same_route : route_of (kept u c e o) fl le ≡ route_for slop cart ways stills
  same_route = by-ways (ltb 33 (length ways)) (ltb (length ways) 2) refl refl
    where
      by-stills : (s t : Bool) → ltb 32 (length stills) ≡ s → ltb 0 (length stills) ≡ t → 2 ≤ length ways → length ways ≤ 33
          → route_of (kept u c e o) fl le ≡ route_for slop cart ways stills
      by-stills true t p q least most =
          let many : 32 < length stills = ltb-true 32 (length stills) p in
          both-17 least most (inr many) (inr (stored-least ns d' 33 (omega (arith, sizes-many stills)) room'))
      by-stills false true p q least most = both-same least most (ltb-true 0 (length stills) q) (ltb-false 32 (length stills) p)
      by-stills false false p q least most =
          let none : length stills ≡ 0 = omega (arith, ltb-false 0 (length stills) q) in
          both-17 least most (inl none) (inl (omega (arith, stored_short ns d', sizes-many stills)))

      by-ways : (s t : Bool) → ltb 33 (length ways) ≡ s → ltb (length ways) 2 ≡ t → route_of (kept u c e o) fl le ≡ route_for slop cart ways stills
      by-ways true t p q = let many : 33 < length ways = ltb-true 33 (length ways) p in both-16 (inr many) (inr (ways-many many))
      by-ways false true p q =
          let few : length ways < 2 = ltb-true (length ways) 2 q in
          both-16 (inl few) (inl (rw (ways-kept (omega arith)) few))
      by-ways false false p q =
          by-stills (ltb 32 (length stills)) (ltb 0 (length stills)) refl refl (ltb-false (length ways) 2 q) (ltb-false 33 (length ways) p)

  done-answers : (s : Run) → Done d d' ks ns c e s → answer_of s.reader s.floats s.lengths ≡ answer_line (route_of (kept u c e o) fl le)
  done-answers _ (no-still (behind-cart (holds n m))) = refl
  done-answers _ (no-still (behind-way (holds n m))) = refl
  done-answers _ (behind-still (holds n m)) = refl

  -- the line that is printed for a route that is written is the answer of that route
  pub answer-of-text : slop < 2 ^ 32 → Fit cart → FitWays ways → FitStills stills →
      answer_text d d' (route_text slop cart ways stills) ≡ answer_line (route_for slop cart ways stills)
  answer-of-text fits fit-cart fit-ways fit-stills =
      done-answers _ (text-run d d' slop cart ways stills fits fit-cart fit-ways fit-stills) ∙ ap answer_line same_route

  -- part by part, as the program reads it
  pub run-answers-route : (size most : ℕ) → longest_line ≤ most → (ps : List (List ℕ)) → Cut (λ (s : Run). size) run_over (run no_text d d') ps →
      together ps ≡ route_text slop cart ways stills → slop < 2 ^ 32 → Fit cart → FitWays ways → FitStills stills →
      answer_by size most d d' ps ≡ answer_line (route_for slop cart ways stills)
  run-answers-route size most long ps parts e fits fit-cart fit-ways fit-stills =
      run-answers-whole size most long d d' ps parts ∙ ap (answer_text d d') e ∙ answer-of-text fits fit-cart fit-ways fit-stills

  -- ---- and what is handed on is what was written, where no line is too long and there are not too many
  held : (l : Line) (m : ℕ) → Within cart ways stills → Handed (holding d d' l ks ns c e m) slop cart ways stills
  held l m w = record {
    slop-is = slop-kept w.few-ways w.few-stills;
    cart-is = cart-kept w.few-ways w.few-stills ∙ take_all 129 (numbers cart) (rw (length-map cart (of_bits binary32)) w.cart-short);
    ways-are = way-kept w.few-ways w.few-stills;
    stills-are = stills-kept w.few-ways w.few-stills ∙ ap joined (short_cut stills w.stills-short);
    sizes-are = sizes-kept w.few-ways w.few-stills ∙ ap sizes (short_cut stills w.stills-short);
  }

  handed : (s : Run) → Within cart ways stills → Done d d' ks ns c e s → Handed s slop cart ways stills
  handed _ w (no-still (behind-cart (holds n m))) = held (line Cart between 0 n) m w
  handed _ w (no-still (behind-way (holds n m))) = held (line At between 0 n) m w
  handed _ w (behind-still (holds n m)) = held (line Still between 0 n) m w

  pub read-as-written : slop < 2 ^ 32 → Fit cart → FitWays ways → FitStills stills → Within cart ways stills →
      Handed (run_over (run no_text d d') (route_text slop cart ways stills)) slop cart ways stills
  read-as-written fits fit-cart fit-ways fit-stills within = handed _ within (text-run d d' slop cart ways stills fits fit-cart fit-ways fit-stills)
