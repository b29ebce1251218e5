-- Every route that is written is read as one: no line of it is told by 14. Assumes nothing.
use mathlib.Core.Path.{◌≡◌, refl, ◌∙◌}
use mathlib.Core.Bool.{Bool, true, false, cond}
use mathlib.Core.List.{List, [], ◌∷◌, ◌++◌}
use Prim.Native.Nat.{ℕ, zero, suc, ◌+◌, ◌-◌, ◌*◌, ◌/◌, ◌%◌, ◌^◌, ◌≤◌, ◌<◌}
use native.Mathlib.Omega.{arith}
use borrow.Author.Tests.{lt-ltb, le-ltb, ne_eqb, ltb-true, ltb-false}
use lib.Dec.{ltb}
use lib.Ieee.{Float}
use Rattle.model.specs.Text.{capital, hex_by}
use Rattle.text.specs.Read.{hex_digit}
use Rattle.text.proofs.ReadBack.{capital-value}
use Rattle.route_line.specs.declared.Kind.{Kind}
use Rattle.route_line.specs.declared.Kind.TheVariants.{Nothing, Slop, Cart, At, Still}
use Rattle.route_line.specs.declared.Line.{Line}
use Rattle.route_line.specs.Line.{line, between, word_end, name, takes_word, one_more, named, in_name, after_word, in_word, line_after}
use Rattle.route_read.specs.Read.{Run, run, no_text, byte_more, reader_after, run_over}
use Rattle.route_line.specs.Line.{is_route}
use Rattle.route_line.specs.Text.{words_text, line_text, Way, way_words, ways_text, stills_text, route_text}

-- ---- the line alone
unfoldable over : Line → List ℕ → Line
over l [] = l
over l (x ∷ xs) = over (line_after l x) xs

over-then : (l : Line) (xs ys : List ℕ) → over l (xs ++ ys) ≡ over (over l xs) ys
unfolding over
over-then l [] ys = refl
over-then l (x ∷ xs) ys = over-then (line_after l x) xs ys

over-one : (l : Line) (x : ℕ) → over l (x ∷ []) ≡ line_after l x
unfolding over
over-one l x = refl

-- what is kept does not matter to it
line_of_run : (s : Run) (text : List ℕ) → (run_over s text).reader.line ≡ over s.reader.line text
unfolding run_over over reader_after
line_of_run s [] = refl
line_of_run s (x ∷ xs) = line_of_run (byte_more s x) xs

-- ---- a word
module _ (kind : Kind) (n : ℕ) where
  -- one digit more, and the last
  digit-more : (p w : ℕ) → 6 ≤ p → p < 13 → w < 4294967296 → line_after (line kind p (w / 16) n) (capital (w % 16)) ≡ line kind (p + 1) w n
  unfolding line_after in_word
  digit-more p w low high fits =
      let past : 5 ≤ p = omega arith in
      let not-5 : p ≡ 5 → ⊥ = λ e. omega (arith, e) in
      let not-13 : p ≡ 13 → ⊥ = λ e. omega (arith, e) in
      let small : w % 16 < 16 = omega arith in
      let not_16 : w % 16 ≡ 16 → ⊥ = λ e. omega (arith, e) in
      let value : (w / 16 * 16 + w % 16 % 16) % 4294967296 ≡ w = omega arith in
      rw (
        le-ltb p 5 past,
        ne_eqb p 5 not-5,
        capital-value (w % 16) small,
        ne_eqb (w % 16) 16 not_16,
        lt-ltb p 13 high,
        ne_eqb p 13 not-13,
        value,
      )

  last-digit : (w : ℕ) → w < 4294967296 → line_after (line kind 13 (w / 16) n) (capital (w % 16)) ≡ line kind word_end w (one_more n)
  unfolding line_after in_word
  last-digit w fits =
      let small : w % 16 < 16 = omega arith in
      let not_16 : w % 16 ≡ 16 → ⊥ = λ e. omega (arith, e) in
      let value : (w / 16 * 16 + w % 16 % 16) % 4294967296 ≡ w = omega arith in
      rw (capital-value (w % 16) small, ne_eqb (w % 16) 16 not_16, value)

  digits-read : (k w : ℕ) → k ≤ 7 → w < 16 ^ k → w < 4294967296 → over (line kind 6 0 n) (hex_by k w) ≡ line kind (6 + k) w n
  unfolding hex_by over
  digits-read zero w few below fits = let none : w ≡ 0 = omega (arith, below) in rw none
  digits-read (suc k) w few below fits =
      let less : w / 16 < 16 ^ k = omega (arith, below) in
      let p : 6 + suc k ≡ 6 + k + 1 = omega arith in
      over-then (line kind 6 0 n) (hex_by k (w / 16)) (capital (w % 16) ∷ [])
      ∙ rw (digits-read k (w / 16) (omega arith) less (omega arith), over-one (line kind (6 + k) (w / 16) n) (capital (w % 16)), p)
      (digit-more (6 + k) w (omega arith) (omega arith) fits)

  word_read : (v w : ℕ) → takes_word kind n ≡ true → w < 4294967296 → over (line kind word_end v n) (32 ∷ hex_by 8 w) ≡ line kind word_end w (one_more n)
  unfolding over line_after after_word hex_by
  word_read v w takes fits = rw takes go
    where
      less : w / 16 < 16 ^ 7
      less = omega (arith, fits)

      go : over (line kind 6 0 n) (hex_by 8 w) ≡ line kind word_end w (one_more n)
      go =
          over-then (line kind 6 0 n) (hex_by 7 (w / 16)) (capital (w % 16) ∷ [])
          ∙ rw (digits-read 7 (w / 16) (omega arith) less (omega arith), over-one (line kind 13 (w / 16) n) (capital (w % 16))) (last-digit w fits)

-- ---- where a line stands
data AfterWord (kind : Kind) : Line → Type 0 where
  after : (v n : ℕ) → AfterWord kind (line kind word_end v n)

data Between (kind : Kind) : Line → Type 0 where
  ends : (n : ℕ) → Between kind (line kind between 0 n)

-- which kind follows which
data Follows : Kind → Kind → Type 0 where
  slop-first : Follows Nothing Slop
  then-cart : Follows Slop Cart
  first_way : Follows Cart At
  next_way : Follows At At
  still-behind-cart : Follows Cart Still
  still-behind-way : Follows At Still
  next-still : Follows Still Still

name-read : (last kind : Kind) → Follows last kind → (n : ℕ) → over (line last between 0 n) (name kind) ≡ line kind word_end 0 0
unfolding over line_after in_name named
name-read _ _ slop-first n = refl
name-read _ _ then-cart n = refl
name-read _ _ first_way n = refl
name-read _ _ next_way n = refl
name-read _ _ still-behind-cart n = refl
name-read _ _ still-behind-way n = refl
name-read _ _ next-still n = refl

-- each word fits
unfoldable pub Fit : List ℕ → Type 0
Fit [] = Unit {0}
Fit (w ∷ ws) = (w < 4294967296) × Fit ws

-- ---- the two kinds of line that take any number of words
data Open : Kind → Type 0 where
  cart-open : Open Cart
  still_open : Open Still

takes : {kind : Kind} → Open kind → (n : ℕ) → takes_word kind n ≡ true
takes cart-open n = refl
takes still_open n = refl

words-read : (kind : Kind) → Open kind → (ws : List ℕ) → Fit ws → (v n : ℕ) → AfterWord kind (over (line kind word_end v n) (words_text ws))
unfolding words_text over Fit
words-read kind o [] fit v n = after v n
words-read kind o (w ∷ ws) fit v n =
    rw (over-then (line kind word_end v n) (32 ∷ hex_by 8 w) (words_text ws), word_read kind n v w (takes o n) fit.0)
    (words-read kind o ws fit.1 w (one_more n))

end_read : {kind : Kind} (l : Line) → Open kind → AfterWord kind l → Between kind (over l (10 ∷ []))
unfolding over line_after after_word
end_read _ cart-open (after v n) = ends n
end_read _ still_open (after v n) = ends n

open-line : (last kind : Kind) (l : Line) → Open kind → Follows last kind → (ws : List ℕ) → Fit ws → Between last l → Between kind (over l (line_text kind ws))
open-line last kind _ o f ws fit (ends n) =
    let start = line last between 0 n in
    rw (over-then start (name kind ++ words_text ws) (10 ∷ []), over-then start (name kind) (words_text ws), name-read last kind f n)
    (end_read _ o (words-read kind o ws fit 0 0))

-- ---- SLOP and its word, AT and its four
slop-line : (w : ℕ) → w < 4294967296 → Between Slop (over (line Nothing between 0 0) (line_text Slop (w ∷ [])))
unfolding words_text over line_after after_word
slop-line w fits =
    let start = line Nothing between 0 0 in
    let digits : List ℕ = 32 ∷ hex_by 8 w in
    rw (
      over-then start (name Slop ++ (digits ++ [])) (10 ∷ []),
      over-then start (name Slop) (digits ++ []),
      name-read Nothing Slop slop-first 0,
      over-then (line Slop word_end 0 0) digits [],
      word_read Slop 0 0 w refl fits,
    )
    (ends 1)

four-read : (w : Way) → Fit (way_words w) → over (line At word_end 0 0) (words_text (way_words w)) ≡ line At word_end w.s 4
unfolding words_text over Fit
four-read w fit =
    let one : List ℕ = 32 ∷ hex_by 8 w.s in
    let two : List ℕ = (32 ∷ hex_by 8 w.c) ++ (one ++ []) in
    let three : List ℕ = (32 ∷ hex_by 8 w.y) ++ two in
    over-then (line At word_end 0 0) (32 ∷ hex_by 8 w.x) three
    ∙ rw (word_read At 0 0 w.x refl fit.0)
    (over-then (line At word_end w.x 1) (32 ∷ hex_by 8 w.y) two
    ∙ rw (word_read At 1 w.x w.y refl fit.1.0)
    (over-then (line At word_end w.y 2) (32 ∷ hex_by 8 w.c) (one ++ [])
    ∙ rw (word_read At 2 w.y w.c refl fit.1.1.0)
    (over-then (line At word_end w.c 3) one [] ∙ rw (word_read At 3 w.c w.s refl fit.1.1.1.0))))

way-line : (last : Kind) (l : Line) → Follows last At → (w : Way) → Fit (way_words w) → Between last l → Between At (over l (line_text At (way_words w)))
unfolding over line_after after_word
way-line last _ f w fit (ends n) =
    let start = line last between 0 n in
    let words = words_text (way_words w) in
    rw (over-then start (name At ++ words) (10 ∷ []), over-then start (name At) words, name-read last At f n, four-read w fit)
    (ends 4)

-- ---- the text
unfoldable pub FitWays : List Way → Type 0
FitWays [] = Unit {0}
FitWays (w ∷ ws) = Fit (way_words w) × FitWays ws

unfoldable pub FitStills : List (List ℕ) → Type 0
FitStills [] = Unit {0}
FitStills (s ∷ ss) = Fit s × FitStills ss

data Ready : Line → Type 0 where
  behind-cart : {l : Line} → Between Cart l → Ready l
  behind-way : {l : Line} → Between At l → Ready l

data Done : Line → Type 0 where
  no-still : {l : Line} → Ready l → Done l
  behind-still : {l : Line} → Between Still l → Done l

ways-read : (l : Line) → Ready l → (ws : List Way) → FitWays ws → Ready (over l (ways_text ws))
unfolding ways_text over FitWays
ways-read l r [] fit = r
ways-read l (behind-cart b) (w ∷ ws) fit =
    rw (over-then l (line_text At (way_words w)) (ways_text ws)) (ways-read (over l (line_text At (way_words w))) (behind-way (way-line Cart l first_way w fit.0 b)) ws fit.1)
ways-read l (behind-way b) (w ∷ ws) fit =
    rw (over-then l (line_text At (way_words w)) (ways_text ws)) (ways-read (over l (line_text At (way_words w))) (behind-way (way-line At l next_way w fit.0 b)) ws fit.1)

still-line : (l : Line) → Done l → (s : List ℕ) → Fit s → Between Still (over l (line_text Still s))
still-line l (no-still (behind-cart b)) s fit = open-line Cart Still l still_open still-behind-cart s fit b
still-line l (no-still (behind-way b)) s fit = open-line At Still l still_open still-behind-way s fit b
still-line l (behind-still b) s fit = open-line Still Still l still_open next-still s fit b

stills-read : (l : Line) → Done l → (ss : List (List ℕ)) → FitStills ss → Done (over l (stills_text ss))
unfolding stills_text over FitStills
stills-read l d [] fit = d
stills-read l d (s ∷ ss) fit =
    rw (over-then l (line_text Still s) (stills_text ss)) (stills-read (over l (line_text Still s)) (behind-still (still-line l d s fit.0)) ss fit.1)

done-is-route : (l : Line) → Done l → is_route l ≡ true
done-is-route _ (no-still (behind-cart (ends n))) = refl
done-is-route _ (no-still (behind-way (ends n))) = refl
done-is-route _ (behind-still (ends n)) = refl

module _ (slop : ℕ) (cart : List ℕ) (ways : List Way) (stills : List (List ℕ)) (fits : slop < 4294967296) (fit-cart : Fit cart) (fit-ways : FitWays ways)
    (fit-stills : FitStills stills) where
  text-read : Done (over (line Nothing between 0 0) (route_text slop cart ways stills))
  text-read =
      let l = line Nothing between 0 0 in
      let a = line_text Slop (slop ∷ []) in
      let b = line_text Cart cart in
      let at-cart = open-line Slop Cart _ cart-open then-cart cart fit-cart (slop-line slop fits) in
      rw (over-then l (a ++ b ++ ways_text ways) (stills_text stills), over-then l (a ++ b) (ways_text ways), over-then l a b)
      (stills-read _ (no-still (ways-read _ (behind-cart at-cart) ways fit-ways)) stills fit-stills)

  -- whatever lists are lent for what is kept
  pub written-is-read : (floats : List Float) (lengths : List ℕ) →
      is_route (run_over (run no_text floats lengths) (route_text slop cart ways stills)).reader.line ≡ true
  written-is-read floats lengths = rw (line_of_run (run no_text floats lengths) (route_text slop cart ways stills)) (done-is-route _ text-read)
