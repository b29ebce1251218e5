-- A text that is not told by 14 is the text of some route: the reader's states, looked at from the end of the text backwards. Assumes nothing.
use mathlib.Core.Path.{◌≡◌, refl, sym, ap, ◌∙◌}
use mathlib.Core.Bool.{Bool, true, false, cond}
use mathlib.Core.List.{List, [], ◌∷◌, ◌++◌, append_assoc}
use mathlib.Core.Logic.{◌⊎◌, inl, inr}
use Prim.Native.Nat.{ℕ, zero, suc, ◌+◌, ◌-◌, ◌*◌, ◌%◌, ◌^◌, ◌≤◌, ◌<◌}
use native.Mathlib.Omega.{arith}
use borrow.Author.Tests.{lt-ltb, le-ltb, ltb-true, ltb-false, ne_eqb, eqb-true}
use lib.Dec.{eqb, ltb}
use lib.Ieee.{Float}
use lib.ListN.{length, length-append}
use Rattle.model.specs.Text.{hex_by}
use Rattle.text.specs.Read.{hex_digit}
use Rattle.numerals.specs.Numerals.{Capital, Capitals, word_from}
use Rattle.numerals.proofs.Numerals.{more-hex, word_below}
use Rattle.route_line.specs.declared.Kind.{Kind}
use Rattle.route_line.specs.declared.Kind.TheVariants.{Nothing, Slop, Cart, At, Still}
use Rattle.route_line.specs.declared.Line.{Line}
use Rattle.route_line.specs.Line.{line, between, word_end, name, takes_word, is_whole, one_more, named, in_name, after_word, in_word, line_after}
use Rattle.route_line.specs.Line.{is_route, place_if}
use Rattle.route_line.specs.Text.{words_text, line_text, Way, way_words, ways_text, stills_text}
use Rattle.route_read.specs.declared.Reader.{Reader}
use Rattle.route_read.specs.Read.{Run, run, no_text, byte_more, reader_after, run_over, next_line}
use Rattle.route_text.specs.Answer.{no_route_line, answer_text}
use Rattle.route_grammar.specs.Grammar.{Fit, FitWays, FitStills, RouteText}
use Rattle.route_grammar.proofs.Kept.{count_from, Taken, holds, behind-cart, behind-way, Done, no-still, behind-still, text-run}

-- ---- the line alone
unfoldable over : Line → List ℕ → Line
over l [] = l
over l (x ∷ xs) = over (line_after l x) xs

line_of_run : (s : Run) (text : List ℕ) → (run_over s text).reader.line ≡ over s.reader.line text
unfolding run_over over reader_after
line_of_run s [] = refl
line_of_run s (x ∷ xs) = line_of_run (byte_more s x) xs

-- a text that ends well from there on
abbrev Alive : Line → List ℕ → Type 0
Alive l t = is_route (over l t) ≡ true

never : {A : Type 0} → false ≡ true → A
never e = absurd (let z : ◌≡◌ {A = ℕ} 0 1 = cc in omega arith)

-- ---- a line that is none stays none
stays : (kind : Kind) (v n x : ℕ) → (line_after (line kind 14 v n) x).place ≡ 14
unfolding line_after in_word
stays kind v n x = go (eqb (hex_digit x) 16)
  where
    go : (t : Bool) → ◌≡◌ {A = ℕ} (cond t 14 14) 14
    go true = refl
    go false = refl

dead : (kind : Kind) (v n : ℕ) (t : List ℕ) → is_route (over (line kind 14 v n) t) ≡ false
unfolding over
dead kind v n [] = refl
dead kind v n (x ∷ t) = go (line_after (line kind 14 v n) x) (stays kind v n x) (λ k w m. dead k w m t)
  where
    go : (l : Line) → l.place ≡ 14 → ((k : Kind) (w m : ℕ) → is_route (over (line k 14 w m) t) ≡ false) → is_route (over l t) ≡ false
    go l e rest = ap (λ (p : ℕ). is_route (over (line l.kind p l.value l.count) t)) e ∙ rest l.kind l.value l.count

no-life : {A : Type 0} (kind : Kind) (v n : ℕ) (t : List ℕ) → Alive (line kind 14 v n) t → A
no-life kind v n t a = never (sym (dead kind v n t) ∙ a)

-- nor does a text end within a line
within : {A : Type 0} (kind : Kind) (p v n : ℕ) → 1 ≤ p → Alive (line kind p v n) [] → A
unfolding over
within kind p v n some a = never (rw (ne_eqb p 0 (λ e. omega arith)) at a)

-- ---- a word
digit-capital : (x : ℕ) → eqb (hex_digit x) 16 ≡ false → Capital x
digit-capital x e = go (ltb x 48) (ltb x 58) (ltb x 65) (ltb x 71) refl refl refl refl e
  where
    go : (p q r s : Bool) → ltb x 48 ≡ p → ltb x 58 ≡ q → ltb x 65 ≡ r → ltb x 71 ≡ s
        → eqb (cond p 16 (cond q (x - 48) (cond r 16 (cond s (x - 55) 16)))) 16 ≡ false → Capital x
    go true q r s a b c d h = never (sym h)
    go false true r s a b c d h = inl (ltb-false x 48 a, omega (arith, ltb-true x 58 b))
    go false false true s a b c d h = never (sym h)
    go false false false true a b c d h = inr (ltb-false x 65 c, omega (arith, ltb-true x 71 d))
    go false false false false a b c d h = never (sym h)

record DigitsRest (kind : Kind) (n j : ℕ) (t : List ℕ) : Type 0 where
  word : List ℕ
  rest : List ℕ
  value : ℕ
  capitals : Capitals word
  size : length word ≡ j
  whole : t ≡ word ++ rest
  alive : Alive (line kind word_end value (one_more n)) rest

-- one digit in front
digit-first : (kind : Kind) (n j x : ℕ) (t : List ℕ) → Capital x → DigitsRest kind n j t → DigitsRest kind n (suc j) (x ∷ t)
unfolding Capitals
digit-first kind n j x t h r = record {
  word = x ∷ r.word;
  rest = r.rest;
  value = r.value;
  capitals = (h, r.capitals);
  size = ap suc r.size;
  whole = ap (λ (l : List ℕ). x ∷ l) r.whole;
  alive = r.alive;
}

alive-by : {l l' : Line} (t : List ℕ) → l ≡ l' → Alive l t → Alive l' t
alive-by t e a = ap (λ (k : Line). is_route (over k t)) (sym e) ∙ a

digit-step : (kind : Kind) (p v n x : ℕ) → 6 ≤ p → p < 13 →
    line_after (line kind p v n) x ≡ line kind (cond (eqb (hex_digit x) 16) 14 (p + 1)) ((v * 16 + hex_digit x % 16) % 2 ^ 32) n
unfolding line_after in_word
digit-step kind p v n x low high =
    rw (le-ltb p 5 (omega arith), ne_eqb p 5 (λ e. omega arith), lt-ltb p 13 high, ne_eqb p 13 (λ e. omega arith))

last_step : (kind : Kind) (v n x : ℕ) →
    line_after (line kind 13 v n) x ≡ line kind (cond (eqb (hex_digit x) 16) 14 word_end) ((v * 16 + hex_digit x % 16) % 2 ^ 32) (one_more n)
unfolding line_after in_word
last_step kind v n x = refl

last-digit : (kind : Kind) (v n x : ℕ) (t : List ℕ) → Alive (line_after (line kind 13 v n) x) t → DigitsRest kind n 1 (x ∷ t)
unfolding Capitals
last-digit kind v n x t a = go (eqb (hex_digit x) 16) refl (alive-by t (last_step kind v n x) a)
  where
    go : (b : Bool) → eqb (hex_digit x) 16 ≡ b → Alive (line kind (cond b 14 word_end) ((v * 16 + hex_digit x % 16) % 2 ^ 32) (one_more n)) t
        → DigitsRest kind n 1 (x ∷ t)
    go true e a = no-life kind ((v * 16 + hex_digit x % 16) % 2 ^ 32) (one_more n) t a
    go false e a = record {
      word = x ∷ [];
      rest = t;
      value = (v * 16 + hex_digit x % 16) % 2 ^ 32;
      capitals = (digit-capital x e, tt);
      size = refl;
      whole = refl;
      alive = a;
    }

digits-rest : (kind : Kind) (j p v n : ℕ) (t : List ℕ) → p + suc j ≡ 14 → 6 ≤ p → Alive (line kind p v n) t → DigitsRest kind n (suc j) t
unfolding over
digits-rest kind j p v n [] end low a = within kind p v n (omega arith) a
digits-rest kind zero p v n (x ∷ t) end low a =
    let last : p ≡ 13 = omega (arith, end) in
    last-digit kind v n x t (ap (λ (q : ℕ). is_route (over (line_after (line kind q v n) x) t)) (sym last) ∙ a)
digits-rest kind (suc j) p v n (x ∷ t) end low a =
    go (eqb (hex_digit x) 16) refl (alive-by t (digit-step kind p v n x low (omega (arith, end))) a)
    (λ w b. digits-rest kind j (p + 1) w n t (omega (arith, end)) (omega arith) b)
  where
    go : (b : Bool) → eqb (hex_digit x) 16 ≡ b → Alive (line kind (cond b 14 (p + 1)) ((v * 16 + hex_digit x % 16) % 2 ^ 32) n) t
        → ((w : ℕ) → Alive (line kind (p + 1) w n) t → DigitsRest kind n (suc j) t) → DigitsRest kind n (suc (suc j)) (x ∷ t)
    go true e a next = no-life kind ((v * 16 + hex_digit x % 16) % 2 ^ 32) n t a
    go false e a next = digit-first kind n (suc j) x t (digit-capital x e) (next ((v * 16 + hex_digit x % 16) % 2 ^ 32) a)

-- ---- the words of a line
record WordsRest (kind : Kind) (n : ℕ) (t : List ℕ) : Type 0 where
  words : List ℕ
  rest : List ℕ
  fit : Fit words
  taken : Taken kind n words
  enough : is_whole kind (count_from n words) ≡ true
  whole : t ≡ words_text words ++ (10 ∷ rest)
  shorter : length rest < length t
  alive : Alive (line kind between 0 (count_from n words)) rest

word_first : (kind : Kind) (n : ℕ) (t : List ℕ) → takes_word kind n ≡ true → (d : DigitsRest kind n 8 t) → WordsRest kind (one_more n) d.rest →
    WordsRest kind n (32 ∷ t)
unfolding Fit Taken count_from words_text hex_by
word_first kind n t takes d r =
    let w = word_from 0 d.word in
    let size : length d.word + 0 ≡ 8 = omega (arith, d.size) in
    let digits : hex_by 8 (word_from 0 d.word) ≡ d.word = rw size at (more-hex 0 0 d.word d.capitals) in
    let below : word_from 0 d.word < 16 ^ 8 = rw size at (word_below 0 0 d.word (omega arith) d.capitals) in
    let long : length t ≡ length d.word + length d.rest = ap length d.whole ∙ length-append d.word d.rest in
    record {
      words = w ∷ r.words;
      rest = r.rest;
      fit = (below, r.fit);
      taken = (takes, r.taken);
      enough = r.enough;
      whole =
          ap (λ (l : List ℕ). 32 ∷ l)
          (d.whole ∙ ap (λ (l : List ℕ). d.word ++ l) r.whole ∙ ap (λ (l : List ℕ). l ++ (words_text r.words ++ (10 ∷ r.rest))) (sym digits)
          ∙ sym (append_assoc (hex_by 8 w) (words_text r.words) (10 ∷ r.rest)));
      shorter = omega (arith, r.shorter, long);
      alive = r.alive;
    }

no_word : (kind : Kind) (n : ℕ) (t : List ℕ) → is_whole kind n ≡ true → Alive (line kind between 0 n) t → WordsRest kind n (10 ∷ t)
unfolding Fit Taken count_from words_text
no_word kind n t whole a = record {
  words = [];
  rest = t;
  fit = tt;
  taken = tt;
  enough = whole;
  whole = refl;
  shorter = omega arith;
  alive = a;
}

words_step : (kind : Kind) (v n : ℕ) (t : List ℕ) → Alive (line kind word_end v n) t →
    ((m w : ℕ) (r : List ℕ) → length r < length t → Alive (line kind word_end w m) r → WordsRest kind m r) → WordsRest kind n t
unfolding over line_after after_word
words_step kind v n [] a next = within kind 5 v n (omega arith) a
words_step kind v n (x ∷ t) a next = go (eqb x 32) (eqb x 10) (takes_word kind n) (is_whole kind n) refl refl refl refl a
  where
    go : (p q s u : Bool) → eqb x 32 ≡ p → eqb x 10 ≡ q → takes_word kind n ≡ s → is_whole kind n ≡ u
        → Alive (line kind (cond p (place_if s 6) (cond q (place_if u between) 14)) 0 n) t → WordsRest kind n (x ∷ t)
    go true q true u e f g h a =
        let d = digits-rest kind 7 6 0 n t refl (omega arith) a in
        let long : length t ≡ length d.word + length d.rest = ap length d.whole ∙ length-append d.word d.rest in
        let blank : 32 ≡ x = sym (eqb-true x 32 e) in
        rw blank at (word_first kind n t g d (next (one_more n) d.value d.rest (omega (arith, long)) d.alive))
    go true q false u e f g h a = no-life kind 0 n t a
    go false true s true e f g h a =
        let newline : 10 ≡ x = sym (eqb-true x 10 f) in
        rw newline at (no_word kind n t h a)
    go false true s false e f g h a = no-life kind 0 n t a
    go false false s u e f g h a = no-life kind 0 n t a

words-rest : (fuel : ℕ) (kind : Kind) (v n : ℕ) (t : List ℕ) → length t ≤ fuel → Alive (line kind word_end v n) t → WordsRest kind n t
words-rest zero kind v n t short a = words_step kind v n t a (λ m w r less b. absurd (omega (arith, short, less)))
words-rest (suc fuel) kind v n t short a = words_step kind v n t a (λ m w r less b. words-rest fuel kind w m r (omega (arith, short, less)) b)

-- ---- the name of a line
record LetterRest (letter : ℕ) (l : Line) (t : List ℕ) : Type 0 where
  rest : List ℕ
  whole : t ≡ letter ∷ rest
  alive : Alive l rest

-- the one byte that leads on
letter : (kind : Kind) (c next x : ℕ) (t : List ℕ) → Alive (line kind (cond (eqb c x) next 14) 0 0) t → LetterRest c (line kind next 0 0) (x ∷ t)
letter kind c next x t a = go (eqb c x) refl a
  where
    go : (b : Bool) → eqb c x ≡ b → Alive (line kind (cond b next 14) 0 0) t → LetterRest c (line kind next 0 0) (x ∷ t)
    go true e a = record { rest = t; whole = ap (λ (y : ℕ). y ∷ t) (sym (eqb-true c x e)); alive = a }
    go false e a = no-life kind 0 0 t a

in-name : (kind : Kind) (p c next : ℕ) → 1 ≤ p → ((x : ℕ) → line_after (line kind p 0 0) x ≡ line kind (cond (eqb c x) next 14) 0 0) → (t : List ℕ) →
    Alive (line kind p 0 0) t → LetterRest c (line kind next 0 0) t
unfolding over
in-name kind p c next some step [] a = within kind p 0 0 some a
in-name kind p c next some step (x ∷ t) a = letter kind c next x t (alive-by t (step x) a)

record NameRest (kind : Kind) (t : List ℕ) : Type 0 where
  rest : List ℕ
  whole : t ≡ name kind ++ rest
  alive : Alive (line kind word_end 0 0) rest

led : (c : ℕ) {l m : List ℕ} → l ≡ m → c ∷ l ≡ c ∷ m
led c e = ap (λ (k : List ℕ). c ∷ k) e

slop-name : (t : List ℕ) → LetterRest 83 (line Slop 1 0 0) t → NameRest Slop t
unfolding line_after in_name named
slop-name t a =
    let b = in-name Slop 1 76 2 (omega arith) (λ x. refl) a.rest a.alive in
    let c = in-name Slop 2 79 3 (omega arith) (λ x. refl) b.rest b.alive in
    let d = in-name Slop 3 80 word_end (omega arith) (λ x. refl) c.rest c.alive in
    record { rest = d.rest; whole = a.whole ∙ led 83 (b.whole ∙ led 76 (c.whole ∙ led 79 d.whole)); alive = d.alive }

cart-name : (t : List ℕ) → LetterRest 67 (line Cart 1 0 0) t → NameRest Cart t
unfolding line_after in_name named
cart-name t a =
    let b = in-name Cart 1 65 2 (omega arith) (λ x. refl) a.rest a.alive in
    let c = in-name Cart 2 82 3 (omega arith) (λ x. refl) b.rest b.alive in
    let d = in-name Cart 3 84 word_end (omega arith) (λ x. refl) c.rest c.alive in
    record { rest = d.rest; whole = a.whole ∙ led 67 (b.whole ∙ led 65 (c.whole ∙ led 82 d.whole)); alive = d.alive }

way-name : (t : List ℕ) → LetterRest 65 (line At 1 0 0) t → NameRest At t
unfolding line_after in_name named
way-name t a =
    let b = in-name At 1 84 word_end (omega arith) (λ x. refl) a.rest a.alive in
    record { rest = b.rest; whole = a.whole ∙ led 65 b.whole; alive = b.alive }

still-name : (t : List ℕ) → LetterRest 83 (line Still 1 0 0) t → NameRest Still t
unfolding line_after in_name named
still-name t a =
    let b = in-name Still 1 84 2 (omega arith) (λ x. refl) a.rest a.alive in
    let c = in-name Still 2 73 3 (omega arith) (λ x. refl) b.rest b.alive in
    let d = in-name Still 3 76 4 (omega arith) (λ x. refl) c.rest c.alive in
    let e = in-name Still 4 76 word_end (omega arith) (λ x. refl) d.rest d.alive in
    record { rest = e.rest; whole = a.whole ∙ led 83 (b.whole ∙ led 84 (c.whole ∙ led 73 (d.whole ∙ led 76 e.whole))); alive = e.alive }

-- ---- a line
record LineRest (kind : Kind) (t : List ℕ) : Type 0 where
  words : List ℕ
  rest : List ℕ
  fit : Fit words
  taken : Taken kind 0 words
  enough : is_whole kind (count_from 0 words) ≡ true
  whole : t ≡ line_text kind words ++ rest
  shorter : length rest < length t
  alive : Alive (line kind between 0 (count_from 0 words)) rest

line-rest : (kind : Kind) (t : List ℕ) → NameRest kind t → LineRest kind t
line-rest kind t a =
    let r = words-rest (length a.rest) kind 0 0 a.rest (omega arith) a.alive in
    let long : length t ≡ length (name kind) + length a.rest = ap length a.whole ∙ length-append (name kind) a.rest in
    let words = words_text r.words in
    record {
      words = r.words;
      rest = r.rest;
      fit = r.fit;
      taken = r.taken;
      enough = r.enough;
      whole =
          a.whole ∙ ap (λ (l : List ℕ). name kind ++ l) r.whole
          ∙ sym (append_assoc (name kind ++ words) (10 ∷ []) r.rest ∙ append_assoc (name kind) words (10 ∷ r.rest));
      shorter = omega (arith, r.shorter, long);
      alive = r.alive;
    }

-- ---- the words of SLOP and of AT
record OneWord (ws : List ℕ) : Type 0 where
  word : ℕ
  only : ws ≡ word ∷ []

one_word : (ws : List ℕ) → Taken Slop 0 ws → is_whole Slop (count_from 0 ws) ≡ true → OneWord ws
unfolding Taken count_from
one_word [] t e = never e
one_word (w ∷ []) t e = record { word = w; only = refl }
one_word (w ∷ v ∷ ws) t e = never t.1.0

record FourWords (ws : List ℕ) : Type 0 where
  way : Way
  four : ws ≡ way_words way

four-words : (ws : List ℕ) → Taken At 0 ws → is_whole At (count_from 0 ws) ≡ true → FourWords ws
unfolding Taken count_from
four-words [] t e = never e
four-words (a ∷ []) t e = never e
four-words (a ∷ b ∷ []) t e = never e
four-words (a ∷ b ∷ c ∷ []) t e = never e
four-words (a ∷ b ∷ c ∷ d ∷ []) t e = record { way = record { x = a; y = b; c = c; s = d }; four = refl }
four-words (a ∷ b ∷ c ∷ d ∷ f ∷ ws) t e = never t.1.1.1.1.0

-- ---- the outlines, and before them the waypoints
record StillsRest (t : List ℕ) : Type 0 where
  stills : List (List ℕ)
  fit : FitStills stills
  whole : t ≡ stills_text stills

still-first : (t : List ℕ) (r : LineRest Still t) → StillsRest r.rest → StillsRest t
unfolding FitStills stills_text
still-first t r s = record {
  stills = r.words ∷ s.stills;
  fit = (r.fit, s.fit);
  whole = r.whole ∙ ap (λ (l : List ℕ). line_text Still r.words ++ l) s.whole;
}

no-stills : StillsRest []
unfolding FitStills stills_text
no-stills = record { stills = []; fit = tt; whole = refl }

stills-step : (n : ℕ) (t : List ℕ) → Alive (line Still between 0 n) t →
    ((m : ℕ) (r : List ℕ) → length r < length t → Alive (line Still between 0 m) r → StillsRest r) → StillsRest t
unfolding over line_after in_name named
stills-step n [] a next = no-stills
stills-step n (x ∷ t) a next =
    let r = line-rest Still (x ∷ t) (still-name (x ∷ t) (letter Still 83 1 x t a)) in
    still-first (x ∷ t) r (next (count_from 0 r.words) r.rest r.shorter r.alive)

stills-rest : (fuel n : ℕ) (t : List ℕ) → length t ≤ fuel → Alive (line Still between 0 n) t → StillsRest t
stills-rest zero n t short a = stills-step n t a (λ m r less b. absurd (omega (arith, short, less)))
stills-rest (suc fuel) n t short a = stills-step n t a (λ m r less b. stills-rest fuel m r (omega (arith, short, less)) b)

record TailRest (t : List ℕ) : Type 0 where
  ways : List Way
  stills : List (List ℕ)
  ways-fit : FitWays ways
  stills-fit : FitStills stills
  whole : t ≡ ways_text ways ++ stills_text stills

way-first : (t : List ℕ) (r : LineRest At t) → TailRest r.rest → TailRest t
unfolding FitWays ways_text
way-first t r s =
    let w = four-words r.words r.taken r.enough in
    let words : line_text At r.words ≡ line_text At (way_words w.way) = ap (line_text At) w.four in
    record {
      ways = w.way ∷ s.ways;
      stills = s.stills;
      ways-fit = (rw w.four at r.fit, s.ways-fit);
      stills-fit = s.stills-fit;
      whole =
          r.whole
          ∙ ap (λ (l : List ℕ). line_text At r.words ++ l) s.whole
          ∙ ap (λ (l : List ℕ). l ++ (ways_text s.ways ++ stills_text s.stills)) words
          ∙ sym (append_assoc (line_text At (way_words w.way)) (ways_text s.ways) (stills_text s.stills));
    }

no-ways : (t : List ℕ) → StillsRest t → TailRest t
unfolding FitWays ways_text
no-ways t s = record { ways = []; stills = s.stills; ways-fit = tt; stills-fit = s.fit; whole = s.whole }

-- behind the cart or a waypoint
data Before : Kind → Type 0 where
  cart : Before Cart
  way : Before At

either_step : (last : Kind) → Before last → (n x : ℕ) (b : Bool) → eqb x 65 ≡ b →
    line_after (line last between 0 n) x ≡ cond b (line At (cond (eqb 65 x) 1 14) 0 0) (line Still (cond (eqb 83 x) 1 14) 0 0)
unfolding line_after in_name named
either_step _ cart n x true e = rw e
either_step _ cart n x false e = rw e
either_step _ way n x true e = rw e
either_step _ way n x false e = rw e

tail_step : (last : Kind) → Before last → (n : ℕ) (t : List ℕ) → Alive (line last between 0 n) t →
    ((m : ℕ) (r : List ℕ) → length r < length t → Alive (line At between 0 m) r → TailRest r) → TailRest t
unfolding over
tail_step last before n [] a next = no-ways [] no-stills
tail_step last before n (x ∷ t) a next = go (eqb x 65) refl (alive-by t (either_step last before n x (eqb x 65) refl) a)
  where
    go : (b : Bool) → eqb x 65 ≡ b → Alive (cond b (line At (cond (eqb 65 x) 1 14) 0 0) (line Still (cond (eqb 83 x) 1 14) 0 0)) t → TailRest (x ∷ t)
    go true e a =
        let r = line-rest At (x ∷ t) (way-name (x ∷ t) (letter At 65 1 x t a)) in
        way-first (x ∷ t) r (next (count_from 0 r.words) r.rest r.shorter r.alive)
    go false e a =
        let r = line-rest Still (x ∷ t) (still-name (x ∷ t) (letter Still 83 1 x t a)) in
        no-ways (x ∷ t) (still-first (x ∷ t) r (stills-rest (length r.rest) (count_from 0 r.words) r.rest (omega arith) r.alive))

tail-rest : (fuel n : ℕ) (t : List ℕ) → length t ≤ fuel → Alive (line At between 0 n) t → TailRest t
tail-rest zero n t short a = tail_step At way n t a (λ m r less b. absurd (omega (arith, short, less)))
tail-rest (suc fuel) n t short a = tail_step At way n t a (λ m r less b. tail-rest fuel m r (omega (arith, short, less)) b)

-- ---- the whole text
cart-line : (n : ℕ) (t : List ℕ) → Alive (line Slop between 0 n) t → LineRest Cart t
unfolding over line_after in_name named
cart-line n [] a = never a
cart-line n (x ∷ t) a = line-rest Cart (x ∷ t) (cart-name (x ∷ t) (letter Cart 67 1 x t a))

slop-line : (t : List ℕ) → Alive (line Nothing between 0 0) t → LineRest Slop t
unfolding over line_after in_name named
slop-line [] a = never a
slop-line (x ∷ t) a = line-rest Slop (x ∷ t) (slop-name (x ∷ t) (letter Slop 83 1 x t a))

regroup : (p q r s : List ℕ) → p ++ (q ++ (r ++ s)) ≡ p ++ q ++ r ++ s
regroup p q r s = sym (append_assoc (p ++ q) r s ∙ append_assoc p q (r ++ s))

route-text : (t : List ℕ) → Alive (line Nothing between 0 0) t → RouteText t
unfolding Fit
route-text t a =
    let s = slop-line t a in
    let w = one_word s.words s.taken s.enough in
    let c = cart-line (count_from 0 s.words) s.rest s.alive in
    let r = tail_step Cart cart (count_from 0 c.words) c.rest c.alive (λ m q less b. tail-rest (length q) m q (omega arith) b) in
    let one = line_text Slop (w.word ∷ []) in
    let two = line_text Cart c.words in
    record {
      slop = w.word;
      cart = c.words;
      ways = r.ways;
      stills = r.stills;
      slop-fits = (rw w.only at s.fit).0;
      cart-fits = c.fit;
      ways-fit = r.ways-fit;
      stills-fit = r.stills-fit;
      whole =
          s.whole ∙ ap (λ (ws : List ℕ). line_text Slop ws ++ s.rest) w.only ∙ ap (λ (l : List ℕ). one ++ l) c.whole
          ∙ ap (λ (l : List ℕ). one ++ (two ++ l)) r.whole
          ∙ regroup one two (ways_text r.ways) (stills_text r.stills);
    }

-- ---- what the reader takes for a route is the text of one, and nothing else is; whatever lists are lent
abbrev pub read_to : List Float → List ℕ → List ℕ → Reader
read_to floats lengths text = (run_over (run no_text floats lengths) text).reader

pub taken-is-route : (floats : List Float) (lengths : List ℕ) (text : List ℕ) → is_route (read_to floats lengths text).line ≡ true → RouteText text
taken-is-route floats lengths text e = route-text text (ap is_route (sym (line_of_run (run no_text floats lengths) text)) ∙ e)

pub route-is-taken : (floats : List Float) (lengths : List ℕ) (text : List ℕ) → RouteText text → is_route (read_to floats lengths text).line ≡ true
route-is-taken floats lengths text r =
    rw r.whole (done _ (text-run floats lengths r.slop r.cart r.ways r.stills r.slop-fits r.cart-fits r.ways-fit r.stills-fit))
  where
    done : {ks : List Float} {ns : List ℕ} {c e : ℕ} (s : Run) → Done floats lengths ks ns c e s → is_route s.reader.line ≡ true
    done _ (no-still (behind-cart (holds n m))) = refl
    done _ (no-still (behind-way (holds n m))) = refl
    done _ (behind-still (holds n m)) = refl

-- so every text is some route's, or it is told by 14 and the line after those that fit
pub route-or-14 : (floats : List Float) (lengths : List ℕ) (text : List ℕ) →
    RouteText text ⊎ (answer_text floats lengths text ≡ no_route_line (next_line (read_to floats lengths text).lines))
route-or-14 floats lengths text = go (is_route (read_to floats lengths text).line) refl
  where
    go : (b : Bool) → is_route (read_to floats lengths text).line ≡ b
        → RouteText text ⊎ (answer_text floats lengths text ≡ no_route_line (next_line (read_to floats lengths text).lines))
    go true e = inl (taken-is-route floats lengths text e)
    go false e = inr (rw e)
