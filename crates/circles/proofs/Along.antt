-- Directions that are positive multiples of each other: `support` finds the same corner along both, since each of its comparisons falls out alike. Assumes nothing.
use mathlib.Core.Path.{◌≡◌, refl, ap}
use mathlib.Core.Bool.{Bool, true, false, cond}
use mathlib.Core.List.{List, [], ◌∷◌}
use Prim.Native.Nat.{ℕ, ◌+◌, ◌/◌, ◌%◌, ◌^◌, ◌<◌}
use native.Mathlib.Omega.{arith}
use lib.ListN.{length}
use lib.Ieee.{Float, Format}
use lib.Ieee as I
use Rattle.integers.specs.Signed.{Int, 0Int, ◌⊞◌, ◌⊟◌, ◌⊠◌, ◌≼◌, ◌≺◌, ◌≃◌}
use Rattle.integers.specs.Whole.{IsWhole, Test}
use Rattle.integers.specs.Polynomial.{var, lit, ◌:+◌, ◌:-◌, ◌:*◌}
use Rattle.integers.proofs.Signed.{⊠-comm, ⊠-zero, ⊠-cong, ⊠-cong-r, ⊠-pos, ⊠-nonneg}
use Rattle.integers.proofs.Ring.{ring}
use Rattle.integers.proofs.Compare.{lt-exact}
use Rattle.model.specs.declared.Vector.{Vector}
use Rattle.model.specs.Ground.{vector, minus}
use Rattle.model.specs.Ground as Ground
use Rattle.model.specs.Support.{point, support_from, support}
use Rattle.plane.specs.Plane.{Point, difference, dot}
use Rattle.exact.specs.SquaredPaper.{Room}
use Rattle.exact.proofs.Vectors.{SizedPoint, zero-whole, whole-of-equal}
use Rattle.exact.proofs.Furthest.{value, From, first-is, rest-are}

-- along no direction nothing lies far
pub no_way : (u v : Point) → u.x ≃ 0Int → u.y ≃ 0Int → dot u v ≃ 0Int
no_way u v h k = omega (
  arith,
  ⊠-cong-r v.x u.x 0Int h,
  ⊠-cong-r v.y u.y 0Int k,
  ⊠-comm v.x u.x,
  ⊠-comm v.y u.y,
  ⊠-zero v.x,
  ⊠-zero v.y,
)

pub record Along (d e : Point) : Type 0 where
  pub ours : Int
  pub theirs : Int
  pub ours-some : 0Int ≺ ours
  pub theirs-some : 0Int ≺ theirs
  pub equal-x : ours ⊠ d.x ≃ theirs ⊠ e.x
  pub equal-y : ours ⊠ d.y ≃ theirs ⊠ e.y

pub along-back : {d e : Point} → Along d e → Along e d
along-back A = record {
  ours = A.theirs;
  theirs = A.ours;
  ours-some = A.theirs-some;
  theirs-some = A.ours-some;
  equal-x = omega (arith, A.equal-x);
  equal-y = omega (arith, A.equal-y);
}

along-dot : {d e : Point} (A : Along d e) (u : Point) → A.ours ⊠ dot d u ≃ A.theirs ⊠ dot e u
along-dot {d} {e} A u =
    let spread : (k : Int) (d : Point) → k ⊠ dot d u ≃ k ⊠ d.x ⊠ u.x ⊞ k ⊠ d.y ⊠ u.y =
    λ k d. ring (var 0 :* (var 1 :* var 3 :+ var 2 :* var 4)) (var 0 :* var 1 :* var 3 :+ var 0 :* var 2 :* var 4) (k ∷ d.x ∷ d.y ∷ u.x ∷ u.y ∷ []) tt in
    omega (
      arith,
      spread A.ours d,
      spread A.theirs e,
      ⊠-cong (A.ours ⊠ d.x) (A.theirs ⊠ e.x) u.x u.x A.equal-x refl,
      ⊠-cong (A.ours ⊠ d.y) (A.theirs ⊠ e.y) u.y u.y A.equal-y refl,
    )

-- neither is nothing where the other is something
pub both_some : {d e : Point} → Along d e → 0Int ≺ dot d d → e.x ≃ 0Int → e.y ≃ 0Int → ⊥
both_some {d} {e} A far h k =
    omega (arith, ⊠-pos A.ours (dot d d) A.ours-some far, along-dot A d, ⊠-cong-r A.theirs (dot e d) 0Int (no_way e d h k), ⊠-zero A.theirs)

-- they put two places in the same order
same-order : {d e : Point} → Along d e → (u w : Point) → dot d u ≺ dot d w → dot e w ≼ dot e u → ⊥
same-order {d} {e} A u w h k =
    let less : (k x y : Int) → k ⊠ (x ⊟ y) ≃ k ⊠ x ⊟ k ⊠ y = λ k x y. ring (var 0 :* (var 1 :- var 2)) (var 0 :* var 1 :- var 0 :* var 2) (k ∷ x ∷ y ∷ []) tt in
    omega (
      arith,
      ⊠-pos A.ours (dot d w ⊟ dot d u) A.ours-some (omega arith),
      ⊠-nonneg A.theirs (dot e u ⊟ dot e w) (omega (arith, A.theirs-some)) (omega arith),
      along-dot A u,
      along-dot A w,
      less A.ours (dot d w) (dot d u),
      less A.theirs (dot e u) (dot e w),
    )

module _ (f : Format) (bound : ℕ) (room : Room f bound) {d d' : Vector} {e e' : Point} (along : SizedPoint bound d e 32 3)
    (along' : SizedPoint bound d' e' 32 3) (A : Along e e')
    (z : ℕ → Point) (o : Vector) where
  abbrev ours : ℕ → Int
  ours = value f bound room along z o

  abbrev theirs : ℕ → Int
  theirs = value f bound room along' z o

  search-same : (l : List Float) (i best : ℕ) (x x' : Float) → IsWhole x (ours best) → IsWhole x' (theirs best) → From f bound room along z o l i
      → support_from f d o l i best x ≡ support_from f d' o l i best x'
  unfolding support_from
  search-same [] i best x x' v v' h = refl
  search-same (_ ∷ []) i best x x' v v' h = refl
  search-same (px ∷ py ∷ l) i best x x' v v' h =
      let w = first-is f bound room along z o px py l i h in
      let w' = first-is f bound room along' z o px py l i h in
      let rest = rest-are f bound room along z o px py l i h in
      go (I.lt x y) (I.lt x' y') (lt-exact x y (ours best) (ours i) v w) (lt-exact x' y' (theirs best) (theirs i) v' w')
      (search-same l (i + 1) best x x' v v' rest) (search-same l (i + 1) i y y' w w' rest)
    where
      y : Float
      y = Ground.dot f d (minus f (vector px py) o)

      y' : Float
      y' = Ground.dot f d' (minus f (vector px py) o)

      Same : ℕ → Float → Float → Type 0
      Same best x x' = support_from f d o l (i + 1) best x ≡ support_from f d' o l (i + 1) best x'

      go : (t t' : Bool) → Test t (ours best ≺ ours i) (ours i ≼ ours best) → Test t' (theirs best ≺ theirs i) (theirs i ≼ theirs best) → Same best x x'
          → Same i y y'
          → support_from f d o l (i + 1) (cond t i best) (cond t y x) ≡ support_from f d' o l (i + 1) (cond t' i best) (cond t' y' x')
      go true true h h' stays goes = goes
      go false false h h' stays goes = stays
      go true false h h' stays goes = absurd (same-order A (difference (z best) (z 0)) (difference (z i) (z 0)) h h')
      go false true h h' stays goes = absurd (same-order (along-back A) (difference (z best) (z 0)) (difference (z i) (z 0)) h' h)

pub support-same : (f : Format) (bound : ℕ) (room : Room f bound) {d d' : Vector} {e e' : Point} → SizedPoint bound d e 32 3 → SizedPoint bound d' e' 32 3
    → Along e e'
    → (z : ℕ → Point) (s : List Float) → ((k : ℕ) → k < length s / 2 → SizedPoint bound (minus f (point s k) (point s 0)) (difference (z k) (z 0)) 4 1)
    → support f s d ≡ support f s d'
unfolding support_from
support-same f bound room along along' A z [] fits = refl
support-same f bound room along along' A z (_ ∷ []) fits = refl
support-same f bound room {d} {d'} {e} {e'} along along' A z (x ∷ y ∷ s) fits =
    let o = point (x ∷ y ∷ s) 0 in
    let nothing : (e : Point) → IsWhole (Ground.zero f) (dot e (difference (z 0) (z 0))) =
    λ e. whole-of-equal (zero-whole f) (ring (lit 0Int) (var 0 :* (var 2 :- var 2) :+ var 1 :* (var 3 :- var 3)) (e.x ∷ e.y ∷ (z 0).x ∷ (z 0).y ∷ []) tt) in
    ap (λ (i : ℕ). i % 2 ^ 32)
    (search-same f bound room along along' A z o s 1 0 (Ground.zero f) (Ground.zero f) (nothing e) (nothing e')
    (rest-are f bound room along z o x y s 0 (λ k r. rw (from_zero k) (fits k r))))
  where
    from_zero : (k : ℕ) → 0 + k ≡ k
    from_zero k = omega arith
