-- What the turn of a touch is off by, over plain numbers: U is the turn's scale, F is 2^30 U, z the squared length's room in 2^30-ths, r the blur. Assumes nothing.
use mathlib.Core.List.{[], ◌∷◌}
use Prim.Native.Nat.{ℕ, ◌+◌, ◌*◌, ◌≤◌, ◌<◌}
use native.Mathlib.Nat.{mul-le-mul_left}
use native.Mathlib.Omega.{arith}
use Rattle.integers.specs.Signed.{Int, 0Int, of_nat, ◌⊞◌, ◌⊟◌, ◌⊠◌, ◌≼◌, ◌≺◌, ◌≃◌}
use Rattle.integers.specs.Polynomial.{var, lit, ◌:+◌, ◌:-◌, ◌:*◌}
use Rattle.integers.proofs.Signed.{⊠-square}
use Rattle.integers.proofs.Ring.{ring}
use Rattle.plane.specs.Plane.{Point, scaled, dot}
use Rattle.plane.proofs.Weights.{⊠-mono}
use Rattle.whole_move.proofs.Linear.{window-linear}

module _ (U z r : ℕ) where
  abbrev pub F : ℕ
  F = U * 1073741824

  abbrev pub y : ℕ
  y = U * U * (1073741824 * z)

  abbrev pub slack : ℕ
  slack = U * U * 1073741824

  abbrev pub K : ℕ
  K = U * (1207959552 + r)

  abbrev pub e : ℕ
  e = U * r

  -- what the blur does to the squared length
  abbrev pub spread : ℕ
  spread = 4 * (r * (1207959552 + r))

  abbrev UU : Int
  UU = of_nat U ⊠ of_nat U

  F-is : of_nat F ⊠ of_nat F ≃ UU ⊠ of_nat 1152921504606846976
  unfolding ◌⊠◌
  F-is = omega arith

  y-is : of_nat y ≃ UU ⊠ of_nat (1073741824 * z)
  unfolding ◌⊠◌
  y-is = omega arith

  e-is : of_nat (4 * (e * K)) ≃ UU ⊠ of_nat spread
  unfolding ◌⊠◌
  e-is = omega arith

  module _ (P : Point) where
    dot-is : dot (scaled (of_nat U) P) (scaled (of_nat U) P) ≃ UU ⊠ dot P P
    dot-is = ring (var 0 :* var 1 :* (var 0 :* var 1) :+ var 0 :* var 2 :* (var 0 :* var 2)) (var 0 :* var 0 :* (var 1 :* var 1 :+ var 2 :* var 2)) (of_nat
        U ∷ P.x ∷ P.y ∷ []) tt

    pub long : of_nat 1152921504606846976 ⊞ of_nat spread ≼ dot P P ⊞ of_nat (1073741824 * z) → of_nat F ⊠ of_nat F ⊟ of_nat y ⊞ of_nat (4 * (e * K)) ≼ dot
        (scaled (of_nat U) P) (scaled (of_nat U) P)
    long h = omega (
      arith,
      F-is,
      y-is,
      e-is,
      dot-is,
      ⊠-mono UU (of_nat 1152921504606846976 ⊞ of_nat spread) (dot P P ⊞ of_nat (1073741824 * z)) (⊠-square (of_nat U)) h,
      ring (var 0 :* (var 1 :+ var 2)) (var 0 :* var 1 :+ var 0 :* var 2) (UU ∷ of_nat 1152921504606846976 ∷ of_nat spread ∷ []) tt,
      ring (var 0 :* (var 1 :+ var 2)) (var 0 :* var 1 :+ var 0 :* var 2) (UU ∷ dot P P ∷ of_nat (1073741824 * z) ∷ []) tt,
    )

    pub short : dot P P ⊞ of_nat spread ≼ of_nat 1152921504606846976 ⊞ of_nat (1073741824 * z) → dot (scaled (of_nat U) P) (scaled (of_nat U) P) ⊞ of_nat (4 * (e
        * K)) ≼ of_nat F ⊠ of_nat F ⊞ of_nat y
    short h = omega (
      arith,
      F-is,
      y-is,
      e-is,
      dot-is,
      ⊠-mono UU (dot P P ⊞ of_nat spread) (of_nat 1152921504606846976 ⊞ of_nat (1073741824 * z)) (⊠-square (of_nat U)) h,
      ring (var 0 :* (var 1 :+ var 2)) (var 0 :* var 1 :+ var 0 :* var 2) (UU ∷ of_nat 1152921504606846976 ∷ of_nat (1073741824 * z) ∷ []) tt,
      ring (var 0 :* (var 1 :+ var 2)) (var 0 :* var 1 :+ var 0 :* var 2) (UU ∷ dot P P ∷ of_nat spread ∷ []) tt,
    )

  module _ (some : 0 < U) (tame : z ≤ 134217728) where
    some-square : 0 < U * U
    some-square = omega (arith, mul-le-mul_left U some)

    pub room : of_nat y ≺ of_nat F ⊠ of_nat F
    unfolding ◌⊠◌
    room = omega (arith, some-square, mul-le-mul_left (U * U * 1073741824) tame)

    pub held : of_nat 49 ⊠ (of_nat F ⊠ of_nat F ⊞ of_nat y) ≼ of_nat 64 ⊠ (of_nat F ⊠ of_nat F ⊟ of_nat slack)
    unfolding ◌⊠◌
    held = omega (arith, mul-le-mul_left (U * U * 1073741824) tame)

    pub wide : of_nat F ⊠ of_nat F ≼ of_nat slack ⊠ of_nat 1073741824
    unfolding ◌⊠◌
    wide = omega arith

    -- the window moves nothing that lies within unit R by more than unit E
    module _ (unit R E : ℕ) (reach : 5 * (R * (z + 1)) ≤ 8589934592 * E) where
      linear : of_nat 8 ⊠ (of_nat (unit * R) ⊠ (of_nat F ⊠ (of_nat (U * z) ⊞ of_nat U))) ≼ of_nat 15 ⊠ ((of_nat F ⊟ of_nat (U * z)) ⊠ of_nat (U * unit * (1073741824
          * E)))
      unfolding ◌⊠◌
      linear =
          let c = U * U * unit * 1073741824 in
          let less : 8 * (R * (z + 1)) + 15 * (z * E) ≤ 15 * (1073741824 * E) = omega (arith, reach, mul-le-mul_left E tame) in
          omega (arith, mul-le-mul_left c less)

      y-most : of_nat y ≼ of_nat F ⊠ of_nat (U * z)
      unfolding ◌⊠◌
      y-most = omega arith

      slack-most : of_nat slack ≼ of_nat F ⊠ of_nat U
      unfolding ◌⊠◌
      slack-most = omega arith

      z-most : of_nat (U * z) ≼ of_nat F
      z-most = omega (arith, mul-le-mul_left U tame)

      pub window : of_nat 64 ⊠ (of_nat (unit * R) ⊠ of_nat (unit * R) ⊠ ((of_nat y ⊞ of_nat slack) ⊠ (of_nat y ⊞ of_nat slack)))
          ≼ of_nat 225 ⊠ ((of_nat F ⊠ of_nat F ⊟ of_nat y) ⊠ (of_nat (U * unit * (1073741824 * E)) ⊠ of_nat (U * unit * (1073741824 * E))))
      window = window-linear (of_nat F) (of_nat y) (of_nat slack) (of_nat (unit * R)) (of_nat (U * unit * (1073741824 * E))) (of_nat (U * z)) (of_nat U) (omega
          arith) (omega arith) (omega arith) (omega arith) z-most y-most slack-most linear
