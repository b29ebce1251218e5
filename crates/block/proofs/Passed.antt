-- What a block that passes has in its places. Assumes nothing.
use Rattle.std.proofs.Common.{◌≡◌, ℕ, zero, suc, ◌+◌, ◌-◌, ◌*◌, ◌<◌, ◌≤◌, Bool, true, false, cond, not, ◌&&◌, ◌||◌, eqb, ltb, List, sym, refl, true≢false, arith, ltb-false, ltb-true, eqb-true, Ok}
use Rattle.model.specs.Wire.{byte}
use Rattle.model.specs.Block.{job_of, block_of, known_form, check_holds, all_zero, bad_count, zeros_hold, bad_fields, checked_block, refused}
use Rattle.model.specs.Blocks.{is_good}
use Rattle.block.proofs.Laws.{all_right, fair-count}

pub both_true : (x y : Bool) → (x && y) ≡ true → (x ≡ true) × (y ≡ true)
both_true true true e = (refl, refl)
both_true true false e = (cc, cc)
both_true false y e = (cc, cc)

four : (j a c z : Bool) → (j || a || c || not z) ≡ false → (j ≡ false) × (a ≡ false) × (c ≡ false) × (z ≡ true)
four false false false true e = (refl, refl, refl, refl)
four false false false false e = (cc, cc, cc, cc)
four false false true z e = (cc, cc, cc, cc)
four false true c z e = (cc, cc, cc, cc)
four true a c z e = (cc, cc, cc, cc)

module _ (b : List ℕ) where
  -- the tests in the order of their refusals
  pub record Passed : Type 0 where
    pub known : known_form (byte b 6) ≡ true
    pub holds : check_holds b ≡ true
    pub fields : bad_fields b ≡ false

  pub is-passed : is_good (checked_block b) ≡ true → Passed
  unfolding checked_block
  is-passed e = go (known_form (byte b 6)) (check_holds b) (bad_fields b) refl refl refl e
    where
      go : (k h f : Bool) → known_form (byte b 6) ≡ k → check_holds b ≡ h → bad_fields b ≡ f
          → is_good (cond k (cond h (cond f (refused (job_of b) 11) (Ok (block_of b))) (refused 0 10)) (refused 0 13)) ≡ true → Passed
      go true true false k h f e = record { known = k; holds = h; fields = f }
      go true true true k h f e = absurd (true≢false (sym e))
      go true false fs k h f e = absurd (true≢false (sym e))
      go false hs fs k h f e = absurd (true≢false (sym e))

  pub passed-good : Passed → checked_block b ≡ Ok (block_of b)
  passed-good p = sym (all_right b p.known p.holds p.fields)

  -- single places of it
  pub record Fields : Type 0 where
    pub job : eqb (job_of b) 0 ≡ false
    pub fair-a : bad_count (byte b 4) ≡ false
    pub fair-b : bad_count (byte b 5) ≡ false
    pub count-a : byte b 4 ≤ 16
    pub count-b : byte b 5 ≤ 16
    pub after-form : byte b 7 ≡ 0
    pub zeros-a : all_zero b (104 + 8 * byte b 4) (128 - 8 * byte b 4) ≡ true
    pub zeros-b : all_zero b (232 + 8 * byte b 5) (276 - 8 * byte b 5) ≡ true

  abbrev unused-a : Bool
  unused-a = all_zero b (104 + 8 * byte b 4) (128 - 8 * byte b 4)

  abbrev unused-b : Bool
  unused-b = all_zero b (232 + 8 * byte b 5) (276 - 8 * byte b 5)

  pub fields-of : bad_fields b ≡ false → Fields
  fields-of fair =
      let parts = four (eqb (job_of b) 0) (bad_count (byte b 4)) (bad_count (byte b 5)) (zeros_hold b) fair in
      let zeros = both_true (eqb (byte b 7) 0 && unused-a) unused-b parts.3 in
      let before = both_true (eqb (byte b 7) 0) unused-a zeros.0 in
      record {
        job = parts.0;
        fair-a = parts.1;
        fair-b = parts.2;
        count-a = fair-count (byte b 4) parts.1;
        count-b = fair-count (byte b 5) parts.2;
        after-form = eqb-true (byte b 7) 0 before.0;
        zeros-a = before.1;
        zeros-b = zeros.1;
      }

-- ---- a byte that must be zero
zero-last : (b : List ℕ) (k n : ℕ) → all_zero b k (suc n) ≡ true → (all_zero b k n ≡ true) × (byte b (k + n) ≡ 0)
unfolding all_zero
zero-last b k n e =
    let h = both_true (all_zero b k n) (eqb (byte b (k + n)) 0) e in
    (h.0, eqb-true (byte b (k + n)) 0 h.1)

pub zero-byte : (b : List ℕ) (k n i : ℕ) → all_zero b k n ≡ true → i < n → byte b (k + i) ≡ 0
zero-byte b k zero i e inside = absurd (omega (arith, inside))
zero-byte b k (suc n) i e inside =
    let h = zero-last b k n e in
    go (ltb i n) refl h.1 (λ less. zero-byte b k n i h.0 less)
  where
    go : (t : Bool) → ltb i n ≡ t → byte b (k + n) ≡ 0 → (i < n → byte b (k + i) ≡ 0) → byte b (k + i) ≡ 0
    go true f last before = before (ltb-true i n f)
    go false f last before =
        let same : i ≡ n = omega (arith, ltb-false i n f, inside) in
        rw same last
