-- What a run in parts does: the parts that were read, one behind the other, and the calls of a closure at them.
use Rattle.std.specs.Prelude.{◌≡◌, ℕ, ◌-◌, ◌^◌, ◌<◌, ◌≤◌, List, length, ⊤, Result, Option, Ok, Err, MatchResult, MatchOption}
use Rattle.std.specs.Fn.{Mut, Called}
use Rattle.std.specs.List.{FoldsTo}
use Rattle.std.specs.Io.KnownBytes.{Consumes, IsAtEnd}
use Rattle.std.specs.declared.ops.ControlFlow.{ControlFlow}
use Rattle.std.specs.declared.ops.ControlFlow.TheVariants.{Continue, Break}
use denote.Ref.{Bor}

-- A part that was read into room for so many bytes: the next of the known ones, and less than there is room for only at their end. A failed read may lose some, no
-- more than there is room for.
pub record IsNextPart {E : Type 0} (room : ℕ) (known known' : Option (List ℕ)) (part : Result (Bor (List ℕ)) E) : Type 0 where
  pub bytes : List ℕ
  pub consumed : Consumes known known' bytes
  pub within : length bytes ≤ room
  pub shown : MatchResult part (λ p. (p.now ≡ bytes) × (length bytes < room → IsAtEnd known')) (λ _. ⊤)

module _ {F E B X : Type 0} (g : Mut F (Result (Bor (List ℕ)) E × Unit {0}) (Result (ControlFlow B Unit) X)) (room : ℕ) where
  -- a part was read, and the closure called at it gave r
  pub record Turn (r : Result (ControlFlow B Unit) X) (p : F × Option (List ℕ)) (part : Result (Bor (List ℕ)) E) (q : F × Option (List ℕ)) : Type 0 where
    pub read : IsNextPart room p.1 q.1 part
    pub called : Called g p.0 (part, tt) r q.0

  -- the turn that ends a run with r
  abbrev pub LastTurn : Result (ControlFlow B Unit) X → F × Option (List ℕ) → Option (List ℕ) → Type 0
  LastTurn r p known = (part : Result (Bor (List ℕ)) E) × (f : F) × Turn r p part (f, known)

  -- Turn after turn the closure went on, until it broke off with a value or gave an error, which is the run's; or so many parts were read that no run gets there.
  pub record Runs (start : F × Option (List ℕ)) (known : Option (List ℕ)) (result : Result (Option B) X) : Type 0 where
    pub parts : List (Result (Bor (List ℕ)) E)
    pub last : F × Option (List ℕ)
    pub turns : FoldsTo (Turn (Ok (Continue tt))) start parts last
    pub ended : MatchResult result
        (λ r. MatchOption r ((length parts ≡ 2 ^ 64 - 1) × (known ≡ last.1)) (λ b. LastTurn (Ok (Break b)) last known))
        (λ e. LastTurn (Err e) last known)
