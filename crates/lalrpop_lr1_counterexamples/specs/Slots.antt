-- Slots for the certificates of conflicts, filled one token after the other: for those who make all of them.
use Rattle.std.specs.Prelude.{ℕ, ◌<◌, ◌++◌, List, length, map, ◌≡◌, Option, Some, None, slice_get}
use Rattle.lalrpop_sets.specs.TokensLeft.{token_seen}
use Rattle.lalrpop_sets.specs.declared.token.TokenRef.{TokenRef}
use Rattle.lalrpop_judge.specs.CertificateViews.{certificate_view}
use Rattle.lalrpop_judge.specs.declared.certificates.certificate.Certificate.{Certificate}
use Rattle.lalrpop_lr1_counterexamples.specs.ShownStates.{IsCertificateAt, IsLeastToken}
use Rattle.lalrpop_lr1_counterexamples.specs.declared.certificates.shown.ShownConflicts.{ShownConflicts}

-- some certificate stands in the slot
abbrev pub IsFilled : List (Option Certificate) → ℕ → Type 0
IsFilled slots i = (c : Certificate) × (slice_get slots i ≡ Some (Some c))

-- one slot for each conflict, and whatever stands there is a certificate of it
pub record AreCertificateSlots (it : ShownConflicts) (slots : List (Option Certificate)) : Type 0 where
  pub count : length slots ≡ length it.conflicts.now
  pub each : (i : ℕ) (c : Certificate) → slice_get slots i ≡ Some (Some c) → IsCertificateAt it i (certificate_view c)

-- what was filled still is
abbrev pub StayFilled : List (Option Certificate) → List (Option Certificate) → Type 0
StayFilled old new = (i : ℕ) → IsFilled old i → IsFilled new i

-- for so many conflicts the token at the place is the least of the conflict's lookahead
pub record AreLeastTokensOf (it : ShownConflicts) (n : ℕ) (tokens : List TokenRef) : Type 0 where
  pub count : length tokens ≡ n
  pub each : (i : ℕ) (token : TokenRef) → slice_get tokens i ≡ Some token → IsLeastToken it i token

-- for all of them
abbrev pub AreLeastTokens : ShownConflicts → List TokenRef → Type 0
AreLeastTokens it tokens = AreLeastTokensOf it (length it.conflicts.now) tokens

-- of those below a place the slots with this token are filled
abbrev pub AreFilledBefore : List TokenRef → TokenRef → List (Option Certificate) → ℕ → Type 0
AreFilledBefore tokens token slots below = (i : ℕ) (other : TokenRef) → i < below → slice_get tokens i ≡ Some other →
    token_seen other ≡ token_seen token → IsFilled slots i

-- Of the places below a number the slots with this token are filled; those filled before still are, and what stands there is right.
pub record AreFilling (it : ShownConflicts) (tokens : List TokenRef) (token : TokenRef) (old slots : List (Option Certificate)) (n : ℕ) :
    Type 0 where
  pub right : AreCertificateSlots it slots
  pub stay : StayFilled old slots
  pub filled : AreFilledBefore tokens token slots n

-- so many slots in which nothing stands
pub record AreEmptySlots (n : ℕ) (slots : List (Option Certificate)) : Type 0 where
  pub count : length slots ≡ n
  pub none : (i : ℕ) (slot : Option Certificate) → slice_get slots i ≡ Some slot → slot ≡ None

-- The slots below a place are filled.
abbrev pub AreFilledBelow : List (Option Certificate) → ℕ → Type 0
AreFilledBelow slots n = (i : ℕ) → i < n → IsFilled slots i

-- the same, and what stands there is right
pub record AreFilledSlots (it : ShownConflicts) (slots : List (Option Certificate)) (n : ℕ) : Type 0 where
  pub right : AreCertificateSlots it slots
  pub filled : AreFilledBelow slots n

-- What was taken out stood in the first slots, the others are left, and all of them are filled.
pub record AreTakenOut (all : List (Option Certificate)) (taken : List Certificate) (left : List (Option Certificate))
    (many : ℕ) : Type 0 where
  pub parts : map Some taken ++ left ≡ all
  pub filled : AreFilledBelow left (length left)
  pub count : many ≡ length left
