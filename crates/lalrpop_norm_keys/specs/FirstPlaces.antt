-- Where a key is met first.
use Rattle.std.specs.Prelude.{◌≡◌, ℕ, List, [], ◌∷◌, ◌++◌, Option, Some, None, length, slice_get}
use Rattle.lalrpop_grammar_symbols.specs.Symbols.{Closed, TextSpan}
use Rattle.lalrpop_grammar_language.specs.Among.{Among}
use Rattle.lalrpop_norm_keys.specs.MetKeys.{MetKey}

-- the key is met in none of these
abbrev pub IsNotMet : List MetKey → Closed → Type 0
IsNotMet ms x = (p : TextSpan) → Among ms (x, p) → ⊥

-- It is met there, and in none of those before.
pub record IsMetFirst (ms : List MetKey) (x : Closed) (p : TextSpan) : Type 0 where
  pub before : List MetKey
  pub after : List MetKey
  pub parts : ms ≡ before ++ (x, p) ∷ after
  pub first : IsNotMet before x

-- where the key is met first, if it is met
abbrev pub IsFirstPlace : List MetKey → Closed → Option TextSpan → Type 0
IsFirstPlace ms x None = IsNotMet ms x
IsFirstPlace ms x (Some p) = IsMetFirst ms x p

-- the keys that are met, and where each is met first
pub record TellFirst (ms : List MetKey) (keys : List Closed) (spans : List TextSpan) : Type 0 where
  pub long : length spans ≡ length keys
  pub all : (x : Closed) (p : TextSpan) → Among ms (x, p) → Among keys x
  pub first : (i : ℕ) (x : Closed) → slice_get keys i ≡ Some x → (p : TextSpan) × (slice_get spans i ≡ Some p) × IsMetFirst ms x p

-- where the key's rule stands: where the key is met first; one that is met nowhere, at the other place
pub data IsKeySpan (ms : List MetKey) (other : TextSpan) (x : Closed) (p : TextSpan) : Type 0 where
  met : IsMetFirst ms x p → IsKeySpan ms other x p
  nowhere : IsNotMet ms x → p ≡ other → IsKeySpan ms other x p

-- the same of several keys, in order
abbrev pub AreKeySpans : List MetKey → TextSpan → List Closed → List TextSpan → Type 0
AreKeySpans ms other [] ps = ps ≡ []
AreKeySpans ms other (x ∷ xs) ps =
    (p : TextSpan) × (rest : List TextSpan) × (ps ≡ p ∷ rest) × IsKeySpan ms other x p × AreKeySpans ms other xs rest
