-- Why no automaton is made for a pattern.
use Rattle.std.specs.Prelude.{◌≡◌, Option, Some}
use Rattle.lalrpop_lexer_pattern.specs.declared.refusal.Refusal.{Refusal}
use Rattle.lalrpop_lexer_pattern.specs.declared.refusal.Refusal.TheVariants as refusal
use Rattle.lalrpop_lexer_nfa.specs.declared.from_re.NfaConstructionError.{NfaConstructionError}
use Rattle.lalrpop_lexer_nfa.specs.declared.from_re.NfaConstructionError.TheVariants as error

-- the error that tells what was refused
abbrev pub error_of : Refusal → NfaConstructionError
error_of refusal.NamedCaptures = error.NamedCaptures
error_of refusal.NonGreedy = error.NonGreedy
error_of refusal.LookAround = error.LookAround

-- memory ran out, or the tree holds what the error tells
abbrev pub IsNfaFault : Option Refusal → NfaConstructionError → Type 0
IsNfaFault found error.NamedCaptures = found ≡ Some refusal.NamedCaptures
IsNfaFault found error.NonGreedy = found ≡ Some refusal.NonGreedy
IsNfaFault found error.LookAround = found ≡ Some refusal.LookAround
IsNfaFault found error.ByteRegex = ⊥
IsNfaFault found error.Memory = Unit {0}
