-- Calls that are found in rules and in calls, and put behind those that are known.
use Rattle.std.specs.Prelude.{ℕ, ◌≡◌, ◌⊎◌, Bool, List, [], ◌∷◌, ◌++◌, None, Some}
use Rattle.lalrpop_grammar_symbols.specs.Symbols.{Text, Closed, Closeds}
use Rattle.lalrpop_grammar_symbols.specs.Views.{span_view}
use Rattle.lalrpop_grammar.specs.WrittenGrammar.{Rule}
use Rattle.lalrpop_grammar_language.specs.Among.{Among}
use Rattle.lalrpop_grammar_language.specs.Enabled.{EnabledGrammar}
use Rattle.lalrpop_grammar_language.specs.Expansion.{Nonterminal, IsRoot}
use Rattle.lalrpop_norm_theory.specs.Depth.{HasCallChain, IsTooDeep}
use Rattle.lalrpop_norm_theory.specs.Rounds.{AreCallsToDepth}
use Rattle.lalrpop_norm_theory.specs.KeyTables.{IsNoCall}
use Rattle.lalrpop_grammar_repr.specs.declared.session.NormFault.{NormFault}
use Rattle.lalrpop_grammar_repr.specs.declared.session.NormFault.TheVariants as faults
use Rattle.lalrpop_grammar_rules.specs.Views.{closed_view}
use Rattle.lalrpop_norm_keys.specs.Tables.{IsKeyIndex, table_keys}
use Rattle.lalrpop_norm_theory.specs.CallPlaces.{IsPlaceBelow}
use Rattle.lalrpop_norm_keys.specs.Instances.{TellsOfCall}
use Rattle.lalrpop_norm_keys.specs.PlaceSearch.{IsFoundInCalls}
use Rattle.lalrpop_norm_keys.specs.StandingCalls.{CallStandsIn}
use Rattle.lalrpop_norm_keys.specs.declared.rounds.FoundCalls.{FoundCalls}
use Rattle.lalrpop_norm_keys.specs.declared.rounds.FoundCalls.TheVariants as found

-- Behind the known calls stand those that stand in these symbols and weren't known, and no others.
pub record FindsCalls (g : EnabledGrammar) (ys known all : List Closed) : Type 0 where
  pub found : List Closed
  pub all_is : all ≡ known ++ found
  pub stands : (x : Closed) → Among found x → (y : Closed) × Among ys y × CallStandsIn g y x
  pub fresh : (x : Closed) → Among found x → Among known x → ⊥
  pub complete : (y x : Closed) → Among ys y → CallStandsIn g y x → Among all x

-- the rules without parameters, as calls
abbrev pub plain_call_of : Rule → List Text → List Closed
plain_call_of r [] = Closed.call r.name Closeds.none None ∷ []
plain_call_of r (p ∷ ps) = []

abbrev pub plain_calls : List Rule → List Closed
plain_calls [] = []
plain_calls (r ∷ rs) = plain_call_of r r.parameters ++ plain_calls rs

-- each of the symbols is a call
abbrev pub AreCalls : List Closed → Type 0
AreCalls ys = (y : Closed) → Among ys y → IsNoCall y → ⊥

-- something is wrong with a condition of one of the called rules, or memory ran out
abbrev pub TellsOfOneCall : EnabledGrammar → (Text → Bool) → List Closed → NormFault → Type 0
TellsOfOneCall g deep ys faults.Memory = Unit {0}
TellsOfOneCall g deep ys fault =
    (n : Text) × (args : Closeds) × Among ys (Closed.call n args None) × TellsOfCall g deep n args fault

-- the calls that were found stand in a table, each at its text
abbrev pub HasCallIndex : FoundCalls → Type 0
HasCallIndex (found.All calls) = IsKeyIndex calls
HasCallIndex (found.TooDeep x span) = Unit {0}

-- the calls of the grammar, each once, or one that is too deep, with its place in one of the deepest that aren't
abbrev pub HasFoundCalls : EnabledGrammar → ℕ → FoundCalls → Type 0
HasFoundCalls g limit (found.All calls) = IsKeyIndex calls × AreCallsToDepth g limit (table_keys calls) []
HasFoundCalls g limit (found.TooDeep x span) =
    IsTooDeep g limit (closed_view x) × IsPlaceBelow g limit (closed_view x) (span_view span)

-- the call with its place in one of these calls
abbrev pub IsToldAt : EnabledGrammar → List Closed → Closed → FoundCalls → Type 0
IsToldAt g ys x (found.All calls) = ⊥
IsToldAt g ys x (found.TooDeep z span) = (closed_view z ≡ x) × IsFoundInCalls g ys x (Some span)

-- a condition of some rule can't be asked under some arguments; or memory ran out
abbrev pub TellsOfAnyCall : EnabledGrammar → (Text → Bool) → NormFault → Type 0
TellsOfAnyCall g deep faults.Memory = Unit {0}
TellsOfAnyCall g deep fault = (n : Text) × (args : Closeds) × TellsOfCall g deep n args fault

-- a condition of a call that is made, or of a rule, can't be asked; or memory ran out
abbrev pub TellsOfMadeCall : EnabledGrammar → (Text → Bool) → NormFault → Type 0
TellsOfMadeCall g deep faults.Memory = Unit {0}
TellsOfMadeCall g deep fault =
    (n : Text) × (args : Closeds) × (IsRoot g (Nonterminal.closed (Closed.call n args None))
    ⊎ ((k : ℕ) × HasCallChain g k (Closed.call n args None))) × TellsOfCall g deep n args fault
