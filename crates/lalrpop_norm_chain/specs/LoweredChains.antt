-- What lowering gives for the chain of passes, what it gets of it, and what both give together.
use Rattle.std.specs.Prelude.{Bool, List, Option}
use Rattle.lalrpop_grammar_symbols.specs.Symbols.{Text}
use Rattle.lalrpop_grammar.specs.Views.{grammar_view}
use Rattle.lalrpop_grammar.specs.WrittenGrammar.{Grammar, rules_of}
use Rattle.lalrpop_grammar.specs.declared.grammar.Grammar as program
use Rattle.lalrpop_grammar_repr.specs.declared.types.Types.{Types}
use Rattle.lalrpop_norm_theory.specs.Between.{grammar_between}
use Rattle.lalrpop_norm_prevalidate.specs.Faults.{HasNoCheckFault}
use Rattle.lalrpop_norm_token_check.specs.Checked.{IsTokenChecked}
use Rattle.lalrpop_norm_token_check.specs.Places.{FirstPlaces}
use Rattle.lalrpop_norm_tyinfer.specs.TerminalTypes.{HasTerminalTypes}
use Rattle.lalrpop_norm_tyinfer.specs.TypeFaults.{HasRuleTypes}
use Rattle.lalrpop_norm_lower.specs.Lowered.{IsLowerable, IsLowered, KeepsTheRest}
use Rattle.lalrpop_norm_lower.specs.declared.lowering.Normalized.{Normalized}
use Rattle.lalrpop_norm_chain.specs.Chains.{IsMacroChain}
use Rattle.lalrpop_norm_chain.specs.Lowered.{IsLoweredFrom}
use Rattle.lalrpop_norm_chain.specs.Normalized.{IsNormalized}
use Rattle.lalrpop_norm_chain.specs.LoweredViews.{HasNoTokenizer, HasOneTokenizer, lowered_view}

-- What lowering promises of an expanded grammar is what the chain asks of it, where one tokenizer stands there.
abbrev pub LoweringGoesOn : Type 0
LoweringGoesOn =
    (finds : Text → Text → Option Bool) (g : program.Grammar) (types : Types) (made : Normalized)
    → IsLowerable finds (grammar_view g) types → HasOneTokenizer (grammar_view g)
    → IsLowered (grammar_between finds (grammar_view g)) (grammar_view g) types made → KeepsTheRest g made
    → IsLoweredFrom (grammar_view g) (grammar_between finds (grammar_view g)) types.nonterminal_types (lowered_view made)

-- The passes from the first one on, up to types, of which each gave what it promises.
pub record IsTypeChain (finds : Text → Text → Option Bool) (features : List Text) (w : Grammar) (checked : Grammar) (types : Types) :
    Type 0 where
  pub leveled : Grammar
  pub expanded : Grammar
  pub no_check_fault : HasNoCheckFault w
  pub front : IsMacroChain finds features w leveled expanded
  pub first : FirstPlaces
  pub tokens : IsTokenChecked first expanded checked
  pub rule_types : HasRuleTypes (grammar_between finds checked) (rules_of checked.items) types.nonterminal_types
  pub terminal_types : HasTerminalTypes checked types.terminal_types

-- they leave what lowering rests on
abbrev pub ChainsAreLowerable : Type 0
ChainsAreLowerable =
    (finds : Text → Text → Option Bool) (features : List Text) (w checked : Grammar) (types : Types)
    → IsTypeChain finds features w checked types → IsLowerable finds checked types

-- and where lowering gives what it promises of such, its answer is the normalized grammar, as long as macros bring no tokenizer
abbrev pub LoweredChainsNormalize : Type 0
LoweredChainsNormalize =
    (finds : Text → Text → Option Bool) (features : List Text) (w : Grammar) (g : program.Grammar) (types : Types) (made : Normalized)
    → (c : IsTypeChain finds features w (grammar_view g) types) → HasNoTokenizer c.expanded
    → (IsLowerable finds (grammar_view g) types
    → IsLowered (grammar_between finds (grammar_view g)) (grammar_view g) types made)
    → KeepsTheRest g made → IsNormalized finds features w (lowered_view made)
