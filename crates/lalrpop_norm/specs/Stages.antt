-- What the passes behind macros give together, and what they tell.
use Rattle.std.specs.Prelude.{Bool, List, Option}
use Rattle.lalrpop_grammar_symbols.specs.Symbols.{Text}
use Rattle.lalrpop_grammar.specs.WrittenGrammar.{Grammar, rules_of}
use Rattle.lalrpop_grammar_repr.specs.declared.session.NormFault.{NormFault}
use Rattle.lalrpop_lexer.specs.Simulation.{Decides, StateView}
use Rattle.lalrpop_norm_prevalidate.specs.Faults.{HasNoCheckFault}
use Rattle.lalrpop_norm_token_check.specs.Checked.{IsTokenChecked}
use Rattle.lalrpop_norm_token_check.specs.Faults.{IsTokenFault}
use Rattle.lalrpop_norm_token_check.specs.Patterns.{entry_patterns, entry_precedences}
use Rattle.lalrpop_norm_token_check.specs.Places.{FirstPlaces}
use Rattle.lalrpop_norm_tyinfer.specs.TypeFaults.{HasNoTypeFault, IsTypeFault, WhereExpanded}
use Rattle.lalrpop_norm_lower.specs.LowerFaults.{HasFewActions, IsLowerFault}
use Rattle.lalrpop_norm_chain.specs.Chains.{IsMacroChain}
use Rattle.lalrpop_norm_chain.specs.Lowered.{LoweredGrammar}
use Rattle.lalrpop_norm_chain.specs.Normalized.{IsNormalized}
use Rattle.lalrpop_norm_chain.specs.LoweredViews.{HasNoTokenizer}

-- Where the expanded grammar is what the passes up to macros make of a written one without fault of the first pass, and has no
-- tokenizer, the lowered one is normalized.
abbrev pub IsNormalizedWhereRead : Grammar → LoweredGrammar → Type 0
IsNormalizedWhereRead expanded v =
    (finds : Text → Text → Option Bool) (features : List Text) (w leveled : Grammar) → HasNoCheckFault w
    → IsMacroChain finds features w leveled expanded → HasNoTokenizer expanded → IsNormalized finds features w v

-- The automaton decides the patterns of the lowered grammar's entries by their precedences, where no tokenizer was there before.
abbrev pub DecidesEntriesOf : Grammar → LoweredGrammar → List StateView → Type 0
DecidesEntriesOf expanded v dfa =
    HasNoTokenizer expanded → Decides dfa (entry_patterns v.entries) (entry_precedences v.entries)

-- No fault of tokens or types stands in the expanded grammar, and its actions are few enough.
pub record HasNoLaterFault (first : FirstPlaces) (expanded : Grammar) : Type 0 where
  pub checked : Grammar
  pub tokens : IsTokenChecked first expanded checked
  pub types : WhereExpanded checked (λ e. HasNoTypeFault e (rules_of checked.items))
  pub few : HasFewActions checked

-- A fault of tokens, or where none stands one of types, or where none stands either too many actions; or memory ran out.
pub data IsLaterFault (first : FirstPlaces) (expanded : Grammar) (fault : NormFault) : Type 0 where
  of_tokens : IsTokenFault first expanded fault → IsLaterFault first expanded fault
  of_types : (checked : Grammar) → IsTokenChecked first expanded checked → IsTypeFault checked fault
      → IsLaterFault first expanded fault
  of_actions : (checked : Grammar) → IsTokenChecked first expanded checked
      → WhereExpanded checked (λ e. HasNoTypeFault e (rules_of checked.items)) → IsLowerFault checked fault
      → IsLaterFault first expanded fault
