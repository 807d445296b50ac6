-- What the passes behind macros give, put together; for these passes.
use Rattle.std.proofs.Common.{◌≡◌, List, ap, sym, ◌∙◌, subst, Bool}
use Rattle.std.specs.Prelude.{Option, map}
use Rattle.lalrpop_grammar_symbols.specs.Symbols.{Text}
use Rattle.lalrpop_grammar.specs.Views.{grammar_view, intern_entry_view}
use Rattle.lalrpop_grammar.specs.WrittenGrammar.{Grammar, InternEntry, rules_of}
use Rattle.lalrpop_grammar.specs.declared.grammar.Grammar as program
use Rattle.lalrpop_grammar_repr.specs.declared.types.Types.{Types}
use Rattle.lalrpop_lexer.specs.Simulation.{Decides, StateView}
use Rattle.lalrpop_norm_theory.specs.Between.{grammar_between}
use Rattle.lalrpop_norm_theory.specs.Premises.{IsExpanded}
use Rattle.lalrpop_norm_token_check.specs.Checked.{DecidesEntries, IsTokenChecked}
use Rattle.lalrpop_norm_token_check.specs.Patterns.{entry_patterns, entry_precedences}
use Rattle.lalrpop_norm_token_check.specs.Places.{FirstPlaces}
use Rattle.lalrpop_norm_tyinfer.specs.TerminalTypes.{HasTerminalTypes}
use Rattle.lalrpop_norm_tyinfer.specs.TypeFaults.{HasRuleTypes, WhereExpanded}
use Rattle.lalrpop_norm_lower.specs.Lowered.{IsLowerable, IsLowered, KeepsTheRest}
use Rattle.lalrpop_norm_lower.specs.declared.lowering.Normalized.{Normalized}
use Rattle.lalrpop_norm_chain.proofs.ChainLemmas.{between_behind}
use Rattle.lalrpop_norm_chain.specs.LoweredViews.{first_entries, lowered_view}
use Rattle.lalrpop_norm_chain.specs.LoweredChains.{IsTypeChain}
use Rattle.lalrpop_norm_chain.proofs.EntryLemmas.{first_behind, first_is}
use Rattle.lalrpop_norm_chain.proofs.PremiseLemmas.{chain_normalized, lowerable}
use Rattle.lalrpop_norm.specs.Stages.{DecidesEntriesOf, IsNormalizedWhereRead}

module _ (first : FirstPlaces) (expanded : Grammar) (g : program.Grammar) (tokens : IsTokenChecked first expanded (grammar_view g))
    (types : Types) (made : Normalized) (kept : KeepsTheRest g made) where
  abbrev checked : Grammar
  checked = grammar_view g

  -- where the passes before gave what they promise
  pub normalized_where_read : WhereExpanded checked (λ e. HasRuleTypes e (rules_of checked.items) types.nonterminal_types)
      → HasTerminalTypes checked types.terminal_types
      → ((finds : Text → Text → Option Bool) → IsLowerable finds checked types
      → IsLowered (grammar_between finds checked) checked types made)
      → IsNormalizedWhereRead expanded (lowered_view made)
  normalized_where_read rule_types terminal_types lowered = λ finds features w leveled right front none.
      let still : IsExpanded (grammar_between finds checked) =
      subst IsExpanded
      (sym (ap (grammar_between finds) tokens.whole ∙ between_behind finds tokens.entries expanded)) front.macros.expanded in
      let c : IsTypeChain finds features w checked types = record {
        leveled = leveled;
        expanded = expanded;
        no_check_fault = right;
        front = front;
        first = first;
        tokens = tokens;
        rule_types = rule_types finds still;
        terminal_types = terminal_types;
      } in
      chain_normalized finds features w g types made c none (lowered finds (lowerable finds features w checked types c)) kept

  -- the entries are those of the token check, where no tokenizer was there
  pub decides_where_none : (dfa : List StateView) → DecidesEntries expanded dfa → DecidesEntriesOf expanded (lowered_view made) dfa
  decides_where_none dfa d none =
      let same : (lowered_view made).entries ≡ tokens.entries =
      ap (map intern_entry_view) kept.entries ∙ first_is g.items ∙ ap (λ (x : Grammar). first_entries x.items) tokens.whole
      ∙ first_behind expanded.items tokens.entries none in
      subst (λ (es : List InternEntry). Decides dfa (entry_patterns es) (entry_precedences es)) (sym same)
      (d tokens.entries tokens.are_checked.are_full.listed)
