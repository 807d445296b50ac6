-- The lists of which lowering makes its answer.
use Rattle.std.specs.Prelude.{◌≡◌, List, [], map}
use Rattle.std.specs.List.Sorted.{IsStrictlySortedBy}
use Rattle.std.specs.Map.{keys_of}
use Rattle.lalrpop_grammar_symbols.specs.contracts.names.NonterminalStringOrd.TheImpl as names
use Rattle.lalrpop_grammar_symbols.specs.contracts.terminal.TerminalStringOrd.TheImpl as terminals
use Rattle.lalrpop_grammar_symbols.specs.declared.names.NonterminalString.{NonterminalString}
use Rattle.lalrpop_grammar_symbols.specs.declared.terminal.TerminalString.{TerminalString}
use Rattle.lalrpop_grammar.specs.Views.{origin_view}
use Rattle.lalrpop_grammar.specs.WrittenGrammar.{Grammar, rules_of}
use Rattle.lalrpop_grammar_repr.specs.declared.production.NonterminalData.{NonterminalData}
use Rattle.lalrpop_grammar_repr.specs.declared.terminal_set.TerminalSet.{TerminalSet}
use Rattle.lalrpop_grammar_repr.specs.declared.types.Types.{Types}
use Rattle.lalrpop_grammar.specs.declared.types.type_repr.TypeRepr.{TypeRepr}
use Rattle.lalrpop_norm_lower.specs.LoweredLists.{lowered_definitions, lowered_entries, lowered_entry_view, lowered_origins}
use Rattle.lalrpop_norm_lower.specs.LoweredLists.{put_entries, rules_with_starts, start_name_entries, start_type_entries, with_places}
use Rattle.lalrpop_norm_lower.specs.declared.lowering.Normalized.{Normalized}

abbrev pub put_names : {X : Type 0} → List (NonterminalString × X) → List (NonterminalString × X) → List (NonterminalString × X)
put_names = put_entries (names.ghosts).cmp

-- the nonterminals are these, put into a map
pub record AreMadeNonterminals (w : Grammar) (made : List (NonterminalString × NonterminalData)) : Type 0 where
  pub entries : List (NonterminalString × NonterminalData)
  pub entries_are : map lowered_entry_view entries ≡ lowered_entries w.prefix (rules_of w.items)
  pub put_in : made ≡ put_names [] entries

-- terminals in their order, each once
abbrev pub AreAscendingTerminals : List TerminalString → Type 0
AreAscendingTerminals = IsStrictlySortedBy (terminals.ghosts).cmp

-- the terminals are those of a table, in its order
pub record IsMadeTerminalSet (table : List (TerminalString × TypeRepr)) (set : TerminalSet) : Type 0 where
  pub ascending : AreAscendingTerminals set.all
  pub all_are : set.all ≡ keys_of table
  pub numbered : set.bits ≡ with_places 0 set.all

pub record IsMadeOfLists (w : Grammar) (types : Types) (made : Normalized) : Type 0 where
  pub nonterminals : AreMadeNonterminals w made.grammar.nonterminals
  pub starts : made.grammar.start_nonterminals ≡ put_names [] (start_name_entries w.prefix (rules_with_starts (rules_of w.items)))
  pub definitions : made.grammar.action_fn_defns ≡ lowered_definitions types.nonterminal_types (rules_of w.items)
  pub origins : map origin_view made.origins ≡ lowered_origins (rules_of w.items)
  pub terminal_types : made.grammar.types.terminal_types ≡ types.terminal_types
  pub nonterminal_types : made.grammar.types.nonterminal_types ≡ put_names types.nonterminal_types
      (start_type_entries types.nonterminal_types w.prefix (rules_with_starts (rules_of w.items)))
  pub terminals : IsMadeTerminalSet types.terminal_types made.grammar.terminals
