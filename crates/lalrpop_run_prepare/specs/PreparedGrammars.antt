-- What is seen of a prepared grammar, and what it is.
use Rattle.std.specs.Prelude.{◌≡◌, ◌++◌, ℕ, Bool, List, Option, Vec, Contains}
use Rattle.std.specs.List.Sorted.{IsStrictlySortedBy}
use Rattle.std.specs.Map.{keys_of}
use Rattle.std.specs.declared.alloc.Global.{Global}
use Rattle.lalrpop_grammar_symbols.specs.Symbols.{Text}
use Rattle.lalrpop_grammar_symbols.specs.contracts.names.NonterminalStringOrd.TheImpl as names
use Rattle.lalrpop_grammar_symbols.specs.contracts.terminal.TerminalStringOrd.TheImpl as terminal_order
use Rattle.lalrpop_grammar_symbols.specs.declared.names.NonterminalString.{NonterminalString}
use Rattle.lalrpop_grammar.specs.Views.{grammar_view}
use Rattle.lalrpop_grammar.specs.declared.grammar.Grammar.{Grammar}
use Rattle.lalrpop_grammar.specs.declared.origin.Origin.{Origin}
use Rattle.lalrpop_grammar_language.specs.Enabled.{enabled_grammar}
use Rattle.lalrpop_grammar_repr.specs.declared.grammar.Grammar as repr
use Rattle.lalrpop_grammar_repr.specs.declared.session.Session.{Session}
use Rattle.lalrpop_lexer_scan.specs.Scanning.{IsScannerOf}
use Rattle.lalrpop_lexer_scan.specs.declared.scanner.Scanner.{Scanner}
use Rattle.lalrpop_lr1_core.specs.TheoryGrammars.{theory_grammar}
use Rattle.lalrpop_lr1_first.specs.NumberedGrammars.{HasItsTerminals}
use Rattle.lalrpop_lr1_inline.specs.InlinedGrammars.{IsInlinedGrammar}
use Rattle.lalrpop_lr1_theory.specs.CheckedStates.{IsStartAlone}
use Rattle.lalrpop_lr1_theory.specs.ValidItems.{NoneBarren}
use Rattle.lalrpop_run_theory.specs.Barren.{HasNoBarren}
use Rattle.lalrpop_run_trees.specs.LabelTables.{kept_place, label_places, last_place}
use Rattle.lalrpop_run_trees.specs.declared.flat_labels.label_table.LabelTable.{LabelTable}
use Rattle.lalrpop_run_trees.specs.declared.flat_labels.mark.LabelMark.{LabelMark}
use Rattle.lalrpop_norm_chain.specs.Normalized.{IsNormalized}
use Rattle.lalrpop_norm_theory.specs.Premises.{IsReadGrammar}
use Rattle.lalrpop_norm_lower.specs.declared.lowering.Normalized.{Normalized}
use Rattle.lalrpop_norm_chain.specs.LoweredViews.{lowered_view}
use Rattle.lalrpop_run_prepare.specs.NamedGrammars.{StandUnderNames}
use Rattle.lalrpop_run_prepare.specs.ToldExpansions.{AreToldExpansion}
use Rattle.lalrpop_run_prepare.specs.Refused.{IsGenerable}
use Rattle.lalrpop_run_prepare.specs.Tokenizers.{scan_entries}

-- the written grammar with the features and the limit of macros, the rule to start from and its start's name, the plain productions
-- before and after inlining, with the written choices that those before stand for, and the scanner of its tokens
pub record PreparedGrammar : Type 0 where
  pub written : Grammar
  pub session : Session
  pub start : Text
  pub start_name : NonterminalString
  pub lowered : repr.Grammar
  pub origins : List Origin
  pub scanner : Scanner
  pub expansion : repr.Grammar

-- The start stands on no right side, and reaches nothing barren.
pub record MayBeParsedFrom (g : repr.Grammar) (start : NonterminalString) : Type 0 where
  pub alone : IsStartAlone (theory_grammar g) start.0
  pub none_barren : NoneBarren (Contains (theory_grammar g)) start.0

-- Each production stands under the name of its nonterminal, and names ascend; so productions are found by their names.
pub record HasNamedProductions (g : repr.Grammar) : Type 0 where
  pub under : StandUnderNames g.nonterminals
  pub ascending : IsStrictlySortedBy (names.ghosts).cmp (keys_of g.nonterminals)

-- The grammar is as one is read. Nothing is wrong with it, nor with the start, which reaches nothing barren in the expansion before
-- inlining, as it is written.
-- The plain productions are those of its expansion before inlining and after it, where the action of each tells its label, and the scanner cuts by the tokenizer's entries.
pub record IsPrepared (finds : Text → Text → Option Bool) (deep : Text → Bool) (v : PreparedGrammar) : Type 0 where
  pub read : IsReadGrammar (grammar_view v.written)
  pub made : Normalized
  pub lowered_is : made.grammar ≡ v.lowered
  pub origins_are : made.origins ≡ v.origins
  pub generable : IsGenerable finds deep v.session.features.items v.session.macro_recursion_limit v.start (grammar_view v.written)
  pub normalized : IsNormalized finds v.session.features.items (grammar_view v.written) (lowered_view made)
  pub named : HasNamedProductions made.grammar
  pub scans : IsScannerOf v.scanner (scan_entries (lowered_view made).entries)
  pub inlined : IsInlinedGrammar v.lowered v.expansion
  pub none_barren : HasNoBarren (enabled_grammar finds v.session.features.items (grammar_view v.written)) v.start
  pub told : AreToldExpansion (enabled_grammar finds v.session.features.items (grammar_view v.written)) v.written.prefix
      v.expansion.action_fn_defns v.origins (theory_grammar v.expansion)

-- For a grammar as one is read it is prepared. Tables can be made of any, its terminals ascend, its productions are found by their names,
-- and the start may be parsed from.
pub record IsPreparedWhereRead (finds : Text → Text → Option Bool) (deep : Text → Bool) (v : PreparedGrammar) : Type 0 where
  pub name_is : v.start_name.0 ≡ v.written.prefix ++ v.start
  pub terminals : HasItsTerminals v.expansion
  pub ascending : IsStrictlySortedBy (terminal_order.ghosts).cmp v.expansion.terminals.all
  pub named : HasNamedProductions v.expansion
  pub parsed : MayBeParsedFrom v.expansion v.start_name
  pub prepared : IsReadGrammar (grammar_view v.written) → IsPrepared finds deep v

-- the table has the places of the grammar's productions by their flat labels, where so many actions are given ones
abbrev pub AreLabelsOf : repr.Grammar → ℕ → LabelTable → Type 0
AreLabelsOf g given t = (l : Vec LabelMark Global) → kept_place t l ≡ last_place l.items (label_places g given)
