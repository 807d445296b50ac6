-- Productions after inlining whose labels are told by their actions, and that those of a normalized grammar are such.
use Rattle.std.specs.Prelude.{Bool, Contains, List, Option, length}
use Rattle.std.specs.List.Sorted.{IsStrictlySortedBy}
use Rattle.std.specs.Map.{keys_of}
use Rattle.lalrpop_grammar_symbols.specs.Symbols.{Text}
use Rattle.lalrpop_grammar_symbols.specs.contracts.names.NonterminalStringOrd.TheImpl as names
use Rattle.lalrpop_grammar.specs.WrittenGrammar.{Grammar}
use Rattle.lalrpop_grammar.specs.declared.origin.Origin as choices
use Rattle.lalrpop_grammar_language.specs.Enabled.{EnabledGrammar, enabled_grammar}
use Rattle.lalrpop_grammar_repr.specs.declared.action.ActionFnDefn.{ActionFnDefn}
use Rattle.lalrpop_grammar_repr.specs.declared.grammar.Grammar as repr
use Rattle.lalrpop_norm_chain.specs.Normalized.{IsNormalized}
use Rattle.lalrpop_norm_lower.specs.TableReadiness.{IsReadyForTables}
use Rattle.lalrpop_norm_lower.specs.declared.lowering.Normalized.{Normalized}
use Rattle.lalrpop_norm_chain.specs.LoweredViews.{lowered_view}
use Rattle.lalrpop_lr1_core.specs.TheoryGrammars.{theory_grammar}
use Rattle.lalrpop_lr1_inline.specs.InlinedGrammars.{IsInlinedGrammar}
use Rattle.lalrpop_lr1_theory.specs.Productions.{Production}
use Rattle.lalrpop_run_theory.specs.Expansions.{AreExpansion}
use Rattle.lalrpop_run_trees.specs.ActionLabels.{TellsLabel}

-- The productions are those of the expansion after inlining, and the label of each is told by its action.
pub record AreToldExpansion (g : EnabledGrammar) (prefix : Text) (actions : List ActionFnDefn) (origins : List choices.Origin)
    (grammar : List Production) : Type 0 where
  pub expansion : AreExpansion g prefix (Contains grammar)
  pub tells : (p : Production) → Contains grammar p
      → TellsLabel actions origins p.action (length p.right) (expansion.label_of p.action)

-- The plain productions of a normalized grammar, inlined, are such. The names of its nonterminals ascend, as they do in each map.
abbrev pub ActionsTellLabels : Type 0
ActionsTellLabels =
    (finds : Text → Text → Option Bool) (features : List Text) (w : Grammar) (made : Normalized) (after : repr.Grammar) →
    IsStrictlySortedBy (names.ghosts).cmp (keys_of made.grammar.nonterminals) → IsReadyForTables made.grammar →
    IsNormalized finds features w (lowered_view made) → IsInlinedGrammar made.grammar after →
    AreToldExpansion (enabled_grammar finds features w) w.prefix after.action_fn_defns made.origins (theory_grammar after)
