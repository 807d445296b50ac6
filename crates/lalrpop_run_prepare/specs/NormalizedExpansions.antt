-- What the theory of tables sees of a normalized grammar, before and after inlining: the productions of the written grammar's expansion.
use Rattle.std.specs.Prelude.{Bool, Contains, List, Option}
use Rattle.std.specs.List.Sorted.{IsStrictlySortedBy}
use Rattle.std.specs.Map.{keys_of}
use Rattle.lalrpop_grammar_symbols.specs.Symbols.{Text}
use Rattle.lalrpop_grammar_symbols.specs.contracts.names.NonterminalStringOrd.TheImpl as names
use Rattle.lalrpop_grammar.specs.WrittenGrammar.{Grammar}
use Rattle.lalrpop_grammar_language.specs.Enabled.{enabled_grammar}
use Rattle.lalrpop_grammar_repr.specs.declared.grammar.Grammar as repr
use Rattle.lalrpop_norm_chain.specs.Normalized.{IsNormalized}
use Rattle.lalrpop_norm_lower.specs.TableReadiness.{IsReadyForTables}
use Rattle.lalrpop_norm_lower.specs.declared.lowering.Normalized.{Normalized}
use Rattle.lalrpop_norm_chain.specs.LoweredViews.{lowered_view}
use Rattle.lalrpop_lr1_core.specs.TheoryGrammars.{theory_grammar}
use Rattle.lalrpop_lr1_inline.specs.InlinedGrammars.{IsInlinedGrammar}
use Rattle.lalrpop_run_theory.specs.Expansions.{AreBaseExpansion, AreExpansion}

-- The plain productions of a normalized grammar are those of the expansion before inlining. The names of its nonterminals ascend, as
-- they do in each map.
abbrev pub NormalizedAreBaseExpansion : Type 0
NormalizedAreBaseExpansion =
    (finds : Text → Text → Option Bool) (features : List Text) (w : Grammar) (made : Normalized) →
    IsStrictlySortedBy (names.ghosts).cmp (keys_of made.grammar.nonterminals) → IsReadyForTables made.grammar →
    IsNormalized finds features w (lowered_view made) →
    AreBaseExpansion (enabled_grammar finds features w) w.prefix (Contains (theory_grammar made.grammar))

-- and inlined they are those after inlining
abbrev pub InlinedAreExpansion : Type 0
InlinedAreExpansion =
    (finds : Text → Text → Option Bool) (features : List Text) (w : Grammar) (made : Normalized) (after : repr.Grammar) →
    IsStrictlySortedBy (names.ghosts).cmp (keys_of made.grammar.nonterminals) → IsReadyForTables made.grammar →
    IsNormalized finds features w (lowered_view made) → IsInlinedGrammar made.grammar after →
    AreExpansion (enabled_grammar finds features w) w.prefix (Contains (theory_grammar after))
