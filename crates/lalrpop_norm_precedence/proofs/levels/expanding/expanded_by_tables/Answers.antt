use Rattle.std.proofs.Common.{◌≡◌, ℕ}
use Rattle.std.specs.Prelude.{Bool, Option}
use Rattle.lalrpop_grammar_symbols.specs.Symbols.{Text}
use Rattle.lalrpop_grammar.specs.Views.{grammar_view}
use Rattle.lalrpop_grammar.specs.WrittenGrammar.{rules_of}
use Rattle.lalrpop_grammar.specs.declared.grammar.Grammar.{Grammar}
use Rattle.lalrpop_norm_theory.specs.LeveledGrammar.{leveled_grammar}
use Rattle.lalrpop_norm_precedence.specs.LevelTables.{AreNamedLevels}
use Rattle.lalrpop_norm_precedence.specs.LevelExpansions.{HasPlainNames, IsLevelExpansion, StaysWithoutLevels}
use Rattle.lalrpop_norm_precedence.proofs.LevelLawLemmas.{expanded_by_tables, stays_by_tables}
use Rattle.lalrpop_grammar_symbols.proofs.BoolLemmas.{ok_from}
use Rattle.lalrpop_norm_precedence.proofs.levels.expanding.expanded_by_tables.Goals as goal

pub returns-clause-value : goal.returns-clause-value
returns-clause-value c =
    let g = grammar_view c.args.grammar in
    let ts = c.args.tables.now in
    ok_from
    (λ (made : Grammar). (f : Text → ℕ → Text) → AreNamedLevels f (rules_of g.items) ts
    → grammar_view made ≡ leveled_grammar f g)
    (λ (made : Grammar). (finds : Text → Text → Option Bool) → HasPlainNames finds g
    → IsLevelExpansion finds g (grammar_view made)) _
    (λ made value. λ finds plain.
    expanded_by_tables finds g (grammar_view made) ts c.requires.right plain (c.requires.names finds plain) value)
    c.with_levels.ensures

pub returns-clause-stays : goal.returns-clause-stays
returns-clause-stays c =
    let g = grammar_view c.args.grammar in
    let ts = c.args.tables.now in
    ok_from
    (λ (made : Grammar). (f : Text → ℕ → Text) → AreNamedLevels f (rules_of g.items) ts
    → grammar_view made ≡ leveled_grammar f g)
    (λ (made : Grammar). StaysWithoutLevels g (grammar_view made)) _
    (λ made value. stays_by_tables g (grammar_view made) ts c.requires.order value)
    c.with_levels.ensures
