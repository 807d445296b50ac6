use Rattle.std.proofs.Common.{◌≡◌, ◌∙◌, ap, sym, subst, refl, not, false}
use Rattle.std.specs.Prelude.{IfOk, OnOk, if◌then◌else◌}
use Rattle.lalrpop_grammar.specs.Views.{nonterminal_view}
use Rattle.lalrpop_grammar_language.specs.Starts.{has_none}
use Rattle.lalrpop_norm_precedence.specs.GivenNames.{given_table, taken_behind_rule}
use Rattle.lalrpop_norm_precedence.specs.LevelTables.{rule_levels_view}
use Rattle.lalrpop_norm_precedence.specs.TakenViews.{taken_times}
use Rattle.lalrpop_norm_precedence.proofs.StepLemmas.{plain_test}
use Rattle.lalrpop_grammar_symbols.proofs.BoolLemmas.{holds_anyway}
use Rattle.lalrpop_norm_precedence.proofs.level_names.names.named_rule.Goals as goal

pub returns-then-is_macro_def-clause-named : goal.returns-then-is_macro_def-clause-named
returns-then-is_macro_def-clause-named c =
    let r = nonterminal_view c.args.rule.now in
    let is : has_none r.parameters ≡ false =
    plain_test c.is_macro_def.result c.args.rule.now.args c.is_macro_def.ensures ∙ ap not c.if-is_macro_def.true in
    subst (λ b. IfOk c.named_levels.result (λ table. rule_levels_view table
    ≡ given_table r (if b then taken_times c.args.plain.now else taken_times c.args.macros.now)))
    (sym is) c.named_levels.ensures.named

pub returns-then-is_macro_def-clause-plain : goal.returns-then-is_macro_def-clause-plain
returns-then-is_macro_def-clause-plain c =
    let r = nonterminal_view c.args.rule.now in
    let is : has_none r.parameters ≡ false =
    plain_test c.is_macro_def.result c.args.rule.now.args c.is_macro_def.ensures ∙ ap not c.if-is_macro_def.true in
    let old = taken_times c.args.plain.now in
    subst (λ b. OnOk c.named_levels.result (old ≡ (if b then taken_behind_rule r old else old)))
    (sym is) (holds_anyway c.named_levels.result (old ≡ old) refl)

pub returns-then-is_macro_def-clause-macros : goal.returns-then-is_macro_def-clause-macros
returns-then-is_macro_def-clause-macros c =
    let r = nonterminal_view c.args.rule.now in
    let is : has_none r.parameters ≡ false =
    plain_test c.is_macro_def.result c.args.rule.now.args c.is_macro_def.ensures ∙ ap not c.if-is_macro_def.true in
    let old = taken_times c.args.macros.now in
    subst (λ b. OnOk c.named_levels.result (taken_times c.named_levels.new.taken ≡ (if b then old else taken_behind_rule r old)))
    (sym is) c.named_levels.ensures.taken
