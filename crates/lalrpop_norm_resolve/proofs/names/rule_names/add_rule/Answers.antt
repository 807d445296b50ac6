use Rattle.std.proofs.Common.{◌≡◌, ◌∷◌, ◌∙◌, ◌||◌, [], sym, refl, true, false}
use Rattle.std.specs.Str.{bytes_eq}
use Rattle.lalrpop_grammar_symbols.specs.Symbols.{Text}
use Rattle.lalrpop_grammar.specs.Views.{nonterminal_view}
use Rattle.lalrpop_grammar_language.specs.Enabled.{has_text}
use Rattle.lalrpop_grammar_rules.specs.RuleTable.{knows}
use Rattle.lalrpop_norm_theory.specs.Resolving.{has_parameters}
use Rattle.lalrpop_norm_resolve.specs.Searches.{macro_names, plain_names}
use Rattle.lalrpop_norm_resolve.proofs.RuleNameLemmas.{holds_where_ok, macro_test, named_macro, named_plain, no_macro, no_plain}
use Rattle.lalrpop_grammar_symbols.proofs.BoolLemmas.{holds_anyway}
use Rattle.lalrpop_norm_resolve.proofs.names.rule_names.add_rule.Goals as goal

pub returns-then-is_macro_def-clause-plain : goal.returns-then-is_macro_def-clause-plain
returns-then-is_macro_def-clause-plain c =
    let r = nonterminal_view c.args.rule.now in
    let is : has_parameters r ≡ true =
    sym (macro_test c.is_macro_def.result c.args.rule.now.args c.is_macro_def.ensures) ∙ c.if-is_macro_def.true in
    let old = c.args.plain.now in
    holds_anyway _ ((n : Text) → knows old n ≡ (knows old n || has_text n (plain_names (r ∷ []))))
    (λ n. no_plain r n (knows old n) (knows old n) is refl)

pub returns-then-is_macro_def-clause-macros : goal.returns-then-is_macro_def-clause-macros
returns-then-is_macro_def-clause-macros c =
    let r = nonterminal_view c.args.rule.now in
    let is : has_parameters r ≡ true =
    sym (macro_test c.is_macro_def.result c.args.rule.now.args c.is_macro_def.ensures) ∙ c.if-is_macro_def.true in
    let old = c.args.macros.now in
    let new = c.add_name.new.names in
    holds_where_ok _ ((n : Text) → knows new n ≡ (knows old n || bytes_eq n r.name))
    ((n : Text) → knows new n ≡ (knows old n || has_text n (macro_names (r ∷ []))))
    (λ h n. named_macro r n (knows old n) (knows new n) is (h n)) c.add_name.ensures

pub returns-else-is_macro_def-clause-plain : goal.returns-else-is_macro_def-clause-plain
returns-else-is_macro_def-clause-plain c =
    let r = nonterminal_view c.args.rule.now in
    let is : has_parameters r ≡ false =
    sym (macro_test c.is_macro_def.result c.args.rule.now.args c.is_macro_def.ensures) ∙ c.if-is_macro_def.false in
    let old = c.args.plain.now in
    let new = c.add_name-else-is_macro_def.new.names in
    holds_where_ok _ ((n : Text) → knows new n ≡ (knows old n || bytes_eq n r.name))
    ((n : Text) → knows new n ≡ (knows old n || has_text n (plain_names (r ∷ []))))
    (λ h n. named_plain r n (knows old n) (knows new n) is (h n)) c.add_name-else-is_macro_def.ensures

pub returns-else-is_macro_def-clause-macros : goal.returns-else-is_macro_def-clause-macros
returns-else-is_macro_def-clause-macros c =
    let r = nonterminal_view c.args.rule.now in
    let is : has_parameters r ≡ false =
    sym (macro_test c.is_macro_def.result c.args.rule.now.args c.is_macro_def.ensures) ∙ c.if-is_macro_def.false in
    let old = c.args.macros.now in
    holds_anyway _ ((n : Text) → knows old n ≡ (knows old n || has_text n (macro_names (r ∷ []))))
    (λ n. no_macro r n (knows old n) (knows old n) is refl)
