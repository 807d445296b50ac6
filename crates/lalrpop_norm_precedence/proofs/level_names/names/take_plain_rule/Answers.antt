use Rattle.std.proofs.Common.{◌≡◌, ◌∙◌, ap, sym, subst, refl, not, false}
use Rattle.std.specs.Prelude.{if◌then◌else◌}
use Rattle.lalrpop_grammar.specs.Views.{nonterminal_view}
use Rattle.lalrpop_grammar_language.specs.Starts.{has_none}
use Rattle.lalrpop_norm_precedence.specs.GivenNames.{taken_behind_rule}
use Rattle.lalrpop_norm_precedence.specs.TakenViews.{taken_times}
use Rattle.lalrpop_norm_precedence.proofs.StepLemmas.{plain_test}
use Rattle.lalrpop_norm_precedence.proofs.level_names.names.take_plain_rule.Goals as goal

pub returns-else-not-is_macro_def : goal.returns-else-not-is_macro_def
returns-else-not-is_macro_def c =
    let r = nonterminal_view c.args.rule.now in
    let is : has_none r.parameters ≡ false =
    plain_test c.is_macro_def.result c.args.rule.now.args c.is_macro_def.ensures ∙ ap not c.if-not-is_macro_def.false in
    let old = taken_times c.args.taken.now in
    subst (λ b. old ≡ (if b then taken_behind_rule r old else old)) (sym is) refl
