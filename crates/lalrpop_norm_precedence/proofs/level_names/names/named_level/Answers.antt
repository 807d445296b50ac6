use Rattle.std.proofs.Common.{◌≡◌, ap}
use Rattle.lalrpop_grammar.specs.Views.{nonterminal_view}
use Rattle.lalrpop_grammar_rules.specs.RuleTable.{knows}
use Rattle.lalrpop_norm_precedence.specs.GivenNames.{given_name}
use Rattle.lalrpop_norm_precedence.specs.TakenViews.{taken_times}
use Rattle.lalrpop_norm_precedence.proofs.StepLemmas.{name_given}
use Rattle.lalrpop_norm_precedence.proofs.level_names.names.named_level.Goals as goal

pub returns-clause-named : goal.returns-clause-named
returns-clause-named c =
    let r = nonterminal_view c.args.rule.now in
    let text = c.in_ok-text.text in
    let is : c.in_ok-name.name ≡ given_name r (taken_times c.args.taken.now) c.args.level =
    name_given r c.args.level c.in_ok-time.time text c.in_ok-name.name (taken_times c.args.taken.now)
    (taken_times c.take_parameter.new.taken) (taken_times c.take.new.self) (knows c.args.parameters.now text) c.in_ok-text.ensures
    (c.requires text) c.in_ok-take_parameter.ensures c.in_ok-time.ensures.taken c.in_ok-time.ensures.number c.in_ok-name.ensures in
    ap (λ n. (c.args.level, n)) is
