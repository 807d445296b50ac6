use Rattle.std.proofs.Common.{rules, refl}
use Rattle.lalrpop_grammar.specs.Trees.{leaves}
use Rattle.lalrpop_grammar.specs.Views.{grammar_view, tree_view}
use Rattle.lalrpop_grammar_language.specs.Enabled.{enabled_grammar}
use Rattle.lalrpop_grammar_rules.specs.Search.{finds}
use Rattle.lalrpop_judge.specs.Faults.{HasSearch, OnlyWhere}
use Rattle.lalrpop_judge.proofs.StartLemmas.{over_grammar, over_tokens}
use Rattle.lalrpop_judge.proofs.judging.judge_tree.Goals as goal

pub returns-in_err-yes-clause-condition : goal.returns-in_err-yes-clause-condition
returns-in_err-yes-clause-condition c =
    let there : OnlyWhere (HasSearch (enabled_grammar finds c.args.features.now (grammar_view c.args.grammar.now))
    (tree_view c.args.tree.now)) c.in_err-yes.field-0.0 =
    over_grammar finds c.args.features.now (grammar_view c.args.grammar.now) c.in_ok-rules.rules c.in_ok-rules.ensures.of_grammar
    c.args.start.now
    (tree_view c.args.tree.now) c.in_err-yes.field-0.0 c.in_err-yes.ensures.fault in
    search (rules, there)

pub returns-clause-exact : goal.returns-clause-exact
returns-clause-exact c =
    over_tokens finds c.args.features.now (grammar_view c.args.grammar.now) c.in_ok-rules.rules c.in_ok-rules.ensures.of_grammar
    c.args.start.now
    (tree_view c.args.tree.now) (leaves (tree_view c.args.tree.now)) c.in_ok-yes.yes refl c.in_ok-yes.ensures.exact
