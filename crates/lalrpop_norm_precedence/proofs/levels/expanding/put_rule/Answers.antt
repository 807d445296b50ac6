use Rattle.std.proofs.Common.{map}
use Rattle.lalrpop_grammar.specs.Views.{item_view, nonterminal_view}
use Rattle.lalrpop_norm_precedence.proofs.PutLemmas.{puts_rule}
use Rattle.lalrpop_norm_precedence.proofs.levels.expanding.put_rule.Goals as goal

pub returns : goal.returns
returns c = λ f more named.
    puts_rule (nonterminal_view c.args.rule) c.in-Some.levels.now c.args.tables.now c.in-Some.left.now (map item_view c.args.items.now)
    (map item_view c.put_leveled_rule.new.items) c.in-Some.ensures.cases.0 c.in_ok-put_leveled_rule.ensures f more named
