use Rattle.std.proofs.Common.{◌≡◌, ◌++◌, map}
use Rattle.std.specs.Vec.Iter.{into_iter_items}
use Rattle.lalrpop_grammar.specs.Views.{item_view, nonterminal_view}
use Rattle.lalrpop_grammar.specs.WrittenGrammar.{WrittenItem}
use Rattle.lalrpop_norm_precedence.proofs.levels.expanding.put_rules.Given as goal

abbrev pub invariant-loop-rule : goal.invariant-loop-rule
invariant-loop-rule l =
    map item_view l.items ++ map WrittenItem.nonterminal (map nonterminal_view (into_iter_items l.rule-iterator))
    ≡ map item_view l.initial.items ++ map WrittenItem.nonterminal (map nonterminal_view l.fn.rules)
