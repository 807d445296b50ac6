use Rattle.std.proofs.Common.{◌≡◌, map, length}
use Rattle.lalrpop_grammar.specs.WrittenGrammar.{rules_of}
use Rattle.lalrpop_grammar.specs.Views.{item_view}
use Rattle.lalrpop_grammar.proofs.rules.next_rule.Given as goal

abbrev pub invariant-loop-first : goal.invariant-loop-first
invariant-loop-first l = rules_of (map item_view l.items.now) ≡ rules_of (map item_view l.initial.items.now)

abbrev pub decreases-loop-first : goal.decreases-loop-first
decreases-loop-first l = length l.items.now
