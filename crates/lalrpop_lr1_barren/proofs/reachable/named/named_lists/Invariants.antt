use Rattle.lalrpop_lr1_barren.specs.NamedLists.{AreNamedLists, production_lists}
use Rattle.lalrpop_lr1_barren.proofs.reachable.named.named_lists.Given as goal

abbrev pub invariant-loop-number : goal.invariant-loop-number
invariant-loop-number l = AreNamedLists l.table (production_lists l.lists.items) l.number
