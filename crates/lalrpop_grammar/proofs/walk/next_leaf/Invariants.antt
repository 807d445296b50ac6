use Rattle.std.proofs.Common.{◌≡◌, ◌≤◌, vec_capacity}
use Rattle.lalrpop_grammar.specs.Walks.{open_through, to_come}
use Rattle.lalrpop_grammar.specs.WalkViews.{lists_view}
use Rattle.lalrpop_grammar.proofs.WalkLemmas.{steps_through}
use Rattle.lalrpop_grammar.proofs.walk.next_leaf.Given as goal

abbrev pub invariant-loop-list : goal.invariant-loop-list
invariant-loop-list l = record {
  room : open_through (lists_view l.pending.items) ≤ vec_capacity l.pending;
  same : to_come (lists_view l.pending.items) ≡ to_come (lists_view l.initial.pending.items);
}

abbrev pub decreases-loop-list : goal.decreases-loop-list
decreases-loop-list l = steps_through (lists_view l.pending.items)
