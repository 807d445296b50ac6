use Rattle.std.proofs.Common.{◌≡◌, ◌≤◌, length, vec_capacity}
use Rattle.lalrpop_grammar_symbols.specs.SymbolWalks.{most_open, slices_view, symbols_to_come}
use Rattle.lalrpop_grammar_symbols.proofs.symbol_walk.next_subsymbol.Given as goal

abbrev pub invariant-loop-list : goal.invariant-loop-list
invariant-loop-list l = record {
  room : most_open (slices_view l.pending.items) ≤ vec_capacity l.pending;
  same : symbols_to_come (slices_view l.pending.items) ≡ symbols_to_come (slices_view l.initial.pending.items);
}

abbrev pub decreases-loop-list : goal.decreases-loop-list
decreases-loop-list l = length l.pending.items
