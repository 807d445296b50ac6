use Rattle.std.proofs.Common.{◌≡◌, ◌+◌, suc, map, drop}
use Rattle.lalrpop_grammar_symbols.specs.Symbols.{syms}
use Rattle.lalrpop_grammar_symbols.specs.Views.{symbol_view}
use Rattle.lalrpop_grammar_language.specs.Closing.{are_sound, close_all, occurrences_in}
use Rattle.lalrpop_grammar_rules.specs.Scopes.{binding_view, scope_view}
use Rattle.lalrpop_grammar_rules.specs.Views.{closed_view, closeds}
use Rattle.lalrpop_grammar_rules.proofs.ClosedListLemmas.{joined}
use Rattle.lalrpop_grammar_rules.proofs.SizeLemmas.{breadth, breadths}
use Rattle.lalrpop_grammar_rules.proofs.closed.closing.+close.Given as goal

abbrev pub decreases-close : goal.decreases-close
decreases-close l = breadth (symbol_view l.symbol.now) + breadth (symbol_view l.symbol.now)

abbrev pub decreases-close_all : goal.decreases-close_all
decreases-close_all l = breadths (syms (map symbol_view l.symbols.now)) + breadths (syms (map symbol_view l.symbols.now))

abbrev pub decreases-close_group : goal.decreases-close_group
decreases-close_group l = suc (breadths (syms (map symbol_view l.symbols.now)) + breadths (syms (map symbol_view l.symbols.now)))

abbrev pub decreases-close_repeat : goal.decreases-close_repeat
decreases-close_repeat l = suc (breadth (symbol_view l.symbol.now) + breadth (symbol_view l.symbol.now))

abbrev pub decreases-close_chosen : goal.decreases-close_chosen
decreases-close_chosen l = suc (breadth (symbol_view l.symbol.now) + breadth (symbol_view l.symbol.now))

abbrev pub decreases-close_named : goal.decreases-close_named
decreases-close_named l = suc (breadth (symbol_view l.symbol.now) + breadth (symbol_view l.symbol.now))

abbrev pub invariant-close_all-loop-symbol : goal.invariant-close_all-loop-symbol
invariant-close_all-loop-symbol l = record {
  so_far : joined (map closed_view l.closings)
      (close_all (scope_view l.scope) l.count (syms (map symbol_view (drop l.symbol-index l.symbols))))
      ≡ close_all (scope_view l.scope) l.before (syms (map symbol_view l.symbols));
  counted : l.count + occurrences_in (binding_view l.scope.binding) l.scope.owner.now
      (syms (map symbol_view (drop l.symbol-index l.symbols)))
      ≡ l.before + occurrences_in (binding_view l.scope.binding) l.scope.owner.now (syms (map symbol_view l.symbols));
  sound : l.are_sound ≡ are_sound (closeds (map closed_view l.closings));
}
