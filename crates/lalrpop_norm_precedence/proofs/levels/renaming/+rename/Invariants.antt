use Rattle.std.proofs.Common.{◌≡◌, ◌+◌, ◌*◌, ◌++◌, map, drop}
use Rattle.lalrpop_grammar_symbols.specs.Symbols.{syms}
use Rattle.lalrpop_grammar_symbols.specs.Views.{symbol_view}
use Rattle.lalrpop_grammar_language.specs.Closing.{occurrences_in}
use Rattle.lalrpop_grammar_rules.specs.Scopes.{binding_view}
use Rattle.lalrpop_grammar_rules.proofs.SizeLemmas.{breadth, breadths}
use Rattle.lalrpop_norm_precedence.specs.Occurrences.{symbols_under}
use Rattle.lalrpop_norm_precedence.proofs.levels.renaming.+rename.Given as goal

abbrev pub decreases-rename : goal.decreases-rename
decreases-rename l = 2 * breadth (symbol_view l.symbol.now)

abbrev pub decreases-rename_call : goal.decreases-rename_call
decreases-rename_call l = 2 * breadths (syms (map symbol_view l.args.now)) + 1

abbrev pub decreases-rename_all : goal.decreases-rename_all
decreases-rename_all l = 2 * breadths (syms (map symbol_view l.symbols.now))

abbrev pub invariant-rename_all-loop-symbol : goal.invariant-rename_all-loop-symbol
invariant-rename_all-loop-symbol l = record {
  so_far : map symbol_view l.made ++ symbols_under l.occurrences l.count (map symbol_view (drop l.symbol-index l.symbols))
      ≡ symbols_under l.occurrences l.before (map symbol_view l.symbols);
  counted : l.count + occurrences_in (binding_view l.occurrences.binding) l.occurrences.owner.now
      (syms (map symbol_view (drop l.symbol-index l.symbols)))
      ≡ l.before + occurrences_in (binding_view l.occurrences.binding) l.occurrences.owner.now (syms (map symbol_view l.symbols));
}
