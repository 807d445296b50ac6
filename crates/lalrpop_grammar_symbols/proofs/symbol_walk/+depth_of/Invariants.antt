use Rattle.std.proofs.Common.{◌≡◌, ◌-◌, ◌^◌, take, min}
use Rattle.lalrpop_grammar_symbols.specs.Subsymbols.{symbols_depth}
use Rattle.lalrpop_grammar_symbols.specs.SymbolWalks.{symbols_view}
use Rattle.lalrpop_grammar_symbols.proofs.symbol_walk.+depth_of.Given as goal

abbrev pub decreases-depth_of : goal.decreases-depth_of
decreases-depth_of l = symbols_depth (symbols_view l.symbols.now)

abbrev pub invariant-loop-symbol : goal.invariant-loop-symbol
invariant-loop-symbol l = l.deepest ≡ min (symbols_depth (symbols_view (take l.symbol-index l.symbols))) (2 ^ 64 - 1)
