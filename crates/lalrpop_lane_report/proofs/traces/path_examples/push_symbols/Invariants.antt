use Rattle.std.proofs.Common.{◌≡◌, ◌++◌, map, take}
use Rattle.lalrpop_lane_report.specs.declared.traces.example.ExampleSymbol.TheVariants as shown
use Rattle.lalrpop_lane_report.proofs.traces.path_examples.push_symbols.Given as goal

abbrev pub invariant-loop-symbol : goal.invariant-loop-symbol
invariant-loop-symbol l = l.out.items ≡ l.fn.out.items ++ map shown.Symbol (take l.symbol-index l.symbols)
