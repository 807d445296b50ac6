use Rattle.std.proofs.Common.{◌≡◌, ◌++◌, drop, map}
use Rattle.std.specs.Prelude.{flat_map}
use Rattle.lalrpop_lr1_inline.specs.InliningSteps.{records_of}
use Rattle.lalrpop_lr1_inline.proofs.records.records.Given as goal

abbrev pub invariant-loop-symbol : goal.invariant-loop-symbol
invariant-loop-symbol l =
    flat_map (λ f. map (λ r. f ++ r) (records_of l.name.0 l.productions (drop l.symbol-index l.symbols))) l.fronts.items
    ≡ records_of l.name.0 l.productions l.symbols
