use Rattle.std.proofs.Common.{◌≡◌, drop}
use Rattle.std.specs.List.{list_any}
use Rattle.lalrpop_lr1_inline.specs.InliningSteps.{is_place}
use Rattle.lalrpop_lr1_inline.proofs.records.has_named.Given as goal

abbrev pub invariant-loop-symbol : goal.invariant-loop-symbol
invariant-loop-symbol l = list_any (is_place l.name.0) l.symbols ≡ list_any (is_place l.name.0) (drop l.symbol-index l.symbols)
