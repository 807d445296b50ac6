use Rattle.std.proofs.Common.{◌≡◌, drop, map}
use Rattle.lalrpop_grammar.specs.Views.{alternative_view}
use Rattle.lalrpop_norm_theory.specs.Between.{name_in_origins}
use Rattle.lalrpop_norm_macros.proofs.key_symbols.by_name.told_name.Given as goal

abbrev pub invariant-loop-alternative : goal.invariant-loop-alternative
invariant-loop-alternative l =
    name_in_origins l.name (map (λ a. a.origin) (map alternative_view l.alternatives))
    ≡ name_in_origins l.name (map (λ a. a.origin) (map alternative_view (drop l.alternative-index l.alternatives)))
