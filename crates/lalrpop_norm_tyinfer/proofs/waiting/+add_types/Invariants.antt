use Rattle.std.proofs.Common.{◌≡◌, ◌++◌, drop, map}
use Rattle.lalrpop_grammar.specs.Views.{type_view, tys}
use Rattle.lalrpop_norm_tyinfer.specs.NamedRules.{names_found, rules_in_types}
use Rattle.lalrpop_norm_tyinfer.specs.ProgramViews.{names_view}
use Rattle.lalrpop_norm_tyinfer.proofs.waiting.+add_types.Given as goal

abbrev pub invariant-add_types-loop-written : goal.invariant-add_types-loop-written
invariant-add_types-loop-written l =
    names_found l.found.items ++ rules_in_types (names_view l.names) (tys (map type_view (drop l.written-index l.types)))
    ≡ names_found l.fn.found.items ++ rules_in_types (names_view l.names) (tys (map type_view l.types))
