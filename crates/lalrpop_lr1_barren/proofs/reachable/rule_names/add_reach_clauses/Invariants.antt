use Rattle.std.proofs.Common.{◌≡◌, ◌++◌, ◌∷◌, [], drop, map}
use Rattle.lalrpop_lr1_barren.specs.Clauses.{clause_view}
use Rattle.lalrpop_lr1_barren.proofs.reachable.rule_names.add_reach_clauses.Given as goal

abbrev pub invariant-loop-name : goal.invariant-loop-name
invariant-loop-name l =
    map clause_view l.clauses.items ++ map (λ s. (l.from ∷ [], s)) (drop l.name-index l.names)
    ≡ map clause_view l.initial.clauses.items ++ map (λ s. (l.from ∷ [], s)) l.names
