-- Clauses and marks as rules for trees: a number follows where it has a tree. For closing marks.
use Rattle.std.specs.Prelude.{ℕ, zero, suc, Bool, List, [], ◌∷◌, ◌++◌, if◌then◌else◌}
use Rattle.lalrpop_lr1_least_trees.specs.NumberedTrees.{NumberRule}
use Rattle.lalrpop_lr1_barren.specs.Clauses.{has_mark}
use Rattle.lalrpop_lr1_barren.specs.declared.reachable.clauses.Clause.{Clause}

abbrev pub rule_of_clause : Clause → NumberRule
rule_of_clause c = record { left = c.gives; right = c.needs.items }

-- a rule without symbols
abbrev pub seed_rule : ℕ → NumberRule
seed_rule n = record { left = n; right = [] }

-- one for each number below a count that is marked
abbrev pub marked_rules : List Bool → ℕ → List NumberRule
marked_rules marks zero = []
marked_rules marks (suc n) = marked_rules marks n ++ (if has_mark marks n then seed_rule n ∷ [] else [])
