-- The clauses by which names have trees, and by which they lead to others: for the test that nothing barren is reached.
use Rattle.std.specs.Prelude.{ℕ, List, [], ◌∷◌, drop, filter, map, nat_lt}
use Rattle.lalrpop_lr1_first.specs.FirstNumbers.{name_count}
use Rattle.lalrpop_lr1_first.specs.Tables.{symbols_until}
use Rattle.lalrpop_lr1_first.specs.declared.numbered.Numbered.{Numbered}
use Rattle.lalrpop_lr1_first.specs.declared.place.NumberedRule.{NumberedRule}
use Rattle.lalrpop_lr1_first.specs.declared.place.Place.{Place}

-- the numbers below a count of the symbols up to the end of the right side
abbrev pub are_names : ℕ → List Place → List ℕ
are_names count places = filter (λ s. nat_lt s count) (symbols_until places)

-- the names on the rule's right side
abbrev pub names_of_rule : Numbered → NumberedRule → List ℕ
names_of_rule table rule = are_names (name_count table) (drop rule.start table.places.items)

abbrev pub tree_of_rule : Numbered → NumberedRule → List ℕ × ℕ
tree_of_rule table rule = (names_of_rule table rule, rule.left)

abbrev pub reach_of_rule : Numbered → NumberedRule → List (List ℕ × ℕ)
reach_of_rule table rule = map (λ s. (rule.left ∷ [], s)) (names_of_rule table rule)
