-- The rules of each name, listed by the name's number: for the test that all productions of names are there.
use Rattle.std.specs.Prelude.{ℕ, ◌≡◌, ◌↔◌, List, [], Contains, Some, length, slice_get, slice_index_or}
use Rattle.std.specs.Prelude.{Bool}
use Rattle.lalrpop_lr1_least_trees.specs.Searches.{number_lists}
use Rattle.lalrpop_lr1_barren.specs.Clauses.{IsMarked}
use Rattle.lalrpop_lr1_first.specs.FirstNumbers.{name_count}
use Rattle.lalrpop_lr1_first.specs.declared.numbered.Numbered.{Numbered}
use Rattle.lalrpop_lr1_first.specs.declared.place.NumberedRule.{NumberedRule}
use Rattle.lalrpop_lr1_check.specs.BeginLists.{AreBeginLists}
use Rattle.lalrpop_lr1_check.specs.declared.closure.name_lists.NameLists.{NameLists}

-- the rule with this number is the name's
abbrev pub IsRuleOfName : List NumberedRule → ℕ → ℕ → Type 0
IsRuleOfName rules name r = (rule : NumberedRule) × (slice_get rules r ≡ Some rule) × (rule.left ≡ name)

-- the lists, one for each name, have the numbers of its rules
pub record AreRuleLists (table : Numbered) (lists : List (List ℕ)) : Type 0 where
  pub long : length lists ≡ name_count table
  pub rules : (n r : ℕ) → Contains (slice_index_or lists n []) r ↔ IsRuleOfName table.rules.items n r

-- with what the rules of each name begin, and the rules themselves
pub record AreNameLists (table : Numbered) (lists : NameLists) : Type 0 where
  pub begins : AreBeginLists table (number_lists lists.begins.items)
  pub rules : AreRuleLists table (number_lists lists.rules.items)

-- the name of the rule with this number is marked, if there is such a rule
abbrev pub HasMarkedName : List NumberedRule → List Bool → ℕ → Type 0
HasMarkedName rules names r = (rule : NumberedRule) → slice_get rules r ≡ Some rule → IsMarked names rule.left
