-- Rules that are read from a list, as definitions see them: for the search and for moves.
use Rattle.std.proofs.Common.{◌≡◌, ℕ, zero, suc, ◌<◌, List, [], ◌∷◌, length, get_or, ap, sym, refl, arith, Some}
use Rattle.std.proofs.Common.{slice_get}
use Rattle.lalrpop_lr1_least_trees.specs.declared.least_counts.rule.Rule.{Rule}
use Rattle.lalrpop_lr1_least_trees.specs.NumberedTrees.{rule_view, rule_views}

-- a rule that is read at a place of the list stands there as definitions see the rules
pub rule_at : (rules : List Rule) (n : ℕ) (rule : Rule) → n < length rules → rule ≡ get_or rules n rule →
    slice_get (rule_views rules) n ≡ Some (rule_view rule)
rule_at [] n rule h e = absurd (omega arith)
rule_at (x ∷ rules) zero rule h e = ap (λ (r : Rule). Some (rule_view r)) (sym e)
rule_at (x ∷ rules) (suc n) rule h e = rule_at rules n rule (omega arith) e

-- as definitions see them, there are as many rules as the list has
pub views_long : (rules : List Rule) → length (rule_views rules) ≡ length rules
views_long [] = refl
views_long (x ∷ rules) = ap suc (views_long rules)
