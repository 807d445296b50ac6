use Rattle.std.proofs.Common.{◌≡◌, ◌∙◌, ◌∷◌, [], ap, length, subst, sym, true}
use Rattle.lalrpop_lr1_first.specs.FirstNumbers.{name_count}
use Rattle.lalrpop_lr1_least_trees.specs.LeastTrees.{AreLeast}
use Rattle.lalrpop_lr1_least_trees.specs.NumberedTrees.{NamesAreBelow, rule_views}
use Rattle.lalrpop_lr1_least_trees.specs.DerivedRules.{all_names}
use Rattle.lalrpop_lr1_least_trees.proofs.BeginLemmas.{derived_moves, derived_names}
use Rattle.lalrpop_lr1_least_trees.proofs.begin_trees.begin_trees.BeginTrees.numbered_moves.Goals as goal

pub least_moves-requires-clause-names : goal.least_moves-requires-clause-names
least_moves-requires-clause-names c =
    let it = c.args.self.now in
    let long : length c.as_slice.result.now ≡ all_names (name_count it.trees.now.table) =
    ap length c.as_slice.ensures.value ∙ c.requires.least.count in
    subst (λ k. NamesAreBelow k (rule_views c.as_slice-rules.result.now)) (sym long)
    (subst (λ rs. NamesAreBelow (all_names (name_count it.trees.now.table)) (rule_views rs)) (sym c.as_slice-rules.ensures.value)
    (derived_names it.trees.now c.requires.trees it.wanted c.requires.terminal c.requires.wanted it.derived c.requires.derived))

pub least_moves-requires-clause-least : goal.least_moves-requires-clause-least
least_moves-requires-clause-least c =
    let it = c.args.self.now in
    let long : length c.as_slice.result.now ≡ all_names (name_count it.trees.now.table) =
    ap length c.as_slice.ensures.value ∙ c.requires.least.count in
    subst (λ k. AreLeast (rule_views c.as_slice-rules.result.now) k true c.as_slice.result.now) (sym long)
    (subst (λ rs. AreLeast (rule_views rs) (all_names (name_count it.trees.now.table)) true c.as_slice.result.now)
    (sym c.as_slice-rules.ensures.value)
    (subst (λ es. AreLeast (rule_views it.derived.rules.items) (all_names (name_count it.trees.now.table)) true es)
    (sym c.as_slice.ensures.value) c.requires.least))

pub returns : goal.returns
returns c =
    derived_moves c.args.self.now c.requires c.as_slice-rules.result.now c.as_slice.result.now c.as_slice-rules.ensures.value
    c.as_slice.ensures.value (c.args.number ∷ []) _ c.in_ok-moves.ensures
