use Rattle.std.proofs.Common.{◌∙◌, ap, ap₂, map, sym}
use Rattle.std.proofs.lemmas.Bool.{true≢false}
use Rattle.lalrpop_grammar.specs.Trees.{Tree, trees}
use Rattle.lalrpop_run_trees.specs.PartViews.{shown_piece, shown_tree}
use Rattle.lalrpop_run_trees.proofs.ArgumentLemmas.{arguments_view, same_arguments, same_symbols, symbols_view}
use Rattle.lalrpop_run_trees.proofs.ShownPartLemmas.{rule_parts, shown_rule}
use Rattle.lalrpop_run_trees.proofs.tree_parts.tree_part.TreePart.children_of_rule.Goals as goal
use Rattle.lalrpop_run_trees.proofs.tree_parts.tree_part.TreePart.children_of_rule.Goals.{
  else-is_same_rule-via-then-is_same_rule+then-at-place+else-are_same_arguments,
  else-is_same_rule-via-then-is_same_rule+else-at-place,
  else-is_same_rule-via-else-is_same_rule,
}

pub returns-then-are_same_arguments-clause-rule : goal.returns-then-are_same_arguments-clause-rule
returns-then-are_same_arguments-clause-rule c =
    let own = shown_rule c.args.self.piece c.in-Whole.tree.now c.in-Rule.children (ap shown_piece c.in-Whole.is) c.in-Rule.name
    c.in-Rule.given c.in-Rule.at c.in-Rule.is in
    own
    ∙ ap (λ n. Tree.rule n (arguments_view c.in-Rule.given) c.in-Rule.at (trees (map shown_tree c.in-Rule.children)))
    (c.is_same_rule.ensures.0 c.if-is_same_rule.true)
    ∙ ap (λ a. Tree.rule c.args.rule.now.0 a c.in-Rule.at (trees (map shown_tree c.in-Rule.children)))
    (same_arguments c.in-Rule.given c.args.args.now
    (ap symbols_view (sym c.as_slice.ensures) ∙ c.are_same_arguments.ensures.0 c.if-are_same_arguments.true))
    ∙ ap₂ (λ p l. Tree.rule c.args.rule.now.0 (arguments_view c.args.args.now) p (trees (map shown_tree l)))
    c.if-at-place.true (sym c.as_slice-then-are_same_arguments.ensures)

pub returns-else-is_same_rule-clause-none : goal.returns-else-is_same_rule-clause-none
returns-else-is_same_rule-clause-none c = λ ts shown.
    let own = shown_rule c.args.self.piece c.in-Whole.tree.now c.in-Rule.children (ap shown_piece c.in-Whole.is) c.in-Rule.name
    c.in-Rule.given c.in-Rule.at c.in-Rule.is in
    let apart = rule_parts c.in-Rule.name.0 c.args.rule.now.0 (arguments_view c.in-Rule.given) (arguments_view c.args.args.now)
    c.in-Rule.at c.args.place (trees (map shown_tree c.in-Rule.children)) ts (sym own ∙ shown) in
    elim c.else-is_same_rule.branch [
      | else-is_same_rule-via-then-is_same_rule+then-at-place+else-are_same_arguments w ↦
          true≢false (sym (w.are_same_arguments.ensures.1
          (ap symbols_view w.as_slice.ensures ∙ same_symbols c.in-Rule.given c.args.args.now apart.1)) ∙ w.if-are_same_arguments.false)
      | else-is_same_rule-via-then-is_same_rule+else-at-place w ↦ w.if-at-place.false apart.2
      | else-is_same_rule-via-else-is_same_rule w ↦
          true≢false (sym (c.is_same_rule.ensures.1 apart.0) ∙ w.if-is_same_rule.false)
    ]
