use Rattle.std.proofs.Common.{◌∙◌, Contains, ap, length, subst, sym}
use Rattle.lalrpop_lr1_theory.specs.Answers.{IsRightParseAnswer, tree}
use Rattle.lalrpop_lr1_theory.specs.Spans.{leaf_spans, without_spans}
use Rattle.lalrpop_lr1_theory.specs.Trees.{roots}
use Rattle.lalrpop_lr1_interpret.specs.Ends.{terminals_of}
use Rattle.lalrpop_lr1_interpret.proofs.parse.action_table.ActionTable.parse.Goals as goal

pub into_tree-requires : goal.into_tree-requires
into_tree-requires c =
    let q = c.requires in
    let made = c.in_ok-parse_onto.ensures.right q.grammar q.start q.states q.alone q.checked q.is_table in
    ap (λ f. length (roots (without_spans f))) made.stands ∙ ap length made.right.0.0

pub returns-clause-right : goal.returns-clause-right
returns-clause-right c = λ grammar s states alone ok is.
    let made = c.in_ok-parse_onto.ensures.right grammar s states alone ok is in
    let w = terminals_of c.args.tokens.now in
    let whole = c.into_tree.ensures ∙ made.stands in (
      subst (λ t. IsRightParseAnswer (Contains grammar) s w c.args.limit (tree (without_spans t))) (sym whole) made.right,
      ap leaf_spans whole ∙ made.spans_are,
    )
