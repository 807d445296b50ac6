use Rattle.std.proofs.Common.{◌∙◌, ap, map, subst}
use Rattle.lalrpop_lr1_interpret.specs.Interpretations.{IsRightInterpretation}
use Rattle.lalrpop_lr1_interpret.proofs.interpreting.interpret.Goals as goal

pub tree_by_table-requires : goal.tree_by_table-requires
tree_by_table-requires c = record {
  terminals = c.args.terminals.now;
  parsable = c.requires;
  is_table = c.in_ok-table.ensures;
}

pub returns : goal.returns
returns c = λ grammar s alone ok.
    subst (λ l. IsRightInterpretation grammar s c.args.terminals.now c.args.states.now l c.tree_by_table.result)
    (ap (map (λ t. t.terminal)) c.as_slice.ensures.value ∙ c.in_ok-tokens.ensures)
    (c.tree_by_table.ensures grammar s c.args.terminals.now alone ok c.in_ok-table.ensures)
