use Rattle.std.proofs.Common.{◌∙◌, ap, map, subst}
use Rattle.lalrpop_lr1_interpret.specs.Interpretations.{AreRightStates}
use Rattle.lalrpop_lr1_interpret.proofs.interpreting.interpret_partial.Goals as goal

pub states_by_table-requires : goal.states_by_table-requires
states_by_table-requires c = record {
  terminals = c.args.terminals.now;
  parsable = c.requires;
  is_table = c.in_ok-table.ensures;
}

pub returns : goal.returns
returns c = λ grammar s alone ok.
    subst (λ l. AreRightStates grammar s c.args.terminals.now c.args.states.now l c.states_by_table.result)
    (ap (map (λ t. t.terminal)) c.as_slice.ensures.value ∙ c.in_ok-tokens.ensures)
    (c.states_by_table.ensures grammar s c.args.terminals.now alone ok c.in_ok-table.ensures)
