use Rattle.std.proofs.Common.{◌∙◌, false, map}
use Rattle.lalrpop_lr1_core.specs.Views.{lr_state_view, token_lookahead}
use Rattle.lalrpop_lr1_interpret.specs.Interpretations.{move_limit}
use Rattle.lalrpop_lr1_interpret.proofs.InterpretLemmas.{halt_within, part_fault_right, states_right}
use Rattle.lalrpop_lr1_interpret.proofs.interpreting.states_by_table.Goals as goal

pub returns-in_ok-indexes_of-in-Ok : goal.returns-in_ok-indexes_of-in-Ok
returns-in_ok-indexes_of-in-Ok c = λ grammar s ts alone ok is.
    states_right grammar s ts c.args.states.now alone ok c.args.tokens.now c.in-Ok.numbers.items
    (map (λ i. i.0) c.in_ok-indexes_of-in-Ok.field-0.items)
    (c.in-Ok.ensures.ends grammar s (map (lr_state_view (token_lookahead ts)) c.args.states.now) alone ok is)
    (c.in_ok-indexes_of-in-Ok.ensures ∙ c.as_slice.ensures.value)

pub fault_of-requires : goal.fault_of-requires
fault_of-requires c =
    let q = c.requires in
    let states = map (lr_state_view (token_lookahead q.terminals)) c.args.states.now in
    halt_within c.args.table.now c.args.states.now q c.args.tokens.now move_limit false (λ _ _. Unit {0}) c.in-Err.halt
    (c.in-Err.ensures.ends q.parsable.grammar q.parsable.start states q.parsable.alone q.parsable.checked q.is_table)

pub returns-in-Err : goal.returns-in-Err
returns-in-Err c = λ grammar s ts alone ok is.
    part_fault_right grammar s ts c.args.states.now alone ok c.args.tokens.now (λ _ _. Unit {0}) c.in-Err.halt c.fault_of.result
    (c.in-Err.ensures.ends grammar s (map (lr_state_view (token_lookahead ts)) c.args.states.now) alone ok is) c.fault_of.ensures
