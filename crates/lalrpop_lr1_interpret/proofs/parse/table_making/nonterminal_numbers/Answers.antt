use Rattle.std.proofs.Common.{map}
use Rattle.lalrpop_lr1_interpret.proofs.RowLemmas.{go_on_both, none_has_two, still_actions, still_productions}
use Rattle.lalrpop_lr1_interpret.proofs.parse.table_making.nonterminal_numbers.Goals as goal

pub returns-clause-actions : goal.returns-clause-actions
returns-clause-actions c =
    let acts = c.number_acts.new.names.keys in
    let names = c.number_nonterminals.new.names.keys in
    still_actions acts names (map (λ e. e.act) c.args.entries.now) c.in_ok-actions.actions.items
    (go_on_both acts c.number_productions.new.names.keys names c.in_ok-ends.ensures.others c.in_ok-goto_keys.ensures.others)
    c.in_ok-actions.ensures.actions

pub returns-clause-ends : goal.returns-clause-ends
returns-clause-ends c =
    still_productions c.number_productions.new.names.keys c.number_nonterminals.new.names.keys c.args.ends.now c.in_ok-ends.ends.items
    c.in_ok-goto_keys.ensures.others c.in_ok-ends.ensures.numbered

pub returns-clause-one : goal.returns-clause-one
returns-clause-one c =
    c.in_ok-goto_keys.ensures.others.apart (c.in_ok-ends.ensures.others.apart (c.in_ok-actions.ensures.others.apart
    (none_has_two c.new-nonterminals.result.keys c.new-nonterminals.ensures.empty)))
