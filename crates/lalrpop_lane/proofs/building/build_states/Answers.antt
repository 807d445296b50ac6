use Rattle.std.proofs.Common.{◌∙◌, List, ap, length, subst, sym, true, ℕ}
use Rattle.lalrpop_lr1_theory.specs.CheckedStates.{AreCheckedStates}
use Rattle.lalrpop_lr1_core.specs.declared.state.State.{State}
use Rattle.lalrpop_lr1_core.specs.TheoryGrammars.{theory_grammar}
use Rattle.lalrpop_lr1_build.specs.CollapseAnswers.{states_over}
use Rattle.lalrpop_lr1_theory.proofs.RenumberLemmas.{renumbered_checked}
use Rattle.lalrpop_lane.specs.BuilderAnswers.{AreAskedInOrder}
use Rattle.lalrpop_lane.specs.GotoNumbers.{fronts_of, goto_numbers, in_goto_order}
use Rattle.lalrpop_lane.proofs.CoreCountLemmas.{as_many_for_cores}
use Rattle.lalrpop_lane.proofs.OrderLemmas.{ordered_fronts, ordered_length, ordered_renumbered}
use Rattle.lalrpop_lane.proofs.building.build_states.Goals as goal

pub returns-clause-states : goal.returns-clause-states
returns-clause-states c =
    let g = c.args.grammar.now in
    let old = c.in_ok-states.states.items in
    subst (AreAskedInOrder g.algorithm.lalr c.args.method g c.args.start) (sym c.in_ok-ordered.ensures) (record {
      asked = old;
      numbers = goto_numbers (fronts_of true old);
      are_asked = c.in_ok-states.ensures.states;
      in_order = ordered_fronts g.terminals old;
      renumbered = ordered_renumbered g.terminals old c.in_ok-states.ensures.targets;
    })

pub returns-clause-checked : goal.returns-clause-checked
returns-clause-checked c = λ nb alone.
    let g = c.args.grammar.now in
    let old = c.in_ok-states.states.items in
    subst (λ (l : List (State (List ℕ))). AreCheckedStates (theory_grammar g) c.args.start.0 (states_over g.terminals l))
    (sym c.in_ok-ordered.ensures)
    (renumbered_checked (theory_grammar g) c.args.start.0 (states_over g.terminals old) (states_over g.terminals (in_goto_order old))
    (goto_numbers (fronts_of true old)) (ordered_renumbered g.terminals old c.in_ok-states.ensures.targets)
    (c.in_ok-states.ensures.checked nb alone))

pub returns-clause-for_each_core : goal.returns-clause-for_each_core
returns-clause-for_each_core c =
    let old = c.in_ok-states.states in
    as_many_for_cores c.args.method c.args.grammar.now c.args.start old c.in_ok-ordered.ordered
    (ap length c.in_ok-ordered.ensures ∙ ordered_length old.items) c.in_ok-states.ensures.for_each_core
