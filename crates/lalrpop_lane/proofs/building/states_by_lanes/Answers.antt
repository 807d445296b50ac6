use Rattle.std.proofs.Common.{Contains, inl, inr, length, subst}
use Rattle.lalrpop_lr1_theory.specs.States.{HasEdge, HasItem, Reduces}
use Rattle.lalrpop_lr1_theory.proofs.CheckedLemmas.{checked_automaton}
use Rattle.lalrpop_lr1_theory.proofs.ValidMoveLemmas.{lr1_from_automaton}
use Rattle.lalrpop_lane_theory.proofs.Lalr1Lemmas.{lr0_lalr1}
use Rattle.lalrpop_grammar_repr.specs.declared.methods.Method.TheVariants as methods
use Rattle.lalrpop_lr1_core.specs.TheoryGrammars.{theory_grammar}
use Rattle.lalrpop_lr1_build.specs.BuiltStates.{AreCanonicalWithout}
use Rattle.lalrpop_lr1_build.specs.CollapseAnswers.{states_over}
use Rattle.lalrpop_lr1_build.specs.Renumbering.{HaveTargetsWithin}
use Rattle.lalrpop_lane.specs.BuilderAnswers.{AreLr1By, CheckedLaneAnswer}
use Rattle.lalrpop_lane.proofs.AnswerLemmas.{if_ok}
use Rattle.lalrpop_lane.proofs.TargetLemmas.{canonical_within}
use Rattle.lalrpop_lane.proofs.building.states_by_lanes.Goals as goal

pub returns-in-Some-clause-states : goal.returns-in-Some-clause-states
returns-in-Some-clause-states c =
    inl (subst (CheckedLaneAnswer c.args.grammar.now c.args.start.0) c.in-Some.is c.in_ok-found.ensures).checked

pub returns-in-Some-clause-targets : goal.returns-in-Some-clause-targets
returns-in-Some-clause-targets c =
    (subst (CheckedLaneAnswer c.args.grammar.now c.args.start.0) c.in-Some.is c.in_ok-found.ensures).targets

pub returns-in-Some-clause-lr1 : goal.returns-in-Some-clause-lr1
returns-in-Some-clause-lr1 c = λ nb.
    let g = c.args.grammar.now in
    let seen = states_over g.terminals c.in-Some.states.items in
    let by = subst (CheckedLaneAnswer g c.args.start.0) c.in-Some.is c.in_ok-found.ensures in
    lr1_from_automaton (Contains (theory_grammar g)) c.args.start.0 (HasItem seen) (HasEdge seen) (Reduces seen)
    (checked_automaton (theory_grammar g) c.args.start.0 seen by.checked).automaton

pub returns-in-Some-clause-checked : goal.returns-in-Some-clause-checked
returns-in-Some-clause-checked c = λ nb alone.
    (subst (CheckedLaneAnswer c.args.grammar.now c.args.start.0) c.in-Some.is c.in_ok-found.ensures).checked

pub returns-in-Some-clause-fewest : goal.returns-in-Some-clause-fewest
returns-in-Some-clause-fewest c = λ lr0 free.
    (subst (CheckedLaneAnswer c.args.grammar.now c.args.start.0) c.in-Some.is c.in_ok-found.ensures).fewest lr0 free.lr0_are free.no_conflict

pub returns-in-Some-clause-for_each_core : goal.returns-in-Some-clause-for_each_core
returns-in-Some-clause-for_each_core c = λ is.
    (subst (CheckedLaneAnswer c.args.grammar.now c.args.start.0) c.in-Some.is c.in_ok-found.ensures).for_each_core is.lalr1

pub returns-clause-states : goal.returns-clause-states
returns-clause-states c =
    let g = c.args.grammar.now in
    if_ok c.build_lr1_states_canonical.result (λ states. AreCanonicalWithout g c.args.start states.items)
    (λ states. AreLr1By (methods.Lane c.args.copies) g c.args.start states.items) (λ states are. inr are)
    c.build_lr1_states_canonical.ensures.states

pub returns-clause-targets : goal.returns-clause-targets
returns-clause-targets c =
    let g = c.args.grammar.now in
    if_ok c.build_lr1_states_canonical.result (λ states. AreCanonicalWithout g c.args.start states.items)
    (λ states. HaveTargetsWithin (length states.items) states.items)
    (λ states are. canonical_within g c.args.start states.items are) c.build_lr1_states_canonical.ensures.states

pub returns-clause-fewest : goal.returns-clause-fewest
returns-clause-fewest c = λ lr0 free.
    let g = c.args.grammar.now in
    let never = subst (CheckedLaneAnswer g c.args.start.0) c.in-None.is c.in_ok-found.ensures in
    absurd (never free.none_barren free.alone ((lr0_lalr1 (theory_grammar g) c.args.start.0 lr0 free.lr0_are).1 free.no_conflict))

pub returns-clause-for_each_core : goal.returns-clause-for_each_core
returns-clause-for_each_core c = λ is.
    let never = subst (CheckedLaneAnswer c.args.grammar.now c.args.start.0) c.in-None.is c.in_ok-found.ensures in
    absurd (never is.none_barren is.alone is.lalr1)
