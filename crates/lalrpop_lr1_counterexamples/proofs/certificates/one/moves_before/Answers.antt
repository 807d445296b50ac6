use Rattle.std.proofs.Common.{◌∙◌, ℕ, List, subst, sym}
use Rattle.lalrpop_lr1_theory.proofs.StepLemmas.{some_same}
use Rattle.lalrpop_lr1_core.specs.Views.{lr_state_view, token_lookahead}
use Rattle.lalrpop_lr1_core.specs.declared.conflict.Conflict.{Conflict}
use Rattle.lalrpop_lr1_core.proofs.NoConflictLemmas.{mapped_at}
use Rattle.lalrpop_lr1_counterexamples.specs.ShownMoves.{next_of}
use Rattle.lalrpop_lr1_counterexamples.specs.ConflictMoves.{AreConflictMoves, ShowConflict}
use Rattle.lalrpop_lr1_counterexamples.specs.ShownStates.{states_of}
use Rattle.lalrpop_lr1_counterexamples.proofs.ShownConflictLemmas.{stands_before, state_finished, state_within}
use Rattle.lalrpop_lr1_counterexamples.proofs.certificates.one.moves_before.Goals as goal

pub state-state-requires : goal.state-state-requires
state-state-requires c =
    state_within c.args.shown.now c.requires.shown c.args.number c.conflict-conflict.result.now c.conflict-conflict.ensures

pub unreachable-requires : goal.unreachable-requires
unreachable-requires c =
    let it = c.args.shown.now in
    let conflict = c.conflict-conflict.result.now in
    let x = next_of c.args.next.now in
    let look = token_lookahead it.grammar.now.terminals in
    let there = mapped_at (lr_state_view look) it.states.now conflict.state.0 c.state-state.result.now c.state-state.ensures in
    let finished = state_finished it c.requires.shown c.args.number conflict c.conflict-conflict.ensures in
    let stands = stands_before it c.requires.shown c.args.number conflict c.conflict-conflict.ensures c.args.token c.requires.least x
    c.requires.token in
    let lacks = subst (ShowConflict it.grammar.now it.start.now.0 (states_of it) c.args.any.now.ways.now conflict.state.0 x conflict)
    c.in-None.is (c.in_ok-moves.ensures it.grammar.now it.start.now.0 look (states_of it) c.requires.steps there finished) in
    c.standing_conflicts_have_moves.ensures it.grammar.now it.start.now.0 (states_of it) c.args.any.now.ways.now x conflict
    c.requires.shown.none_barren c.requires.shown.canonical c.requires.steps stands lacks

pub returns : goal.returns
returns c = λ other at.
    let it = c.args.shown.now in
    let conflict = c.conflict-conflict.result.now in
    let x = next_of c.args.next.now in
    let look = token_lookahead it.grammar.now.terminals in
    let there = mapped_at (lr_state_view look) it.states.now conflict.state.0 c.state-state.result.now c.state-state.ensures in
    let finished = state_finished it c.requires.shown c.args.number conflict c.conflict-conflict.ensures in
    let same = some_same conflict other (sym c.conflict-conflict.ensures ∙ at) in
    subst (λ (k : Conflict (List ℕ)). AreConflictMoves it.grammar.now it.start.now.0 (states_of it) c.args.any.now.ways.now k.state.0 x k
    c.in-Some.moves) same
    (subst (ShowConflict it.grammar.now it.start.now.0 (states_of it) c.args.any.now.ways.now conflict.state.0 x conflict)
    c.in-Some.is (c.in_ok-moves.ensures it.grammar.now it.start.now.0 look (states_of it) c.requires.steps there finished))
