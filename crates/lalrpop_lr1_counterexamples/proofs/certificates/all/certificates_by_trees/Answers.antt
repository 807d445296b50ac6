use Rattle.std.proofs.Common.{refl, arith}
use Rattle.std.proofs.lemmas.List.{length-map}
use Rattle.lalrpop_lr1_core.specs.Views.{lr_state_view, token_lookahead}
use Rattle.lalrpop_lr1_counterexamples.specs.ShownStates.{shown_states}
use Rattle.lalrpop_lr1_counterexamples.proofs.StartLemmas.{some_state, stepped_states}
use Rattle.lalrpop_lr1_counterexamples.proofs.certificates.all.certificates_by_trees.Goals as goal

pub certificates_by_ways-requires-clause-steps : goal.certificates_by_ways-requires-clause-steps
certificates_by_ways-requires-clause-steps c =
    let it = c.args.shown.now in
    let g = it.grammar.now in
    let s = it.start.now.0 in
    let look = token_lookahead g.terminals in
    let states = shown_states g it.states.now in
    let canonical = c.requires.shown.canonical in
    let none_barren = c.requires.shown.none_barren in
    let some = some_state g s states canonical none_barren in
    stepped_states g s states canonical none_barren c.args.trees.now.table c.requires.table
    c.args.trees.now c.in_ok-paths.paths c.in_ok-ways.ways c.in_ok-ways.ways it.start.now refl c.in_ok-paths.ensures.trees
    c.in_ok-ways.ensures.paths refl refl (c.in_ok-paths.ensures.all look)
    (λ of cover paths number. c.in_ok-ways.ensures.ways g look of cover paths
    (omega (arith, some, length-map it.states.now (lr_state_view look))) number)
