use Rattle.std.proofs.Common.{◌≡◌, map}
use Rattle.lalrpop_lr1_core.specs.Views.{production_symbol_view}
use Rattle.lalrpop_lr1_check_lookaheads.specs.PropagationEdges.{PropagatesAtDot}
use Rattle.lalrpop_lr1_check_lookaheads.proofs.PropagationEdgeLemmas.{edges_as, edges_none, propagates_nowhere, propagates_there}
use Rattle.lalrpop_lr1_check_lookaheads.proofs.SlotLemmas.{key_of}
use Rattle.lalrpop_lr1_check_lookaheads.proofs.lookaheads.propagation.propagate_at.Goals as goal

pub returns-in-None-walk : goal.returns-in-None-walk
returns-in-None-walk c = λ look.
    let g = c.args.grammar.now in
    edges_none c.args.from c.args.slots.now c.args.edges.now.items
    (PropagatesAtDot g look c.args.states.now c.args.state c.args.symbols.now c.args.dot) c.requires.slots
    (propagates_nowhere g look c.args.states.now c.args.state c.args.symbols.now c.args.dot c.in-Some.name.now.0
    (map production_symbol_view c.in-Some.rest.now) c.walk.result c.in-Some.ensures (λ m. c.walk.ensures look m) c.in-None-walk.is)

pub returns-in_ok-add_edge-in-Some-walk : goal.returns-in_ok-add_edge-in-Some-walk
returns-in_ok-add_edge-in-Some-walk c = λ look.
    let g = c.args.grammar.now in
    let own = key_of c.in-Some-walk.state c.in-Some.name.now.0 in
    edges_as c.args.from c.args.slots.now c.add_edge.new.slots c.args.edges.now.items c.add_edge.new.edges.items (λ key. key ≡ own)
    (PropagatesAtDot g look c.args.states.now c.args.state c.args.symbols.now c.args.dot)
    (propagates_there g look c.args.states.now c.args.state c.args.symbols.now c.args.dot c.in-Some.name.now.0
    (map production_symbol_view c.in-Some.rest.now) c.walk.result c.in-Some.ensures (λ m. c.walk.ensures look m) c.in-Some-walk.state
    c.in-Some-walk.is (c.in_ok-ends-in-Some.ensures.0 c.if-not-ends.false)) c.in_ok-add_edge-in-Some-walk.ensures
