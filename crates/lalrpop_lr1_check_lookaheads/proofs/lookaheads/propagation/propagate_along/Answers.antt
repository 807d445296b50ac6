use Rattle.std.proofs.Common.{◌≡◌, arith, length, subst}
use Rattle.lalrpop_lr1_check_lookaheads.specs.PropagationEdges.{GainsEdges, PropagatesAtDot, PropagatesBelow}
use Rattle.lalrpop_lr1_check_lookaheads.proofs.PropagationEdgeLemmas.{any_look, below_more, below_none}
use Rattle.lalrpop_lr1_check_lookaheads.proofs.lookaheads.propagation.propagate_along.Goals as goal

pub propagate_at-requires-clause-slots : goal.propagate_at-requires-clause-slots
propagate_at-requires-clause-slots c = (c.loop-dot.invariant any_look).are

pub loop-dot-init : goal.loop-dot-init
loop-dot-init c = λ look.
    below_none c.args.from (PropagatesAtDot c.args.grammar.now look c.args.states.now c.args.state c.args.symbols.now) c.args.slots.now
    c.args.edges.now.items c.requires.slots

pub loop-dot-preserved : goal.loop-dot-preserved
loop-dot-preserved c = λ look.
    below_more c.args.from (PropagatesAtDot c.args.grammar.now look c.args.states.now c.args.state c.args.symbols.now) c.args.slots.now
    c.loop-dot.slots c.propagate_at.new.slots c.args.edges.now.items c.loop-dot.edges.items c.propagate_at.new.edges.items c.loop-dot.dot
    (c.loop-dot.invariant look) (c.in_ok-propagate_at.ensures look)

pub returns : goal.returns
returns c = λ look.
    let end : c.loop-dot.dot ≡ length c.args.symbols.now = omega arith in
    subst (λ n. GainsEdges c.args.from c.args.slots.now c.args.edges.now.items c.loop-dot.slots c.loop-dot.edges.items
    (PropagatesBelow c.args.grammar.now look c.args.states.now c.args.state c.args.symbols.now n)) end (c.loop-dot.invariant look)
