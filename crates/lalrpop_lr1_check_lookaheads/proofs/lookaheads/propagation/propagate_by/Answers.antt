use Rattle.std.proofs.Common.{ap, length, subst}
use Rattle.lalrpop_grammar_symbols.specs.declared.names.NonterminalString.{NonterminalString}
use Rattle.lalrpop_lr1_check_lookaheads.specs.PropagationEdges.{GainsEdges, PropagatesBelow, PropagatesBy}
use Rattle.lalrpop_lr1_check_lookaheads.specs.LookaheadSlots.{slot_key}
use Rattle.lalrpop_lr1_check_lookaheads.proofs.PropagationEdgeLemmas.{all_below, edges_as}
use Rattle.lalrpop_lr1_check_lookaheads.proofs.lookaheads.propagation.propagate_by.Goals as goal

pub returns-in_ok-propagate_along : goal.returns-in_ok-propagate_along
returns-in_ok-propagate_along c = λ look.
    let g = c.args.grammar.now in
    let p = c.args.production.now in
    let n = c.args.slot.state in
    edges_as c.args.from c.args.slots.now c.propagate_along.new.slots c.args.edges.now.items c.propagate_along.new.edges.items
    (PropagatesBelow g look c.args.states.now n p.symbols (length p.symbols)) (PropagatesBy g look c.args.states.now (slot_key c.args.slot) p)
    (λ key. (
      λ (d, l, h). (ap (λ (n : NonterminalString). n.0) (c.is_of.ensures.0 c.if-is_of.true), d, h),
      λ (z, d, h). (d, all_below g look c.args.states.now n p.symbols d key h, h),
    ))
    (subst (λ l. GainsEdges c.args.from c.args.slots.now c.args.edges.now.items c.propagate_along.new.slots
    c.propagate_along.new.edges.items (PropagatesBelow g look c.args.states.now n l (length l))) c.as_slice-symbols.ensures
    (c.in_ok-propagate_along.ensures look))
