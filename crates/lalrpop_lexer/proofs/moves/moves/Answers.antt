use Rattle.std.proofs.Common.{arith, ◌∙◌, ap, refl, length, drop}
use Rattle.std.proofs.lemmas.List.{take_more, take_at, take_all, length_push}
use Rattle.lalrpop_lexer_nfa.specs.declared.test.Test.{Test}
use Rattle.lalrpop_lexer_nfa.specs.declared.edges.EdgeIterator.{EdgeIterator}
use Rattle.lalrpop_lexer_nfa.specs.Labels.{front_from}
use Rattle.lalrpop_lexer_nfa.specs.Paths.{nfa_view}
use Rattle.lalrpop_lexer_nfa.proofs.ListLemmas.{front_more, front_end}
use Rattle.lalrpop_lexer.proofs.TargetLemmas.{gather_start, gather_more, gather_end, moves_none, items_at-push}
use Rattle.lalrpop_lexer.proofs.moves.moves.Goals as goal

pub loop-made-preserved : goal.loop-made-preserved
loop-made-preserved c = rw c.in_ok-push.ensures.items (record {
  size = omega (arith, c.loop-made.invariant.size, length_push c.loop-made.targets.items c.new.result);
  empty = items_at-push _ _ c.loop-made.invariant.empty c.new.ensures.items;
})

pub loop-i-init : goal.loop-i-init
loop-i-init c = moves_none _ _ _ (omega (arith, c.loop-made.invariant.size)) c.loop-made.invariant.empty

pub loop-edge-init : goal.loop-edge-init
loop-edge-init c =
    gather_start (nfa_view c.args.nfa.now) c.args.nfa.now.edges.test_edges.items refl _ _ _ _ _
    (ap (λ (s : EdgeIterator Test). front_from s.from.0 s.edges.now) c.into_iter-edge-iterator.ensures.into_iter_gives
    ∙ c.edges-edge-items.ensures.edges) c.loop-i.invariant

pub loop-edge-preserved : goal.loop-edge-preserved
loop-edge-preserved c =
    gather_more (nfa_view c.args.nfa.now) c.args.nfa.now.edges.test_edges.items refl _ _ _ _ _ _ _ c.in-Some.edge.now
    (front_more (λ (s : EdgeIterator Test). front_from s.from.0 s.edges.now) c.loop-edge.edge-iterator c.next.new.self c.next.result
    c.in-Some.edge c.in-Some.is c.next.ensures.steps)
    c.loop-edge.invariant
    (let h = c.in_ok-add_edge.ensures in
    let old = c.deref_mut.ensures.value in
    let whole = take_at c.add_edge.new.targets (drop (length c.add_edge.new.targets) c.loop-edge.targets.items) c.loop-edge.targets.len
    (omega (arith, h.size, ap length old, c.loop-edge.targets.ok.0)) in
    rw whole (rw old at h))

pub loop-i-preserved : goal.loop-i-preserved
loop-i-preserved c =
    rw (take_more c.args.set.now c.loop-i.i 0 (omega arith))
    (gather_end (nfa_view c.args.nfa.now) c.args.nfa.now.edges.test_edges.items refl _ _ _ _ _
    (front_end (λ (s : EdgeIterator Test). front_from s.from.0 s.edges.now) c.loop-edge.edge-iterator c.next.new.self c.next.result
    c.in-None.is c.next.ensures.steps) c.loop-edge.invariant)

pub returns : goal.returns
returns c = rw (← take_all c.loop-i.i c.args.set.now (omega arith)) c.loop-i.invariant
