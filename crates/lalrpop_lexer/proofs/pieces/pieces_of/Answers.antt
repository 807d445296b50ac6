use Rattle.std.proofs.Common.{arith, ◌∙◌, ◌<◌, ap, refl}
use Rattle.lalrpop_lexer_nfa.specs.declared.edge.Edge.{Edge}
use Rattle.lalrpop_lexer_nfa.specs.declared.test.Test.{Test}
use Rattle.lalrpop_lexer_nfa.specs.declared.edges.EdgeIterator.{EdgeIterator}
use Rattle.lalrpop_lexer_nfa.specs.Labels.{front_from}
use Rattle.lalrpop_lexer_nfa.specs.Paths.{nfa_view}
use Rattle.lalrpop_lexer_nfa.proofs.ListLemmas.{front_more, front_end}
use Rattle.std.proofs.lemmas.List.Elements.{All-contains}
use Rattle.lalrpop_lexer.proofs.AlphabetClassLemmas.{labels_start, labels_more, labels_end, labels_known, exact_test, pieces_from_split}
use Rattle.lalrpop_lexer.proofs.pieces.pieces_of.Goals as goal

pub loop-edge-init : goal.loop-edge-init
loop-edge-init c =
    labels_start c.args.nfa.now.edges.test_edges.items _ _ _
    (ap (λ (s : EdgeIterator Test). front_from s.from.0 s.edges.now) c.into_iter-edge-iterator.ensures.into_iter_gives
    ∙ c.edges-edge-items.ensures.edges) c.loop-state.invariant

pub loop-edge-preserved : goal.loop-edge-preserved
loop-edge-preserved c =
    rw c.in_ok-insert.ensures.keys
    (labels_more c.args.nfa.now.edges.test_edges.items _ _ _ _ exact_test _ c.in-Some.edge.now
    (front_more (λ (s : EdgeIterator Test). front_from s.from.0 s.edges.now) c.loop-edge.edge-iterator c.next.new.self c.next.result
    c.in-Some.edge c.in-Some.is c.next.ensures.steps)
    c.loop-edge.invariant)

pub loop-state-preserved : goal.loop-state-preserved
loop-state-preserved c =
    labels_end c.args.nfa.now.edges.test_edges.items _ _ _
    (front_end (λ (s : EdgeIterator Test). front_from s.from.0 s.edges.now) c.loop-edge.edge-iterator c.next.new.self c.next.result
    c.in-None.is c.next.ensures.steps) c.loop-edge.invariant

pub returns : goal.returns
returns c =
    let nfa = c.args.nfa.now in
    pieces_from_split (nfa_view nfa) _ _
    (labels_known (nfa_view nfa) nfa.edges.test_edges.items _ refl
    (λ e among. c.loop-state.invariant e among
    (omega (arith, All-contains (λ (e : Edge Test). e.from.0 < nfa.states.len) nfa.edges.test_edges.items e nfa.tests_inside among))))
    c.in_ok-pieces.ensures
