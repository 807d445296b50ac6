use Rattle.std.proofs.Common.{◌<◌, ◌≤◌, ◌∙◌, ◌++◌, ap, arith, length, map, sym}
use Rattle.std.proofs.lemmas.List.{take_all}
use Rattle.lalrpop_lr1_check_lookaheads.specs.SeenEdges.{HasOrderedEdges, noted_edge, edges_of_state, edges_of_states}
use Rattle.lalrpop_lr1_check_lookaheads.proofs.GainLemmas.{each_place_more, first_all, first_more, first_none}
use Rattle.lalrpop_lr1_check_lookaheads.proofs.parts.edges.edges_of.Goals as goal

pub loop-source-init : goal.loop-source-init
loop-source-init c = record {
  edges = ap (map noted_edge) c.new-edges.ensures.items;
  ordered = first_none (λ _ state. HasOrderedEdges state) c.args.states.now;
}

pub loop-source-preserved : goal.loop-source-preserved
loop-source-preserved c =
    let i = c.loop-source.source in
    let states = c.args.states.now in
    let st = c.index-states-source.result in
    let here : i < length states = omega arith in
    record {
      edges = c.in_ok-add_edges.ensures.added ∙ ap (λ l. l ++ edges_of_state i st) c.loop-source.invariant.edges
          ∙ sym (each_place_more edges_of_state states i st here c.index-states-source.is);
      ordered = first_more (λ _ state. HasOrderedEdges state) states i st here c.index-states-source.is
          c.in_ok-add_edges.ensures.ordered c.loop-source.invariant.ordered;
    }

pub returns-clause-edges : goal.returns-clause-edges
returns-clause-edges c =
    let end : length c.args.states.now ≤ c.loop-source.source = omega arith in
    c.loop-source.invariant.edges ∙ ap edges_of_states (take_all c.loop-source.source c.args.states.now end)

pub returns-clause-ordered : goal.returns-clause-ordered
returns-clause-ordered c =
    let end : length c.args.states.now ≤ c.loop-source.source = omega arith in
    first_all (λ _ state. HasOrderedEdges state) c.args.states.now c.loop-source.source end c.loop-source.invariant.ordered
