use Rattle.std.proofs.Common.{refl, arith, ◌∙◌, ap}
use Rattle.lalrpop_lexer_nfa.specs.declared.edge.Noop.{Noop}
use Rattle.lalrpop_lexer_nfa.specs.declared.edges.EdgeIterator.{EdgeIterator}
use Rattle.lalrpop_lexer_nfa.specs.Labels.{front_from}
use Rattle.lalrpop_lexer_nfa.specs.Paths.{nfa_view}
use Rattle.lalrpop_lexer_nfa.proofs.ListLemmas.{Contains-head, front_more, front_end}
use Rattle.lalrpop_lexer_nfa.proofs.NfaLemmas.{noop_inside}
use Rattle.lalrpop_lexer_nfa.proofs.SetLemmas.{targets_start, targets_more, targets_end}
use Rattle.lalrpop_lexer_nfa.proofs.automaton.Nfa.insert_targets.Goals as goal

pub loop-edge-init : goal.loop-edge-init
loop-edge-init c = record {
  targets = targets_start (nfa_view c.args.self.now) c.args.self.now.edges.noop_edges.items c.args.state refl _ _
      (ap (λ (s : EdgeIterator Noop). front_from s.from.0 s.edges.now) c.into_iter-edge-iterator.ensures.into_iter_gives
      ∙ c.edges-edge-items.ensures.edges);
  bound = refl;
}

pub loop-edge-preserved : goal.loop-edge-preserved
loop-edge-preserved c = record {
  targets = targets_more (nfa_view c.args.self.now) c.args.self.now.edges.noop_edges.items c.args.state refl _ _ _ _ _ c.in-Some.edge.now
      (front_more (λ (s : EdgeIterator Noop). front_from s.from.0 s.edges.now) c.loop-edge.edge-iterator c.next.new.self c.next.result
      c.in-Some.edge c.in-Some.is c.next.ensures.steps)
      c.loop-edge.invariant.targets c.in_ok-insert.ensures.members;
  bound = c.insert.ensures.bound ∙ c.loop-edge.invariant.bound;
}

pub returns : goal.returns
returns c = record {
  targets = targets_end (nfa_view c.args.self.now) c.args.self.now.edges.noop_edges.items c.args.state refl _ _ _
      (front_end (λ (s : EdgeIterator Noop). front_from s.from.0 s.edges.now) c.loop-edge.edge-iterator c.next.new.self c.next.result
      c.in-None.is c.next.ensures.steps) c.loop-edge.invariant.targets;
  bound = c.loop-edge.invariant.bound;
}

pub insert-requires : goal.insert-requires
insert-requires c =
    let first = front_more (λ (s : EdgeIterator Noop). front_from s.from.0 s.edges.now) c.loop-edge.edge-iterator c.next.new.self
    c.next.result c.in-Some.edge c.in-Some.is c.next.ensures.steps in
    let here = c.loop-edge.invariant.targets.from c.in-Some.edge.now
    (rw first (Contains-head c.in-Some.edge.now (front_from c.next.new.self.from.0 c.next.new.self.edges.now))) in
    omega (arith, noop_inside c.args.self.now c.in-Some.edge.now here.0, c.loop-edge.invariant.bound, c.requires.bound)
