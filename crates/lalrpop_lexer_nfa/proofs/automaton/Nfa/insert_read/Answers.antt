use Rattle.std.proofs.Common.{refl, arith, ◌∙◌, ap, sym, true≢false}
use Rattle.lalrpop_lexer_nfa.specs.declared.test.Test.{Test}
use Rattle.lalrpop_lexer_nfa.specs.declared.edges.EdgeIterator.{EdgeIterator}
use Rattle.lalrpop_lexer_nfa.specs.Labels.{front_from}
use Rattle.lalrpop_lexer_nfa.specs.Paths.{nfa_view}
use Rattle.lalrpop_lexer_nfa.proofs.ListLemmas.{Contains-head, front_more, front_end}
use Rattle.lalrpop_lexer_nfa.proofs.NfaLemmas.{test_inside}
use Rattle.lalrpop_lexer_nfa.proofs.ReadLemmas.{reading_start, reading_more, reading_skip, reading_end}
use Rattle.lalrpop_lexer_nfa.proofs.automaton.Nfa.insert_read.Goals as goal

pub loop-edge-init : goal.loop-edge-init
loop-edge-init c = record {
  reading = reading_start (nfa_view c.args.self.now) c.args.self.now.edges.test_edges.items refl c.args.state c.args.number _ _
      (ap (λ (s : EdgeIterator Test). front_from s.from.0 s.edges.now) c.into_iter-edge-iterator.ensures.into_iter_gives
      ∙ c.edges-edge-items.ensures.edges);
  bound = refl;
}

pub loop-edge-preserved-in_ok-insert : goal.loop-edge-preserved-in_ok-insert
loop-edge-preserved-in_ok-insert c =
    let first = front_more (λ (s : EdgeIterator Test). front_from s.from.0 s.edges.now) c.loop-edge.edge-iterator c.next.new.self
    c.next.result c.in-Some.edge c.in-Some.is c.next.ensures.steps in
    record {
      reading = reading_more (nfa_view c.args.self.now) c.args.self.now.edges.test_edges.items refl c.args.state c.args.number _ _ _ _ _
          c.in-Some.edge.now first c.loop-edge.invariant.reading
          (c.contains_u32.ensures.0 c.if-contains_u32.true) c.in_ok-insert.ensures.members;
      bound = c.insert.ensures.bound ∙ c.loop-edge.invariant.bound;
    }

pub loop-edge-preserved : goal.loop-edge-preserved
loop-edge-preserved c =
    let first = front_more (λ (s : EdgeIterator Test). front_from s.from.0 s.edges.now) c.loop-edge.edge-iterator c.next.new.self
    c.next.result c.in-Some.edge c.in-Some.is c.next.ensures.steps in
    record {
      reading = reading_skip (nfa_view c.args.self.now) c.args.self.now.edges.test_edges.items refl c.args.state c.args.number _ _ _ _
          c.in-Some.edge.now first c.loop-edge.invariant.reading
          (λ h. true≢false (sym (c.contains_u32.ensures.1 h) ∙ c.if-contains_u32.false));
      bound = c.loop-edge.invariant.bound;
    }

pub returns-clause-read : goal.returns-clause-read
returns-clause-read c =
    reading_end (nfa_view c.args.self.now) c.args.self.now.edges.test_edges.items refl c.args.state c.args.number _ _ _
    (front_end (λ (s : EdgeIterator Test). front_from s.from.0 s.edges.now) c.loop-edge.edge-iterator c.next.new.self c.next.result
    c.in-None.is c.next.ensures.steps) c.loop-edge.invariant.reading

pub insert-requires : goal.insert-requires
insert-requires c =
    let first = front_more (λ (s : EdgeIterator Test). front_from s.from.0 s.edges.now) c.loop-edge.edge-iterator c.next.new.self
    c.next.result c.in-Some.edge c.in-Some.is c.next.ensures.steps in
    let here = c.loop-edge.invariant.reading.from c.in-Some.edge.now
    (rw first (Contains-head c.in-Some.edge.now (front_from c.next.new.self.from.0 c.next.new.self.edges.now))) in
    omega (arith, test_inside c.args.self.now c.in-Some.edge.now here.0, c.loop-edge.invariant.bound, c.requires.bound)
