use Rattle.std.proofs.Common.{arith, refl}
use Rattle.std.proofs.lemmas.List.{take_more}
use Rattle.lalrpop_lexer_nfa.specs.Paths.{nfa_view}
use Rattle.lalrpop_lexer_nfa.proofs.GrowthLemmas.{HasNewEpsilonEdges-none, HasNewEpsilonEdges-more, MayComeNext-no_leads}
use Rattle.lalrpop_lexer_nfa.proofs.automaton.Nfa.push_noops.Goals as goal

pub loop-i-init : goal.loop-i-init
loop-i-init c = record {
  more = HasNewEpsilonEdges-none _ _;
  last = MayComeNext-no_leads (nfa_view c.args.self.now) _ _ refl c.requires.none;
}

pub loop-i-preserved : goal.loop-i-preserved
loop-i-preserved c = record {
  more = rw (take_more c.args.targets.now c.loop-i.i 0 (omega arith))
      (HasNewEpsilonEdges-more _ (nfa_view c.loop-i.self) _ _ _ _ c.loop-i.invariant.more c.in_ok-push_noop.ensures.noops);
  last = c.in_ok-push_noop.ensures.last;
}

pub push_noop-requires-clause-from : goal.push_noop-requires-clause-from
push_noop-requires-clause-from c = omega (arith, c.loop-i.invariant.more.count, c.requires.from)

pub push_noop-requires-clause-to : goal.push_noop-requires-clause-to
push_noop-requires-clause-to c = omega (arith, c.loop-i.invariant.more.count, c.requires.targets c.loop-i.i 0 (omega arith))

pub push_noop-requires-clause-last : goal.push_noop-requires-clause-last
push_noop-requires-clause-last c = c.loop-i.invariant.last
