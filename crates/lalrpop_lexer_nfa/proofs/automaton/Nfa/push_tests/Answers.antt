use Rattle.std.proofs.Common.{◌∙◌, arith, refl, get_or}
use Rattle.std.proofs.lemmas.List.{take_more}
use Rattle.lalrpop_lexer_pattern.specs.declared.class.Range.{Range}
use Rattle.lalrpop_lexer_nfa.specs.Paths.{nfa_view}
use Rattle.lalrpop_lexer_nfa.proofs.GrowthLemmas.{HasNewTransitions-none, HasNewTransitions-more, MayComeNext-no_tests}
use Rattle.lalrpop_lexer_nfa.proofs.automaton.Nfa.push_tests.Goals as goal

pub loop-i-init : goal.loop-i-init
loop-i-init c = record {
  more = HasNewTransitions-none _ _ _;
  last = MayComeNext-no_tests (nfa_view c.args.self.now) _ _ refl c.requires.none;
  others = refl;
}

pub loop-i-preserved : goal.loop-i-preserved
loop-i-preserved c =
    let range : Range = get_or c.args.ranges.now c.loop-i.i (record { start = 0; end = 0 }) in
    record {
      more = rw (take_more c.args.ranges.now c.loop-i.i (record { start = 0; end = 0 }) (omega arith))
          (HasNewTransitions-more _ (nfa_view c.loop-i.self) _ _ _ range _ c.loop-i.invariant.more c.in_ok-push_test.ensures.tests);
      last = c.in_ok-push_test.ensures.last;
      others = c.in_ok-push_test.ensures.others ∙ c.loop-i.invariant.others;
    }

pub push_test-requires-clause-from : goal.push_test-requires-clause-from
push_test-requires-clause-from c = omega (arith, c.loop-i.invariant.more.count, c.requires.from)

pub push_test-requires-clause-to : goal.push_test-requires-clause-to
push_test-requires-clause-to c = omega (arith, c.loop-i.invariant.more.count, c.requires.to)

pub push_test-requires-clause-last : goal.push_test-requires-clause-last
push_test-requires-clause-last c = c.loop-i.invariant.last
