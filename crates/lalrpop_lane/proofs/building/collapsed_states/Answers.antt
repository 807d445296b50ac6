use Rattle.std.proofs.Common.{List, ℕ, subst, sym}
use Rattle.lalrpop_lr1_core.specs.declared.state.State.{State}
use Rattle.lalrpop_lr1_build.specs.CollapseAnswers.{AreCanonicalOfSome, IsCollapseWithout}
use Rattle.lalrpop_lane.specs.BuilderAnswers.{AreLalrWithout}
use Rattle.lalrpop_lane.proofs.AnswerLemmas.{if_ok}
use Rattle.lalrpop_lane.proofs.TargetLemmas.{canonical_of}
use Rattle.lalrpop_lane.proofs.building.collapsed_states.Goals as goal

pub collapse_to_lalr_states-requires : goal.collapse_to_lalr_states-requires
collapse_to_lalr_states-requires c =
    let g = c.args.grammar.now in
    subst (AreCanonicalOfSome g.terminals) (sym c.as_slice.ensures.value)
    (g, c.args.start, canonical_of g c.args.start c.requires c.in_ok-states.states.items c.in_ok-states.ensures.states)

pub returns-clause-states : goal.returns-clause-states
returns-clause-states c =
    let g = c.args.grammar.now in
    if_ok c.collapse_to_lalr_states.result (λ states. IsCollapseWithout g.terminals c.as_slice.result.now states.items)
    (λ states. AreLalrWithout g c.args.start states.items)
    (λ states are. record {
      built = c.in_ok-states.states.items;
      canonical = c.in_ok-states.ensures.states;
      collapse = subst (λ (l : List (State (List ℕ))). IsCollapseWithout g.terminals l states.items) c.as_slice.ensures.value are;
    }) c.collapse_to_lalr_states.ensures.states
