use Rattle.std.proofs.Common.{◌↔◌, Bool, IsTrue, ℕ, map, Some}
use Rattle.std.proofs.lemmas.Result.{IfOk-weaker}
use Rattle.lalrpop_lr1_theory.specs.PropagatedNexts.{ReducesBeforeLookaheads}
use Rattle.lalrpop_lr1_theory.specs.States.{HasEdge, HasItem, Reduces}
use Rattle.lalrpop_lr1_core.specs.Views.{lr_state_view, token_lookahead}
use Rattle.lalrpop_lr1_first.specs.FirstSetsOf.{IsProductionOf}
use Rattle.lalrpop_lr1_check_lookaheads.specs.Ends.{EndKey, HasEndMark}
use Rattle.lalrpop_lr1_check_lookaheads.specs.LookaheadFlows.{HaveKnownItems}
use Rattle.lalrpop_lr1_check_lookaheads.proofs.CarriedLemmas.{ends_are_tested}
use Rattle.lalrpop_lr1_check_lookaheads.proofs.lookaheads.carried.reduces_before_lookaheads.Goals as goal

pub are_within-requires-clause-all : goal.are_within-requires-clause-all
are_within-requires-clause-all c = c.in_ok-own.ensures.are

pub returns : goal.returns
returns c =
    let g = c.args.grammar.now in
    let s = c.args.start.now.0 in
    let states = c.args.states.now in
    let seen = map (lr_state_view (token_lookahead g.terminals)) states in
    let ends = c.in_ok-ends.ends in
    let own = c.in_ok-own.own in
    IfOk-weaker c.are_within.result
    (λ (are : Bool). IsTrue are
    ↔ ((end : EndKey) (k : ℕ) → HasEndMark ends end (Some k) → HasEndMark own end (Some k)))
    (λ (are : Bool). HaveKnownItems g.terminals states → IsTrue are
    ↔ ReducesBeforeLookaheads (IsProductionOf g) s (HasItem seen) (HasEdge seen) (Reduces seen))
    (λ are says known.
    let tested = ends_are_tested g c.requires.grammar s states ends own (c.in_ok-ends.ensures.carried known) c.in_ok-own.ensures in
    (λ e. tested.0 (says.0 e), λ h. says.1 (tested.1 h)))
    c.are_within.ensures
