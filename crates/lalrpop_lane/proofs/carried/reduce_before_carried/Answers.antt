use Rattle.std.proofs.Common.{◌≡◌, List, map, subst, sym, ℕ}
use Rattle.std.specs.Global.{Global}
use Rattle.std.specs.Prelude.{Vec}
use Rattle.std.proofs.lemmas.Result.{IfOk-weaker}
use Rattle.lalrpop_grammar_repr.specs.declared.grammar.Grammar.{Grammar}
use Rattle.lalrpop_grammar_symbols.specs.Symbols.{Text}
use Rattle.lalrpop_lr1_core.specs.declared.state.State.{State}
use Rattle.lalrpop_lr1_check_lookaheads.specs.CarriedSets.{AreCarriedSets}
use Rattle.lalrpop_lr1_check_lookaheads.specs.LookaheadFlows.{HaveKnownItems}
use Rattle.lalrpop_lane.specs.LaneStates.{AreStatesBeforeSets, HaveSetEach, ReduceBeforeCarried}
use Rattle.lalrpop_lane.proofs.LaneStateLemmas.{carried_each}
use Rattle.lalrpop_lane.proofs.carried.reduce_before_carried.Goals as goal

abbrev items_of : List (Vec (List ℕ) Global) → List (List (List ℕ))
items_of sets = map (λ (own : Vec (List ℕ) Global). own.items) sets

-- what is carried over a slice is carried over the states that it is of
carried : (g : Grammar) (s : Text) (states slice : List (State (List ℕ))) (sets : List (List (List ℕ))) → slice ≡ states →
    (HaveKnownItems g.terminals slice → AreCarriedSets g s slice sets) → HaveKnownItems g.terminals states → AreCarriedSets g s states sets
carried g s states slice sets e f known =
    subst (λ (l : List (State (List ℕ))). AreCarriedSets g s l sets) e (f (subst (HaveKnownItems g.terminals) (sym e) known))

pub put_states_before-requires : goal.put_states_before-requires
put_states_before-requires c =
    let g = c.args.grammar.now in
    let s = c.args.start.now.0 in
    let states = c.args.states.items in
    subst (λ (l : List (Vec (List ℕ) Global)). HaveSetEach states (items_of l)) (sym c.as_slice-2.ensures.value)
    (carried_each g c.requires.grammar s states (items_of c.in_ok-sets.sets.items)
    (carried g s states c.as_slice.result.now (items_of c.in_ok-sets.sets.items) c.as_slice.ensures.value c.in_ok-sets.ensures c.requires.known))

pub returns : goal.returns
returns c =
    let g = c.args.grammar.now in
    let s = c.args.start.now.0 in
    let states = c.args.states.items in
    IfOk-weaker c.put_states_before.result
    (λ (new : Vec (State (List ℕ)) Global). AreStatesBeforeSets (items_of c.as_slice-2.result.now) states new.items)
    (λ (new : Vec (State (List ℕ)) Global). ReduceBeforeCarried g s states new.items)
    (λ new are. record {
      sets = items_of c.in_ok-sets.sets.items;
      carried =
          carried g s states c.as_slice.result.now (items_of c.in_ok-sets.sets.items) c.as_slice.ensures.value c.in_ok-sets.ensures c.requires.known;
      states_are = subst (λ (l : List (Vec (List ℕ) Global)). AreStatesBeforeSets (items_of l) states new.items) c.as_slice-2.ensures.value are;
    })
    c.put_states_before.ensures
