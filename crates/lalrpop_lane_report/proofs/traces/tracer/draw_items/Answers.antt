use Rattle.std.proofs.Common.{◌≡◌, ◌∙◌, ◌+◌, ◌++◌, ◌∷◌, ◌≤◌, ◌<◌, [], ℕ, List, length, Some, None, ap, map, refl, rules, slice_get, subst, sym, take}
use Rattle.std.proofs.lemmas.List.{take_all, take_more}
use Rattle.std.proofs.lemmas.Option.{slice_get_past, slice_get_read}
use Rattle.lalrpop_lr1_core.specs.declared.item.Item.{Item}
use Rattle.lalrpop_lane_report.specs.Tracings.{AsksOfItems, pair_asked}
use Rattle.lalrpop_lane_report.proofs.TracingLemmas.{asks_both, asks_none, asks_other}
use Rattle.lalrpop_lane_report.proofs.DrawLemmas.{items_none, items_some}
use Rattle.lalrpop_lane_report.proofs.traces.tracer.draw_items.Goals as goal

pub loop-item-init : goal.loop-item-init
loop-item-init c = record {
  whole = c.requires.whole;
  asks = λ by suits.
      asks_none c.args.ground.now.states.now by (pair_asked c.args.asked) (map pair_asked c.args.visited.now.keys) c.args.graph.now c.requires.whole;
}

pub draw_item-requires-clause-asks : goal.draw_item-requires-clause-asks
draw_item-requires-clause-asks c = c.can_shift_nonterminal.ensures.0 c.if-not-can_shift_nonterminal.false

pub loop-item-preserved-then-not-can_shift_nonterminal : goal.loop-item-preserved-then-not-can_shift_nonterminal
loop-item-preserved-then-not-can_shift_nonterminal c =
    let i = c.loop-item.item-index in
    let items = c.as_slice-items.result.now in
    let more : take (i + 1) items ≡ take i items ++ c.item-item.result ∷ [] =
    take_more items i c.item-item.result c.loop-item-test.true ∙ ap (λ x. take i items ++ x ∷ []) (sym c.item-item.is) in
    record {
      whole = c.loop-item.invariant.whole;
      asks = λ by suits.
          subst (λ (l : List (Item (List ℕ))). AsksOfItems c.args.ground.now.states.now by (pair_asked c.args.asked) l
          (map pair_asked c.args.visited.now.keys) (map pair_asked c.loop-item.visited.keys) c.args.graph.now c.loop-item.graph) (sym more)
          (asks_both c.args.ground.now.states.now by (pair_asked c.args.asked) (take i items) (c.item-item.result ∷ [])
          (map pair_asked c.args.visited.now.keys) (map pair_asked c.loop-item.visited.keys) (map pair_asked c.loop-item.visited.keys)
          c.args.graph.now c.loop-item.graph c.loop-item.graph (c.loop-item.invariant.asks by suits)
          (asks_other c.args.ground.now.states.now by (pair_asked c.args.asked) c.item-item.result
          (λ e. let z = c.can_shift_nonterminal.ensures.1 e in let w : ⊥ = cc in w) (map pair_asked c.loop-item.visited.keys) c.loop-item.graph
          c.loop-item.invariant.whole));
    }

pub loop-item-preserved : goal.loop-item-preserved
loop-item-preserved c =
    let i = c.loop-item.item-index in
    let items = c.as_slice-items.result.now in
    let more : take (i + 1) items ≡ take i items ++ c.item-item.result ∷ [] =
    take_more items i c.item-item.result c.loop-item-test.true ∙ ap (λ x. take i items ++ x ∷ []) (sym c.item-item.is) in
    record {
      whole = c.in_ok-draw_item.ensures.whole;
      asks = λ by suits.
          subst (λ (l : List (Item (List ℕ))). AsksOfItems c.args.ground.now.states.now by (pair_asked c.args.asked) l
          (map pair_asked c.args.visited.now.keys) (map pair_asked c.draw_item.new.visited.keys) c.args.graph.now c.draw_item.new.graph) (sym more)
          (asks_both c.args.ground.now.states.now by (pair_asked c.args.asked) (take i items) (c.item-item.result ∷ [])
          (map pair_asked c.args.visited.now.keys) (map pair_asked c.loop-item.visited.keys) (map pair_asked c.draw_item.new.visited.keys)
          c.args.graph.now c.loop-item.graph c.draw_item.new.graph (c.loop-item.invariant.asks by suits) (c.in_ok-draw_item.ensures.asks by suits));
    }

pub returns-in_default : goal.returns-in_default
returns-in_default c =
    let past : length c.args.ground.now.states.now ≤ c.args.asked.state = search rules in
    let none : slice_get c.args.ground.now.states.now c.args.asked.state ≡ None = slice_get_past c.args.ground.now.states.now c.args.asked.state past in
    record {
      whole = c.requires.whole;
      asks = λ by suits.
          subst (λ (l : List (Item (List ℕ))). AsksOfItems c.args.ground.now.states.now by (pair_asked c.args.asked) l
          (map pair_asked c.args.visited.now.keys) (map pair_asked c.args.visited.now.keys) c.args.graph.now c.args.graph.now)
          (items_none c.args.ground.now.states.now c.args.asked.state none)
          (asks_none c.args.ground.now.states.now by (pair_asked c.args.asked) (map pair_asked c.args.visited.now.keys) c.args.graph.now
          c.requires.whole);
    }

pub returns : goal.returns
returns c =
    let states = c.args.ground.now.states.now in
    let within : c.args.asked.state < length states = search rules in
    let some : slice_get states c.args.asked.state ≡ Some c.in-Some.state.now =
    slice_get_read states (length states) c.args.asked.state c.in-Some.state.now refl within c.in-Some.ensures.lookup.1 in
    let items = c.as_slice-items.result.now in
    record {
      whole = c.loop-item.invariant.whole;
      asks = λ by suits.
          subst (λ (l : List (Item (List ℕ))). AsksOfItems c.args.ground.now.states.now by (pair_asked c.args.asked) l
          (map pair_asked c.args.visited.now.keys) (map pair_asked c.loop-item.visited.keys) c.args.graph.now c.loop-item.graph)
          (items_some c.args.ground.now.states.now c.args.asked.state c.in-Some.state.now (take c.loop-item.item-index items) some
          (take_all c.loop-item.item-index items c.loop-item-test.false ∙ c.as_slice-items.ensures)) (c.loop-item.invariant.asks by suits);
    }
