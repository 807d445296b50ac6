use Rattle.std.proofs.Common.{◌≡◌, ◌↔◌, Option, Some, ℕ, map, subst}
use Rattle.lalrpop_lr1_theory.specs.States.{HasEdge}
use Rattle.lalrpop_lr1_core.specs.Views.{lr_state_view, production_symbol_view}
use Rattle.lalrpop_lr1_check_lookaheads.proofs.GainLemmas.{get_at}
use Rattle.lalrpop_lr1_check_lookaheads.proofs.WalkLemmas.{walk_ends, walk_more, walk_stops}
use Rattle.lalrpop_lr1_check_lookaheads.proofs.lookaheads.walking.walk.Goals as goal

pub returns-in-None : goal.returns-in-None
returns-in-None c = λ look m.
    let Edge = HasEdge (map (lr_state_view look) c.args.states.now) in
    let x = c.symbol-item.result in
    walk_stops Edge c.args.symbols.now c.loop-symbol.symbol-index x c.loop-symbol.number c.args.from m
    (get_at c.args.symbols.now c.loop-symbol.symbol-index x c.loop-symbol-test.true c.symbol-item.is)
    (λ k. subst (λ (o : Option ℕ). (o ≡ Some k) ↔ Edge c.loop-symbol.number (production_symbol_view x) k) c.in-None.is
    (c.lead.ensures look k)) (c.loop-symbol.invariant look m)

pub loop-symbol-preserved : goal.loop-symbol-preserved
loop-symbol-preserved c = λ look m.
    let Edge = HasEdge (map (lr_state_view look) c.args.states.now) in
    let x = c.symbol-item.result in
    walk_more Edge c.args.symbols.now c.loop-symbol.symbol-index x c.loop-symbol.number c.in-Some.next c.args.from m
    (get_at c.args.symbols.now c.loop-symbol.symbol-index x c.loop-symbol-test.true c.symbol-item.is)
    (λ k. subst (λ (o : Option ℕ). (o ≡ Some k) ↔ Edge c.loop-symbol.number (production_symbol_view x) k) c.in-Some.is
    (c.lead.ensures look k)) (c.loop-symbol.invariant look m)

pub returns : goal.returns
returns c = λ look m.
    walk_ends (HasEdge (map (lr_state_view look) c.args.states.now)) c.args.symbols.now c.loop-symbol.symbol-index
    c.loop-symbol.number c.args.from m c.loop-symbol-test.false (c.loop-symbol.invariant look m)
