use Rattle.std.proofs.Common.{◌↔◌, List, ℕ, drop, map}
use Rattle.lalrpop_lr1_theory.specs.States.{HasEdge, LookaheadSet}
use Rattle.lalrpop_lr1_core.specs.Views.{lr_state_view, production_symbol_view}
use Rattle.lalrpop_lr1_theory.specs.PropagatedNexts.{LeadAlong}
use Rattle.lalrpop_lr1_check_lookaheads.proofs.lookaheads.walking.walk.Given as goal

abbrev pub invariant-loop-symbol : goal.invariant-loop-symbol
invariant-loop-symbol l = (look : List ℕ → LookaheadSet) (m : ℕ) →
    LeadAlong (HasEdge (map (lr_state_view look) l.states)) (map production_symbol_view (drop l.symbol-index l.symbols)) l.number m
    ↔ LeadAlong (HasEdge (map (lr_state_view look) l.states)) (map production_symbol_view l.symbols) l.fn.from m
