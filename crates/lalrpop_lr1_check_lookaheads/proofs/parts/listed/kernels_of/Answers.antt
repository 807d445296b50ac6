use Rattle.std.proofs.Common.{◌<◌, ◌∙◌, ap, arith, length, length-append, map, subst, sym}
use Rattle.std.proofs.Common.{ℕ, List, [], ◌∷◌}
use Rattle.lalrpop_lr1_core.specs.declared.state.State.{State}
use Rattle.lalrpop_lr1_check_lookaheads.specs.ListTests.{HaveSameElements}
use Rattle.lalrpop_lr1_check_lookaheads.specs.ListedItems.{item_key, moved_keys}
use Rattle.lalrpop_lr1_check_lookaheads.proofs.GainLemmas.{get_at}
use Rattle.lalrpop_lr1_check_lookaheads.proofs.ListedLemmas.{kernels_more}
use Rattle.lalrpop_lr1_check_lookaheads.proofs.parts.listed.kernels_of.Goals as goal

pub loop-state-preserved : goal.loop-state-preserved
loop-state-preserved c =
    let i = c.loop-state.state in
    let states = c.args.states.now in
    let st = c.index-states-state.result in
    let here : i < length states = omega arith in
    let own : HaveSameElements (map item_key c.in_ok-kernel_of.field-0.keys) (moved_keys i st.items.vec) =
    subst (λ l. HaveSameElements (map item_key c.in_ok-kernel_of.field-0.keys) (moved_keys i l))
    (c.as_slice.ensures ∙ ap (λ (s : State (List ℕ)). s.items.vec) (sym c.index-states-state.is)) c.in_ok-kernel_of.ensures in
    record {
      count = ap length c.in_ok-push.ensures.items
          ∙ omega (arith, length-append c.loop-state.kernels.items (c.in_ok-kernel_of.field-0 ∷ []), c.loop-state.invariant.count);
      kernels = kernels_more (λ k. map item_key k.keys) c.loop-state.kernels.items c.push.new.self.items c.in_ok-kernel_of.field-0
          states i st c.loop-state.invariant.kernels c.loop-state.invariant.count c.in_ok-push.ensures.items
          (get_at states i st here c.index-states-state.is) own;
    }
