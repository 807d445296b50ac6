use Rattle.std.proofs.Common.{◌≡◌, ◌∙◌, ◌<◌, ℕ, List, ap, arith, length, map, subst, sym}
use Rattle.std.specs.Global.{Global}
use Rattle.std.specs.Prelude.{Vec}
use Rattle.lalrpop_lr1_core.specs.declared.state.State.{State}
use Rattle.lalrpop_lr1_check_lookaheads.specs.CarriedSets.{AreSetsOfReductions, IsSetOfEnd}
use Rattle.lalrpop_lr1_check_lookaheads.proofs.GainLemmas.{get_at}
use Rattle.lalrpop_lr1_check_lookaheads.proofs.KeyedSetLemmas.{mapped_push}
use Rattle.lalrpop_lr1_check_lookaheads.proofs.PairLemmas.{ArePaired, paired_more, paired_none}
use Rattle.lalrpop_lr1_check_lookaheads.proofs.lookaheads.carried.sets_of_states.Goals as goal

pub loop-state-init : goal.loop-state-init
loop-state-init c =
    let Fits = λ (n : ℕ) (state : State (List ℕ)) (own : List (List ℕ)). AreSetsOfReductions (IsSetOfEnd c.args.ends.now n) state.reductions own
    in
    subst (λ l. ArePaired Fits c.args.states.now (map (λ (own : Vec (List ℕ) Global). own.items) l) 0) (sym c.new-sets.ensures.items)
    (paired_none Fits c.args.states.now)

pub loop-state-preserved : goal.loop-state-preserved
loop-state-preserved c =
    let n = c.loop-state.state in
    let state = c.index-states-state.result in
    let here : n < length c.args.states.now = omega arith in
    paired_more (λ (m : ℕ) (state : State (List ℕ)) (own : List (List ℕ)). AreSetsOfReductions (IsSetOfEnd c.args.ends.now m) state.reductions own)
    c.args.states.now (map (λ (own : Vec (List ℕ) Global). own.items) c.loop-state.sets.items)
    (map (λ (own : Vec (List ℕ) Global). own.items) c.push.new.self.items) n state c.in_ok-sets_of_reductions.field-0.items
    c.loop-state.invariant (get_at c.args.states.now n state here c.index-states-state.is)
    (ap (map (λ (own : Vec (List ℕ) Global). own.items)) c.in_ok-push.ensures.items
    ∙ mapped_push (λ (own : Vec (List ℕ) Global). own.items) c.loop-state.sets.items c.in_ok-sets_of_reductions.field-0)
    (subst (λ l. AreSetsOfReductions (IsSetOfEnd c.args.ends.now n) l c.in_ok-sets_of_reductions.field-0.items)
    (c.as_slice-reductions.ensures ∙ ap (λ (s : State (List ℕ)). s.reductions) (sym c.index-states-state.is))
    c.in_ok-sets_of_reductions.ensures)

pub returns : goal.returns
returns c =
    let done = c.loop-state.invariant in
    let count : length (map (λ (own : Vec (List ℕ) Global). own.items) c.loop-state.sets.items) ≡ length c.args.states.now =
    omega (arith, done.count, done.within) in
    record { count = count; each = done.each }
