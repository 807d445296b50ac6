use Rattle.std.proofs.Common.{◌∙◌, ◌∷◌, [], ap, arith, length, length-append, slice_get, subst, sym}
use Rattle.lalrpop_sets.specs.Queues.{Queue}
use Rattle.lalrpop_lr1_theory.proofs.StepLemmas.{some_same}
use Rattle.lalrpop_lr1_build.specs.Turns.{AreNumberedStates, AreStatesOf, IsTurn}
use Rattle.lalrpop_lr1_build.specs.declared.states.kernel.StateKernel.{StateKernel}
use Rattle.lalrpop_lr1_build.proofs.TurnLemmas.{states_more}
use Rattle.lalrpop_lr1_build.proofs.states.numbered_states.states_of_kernels.Goals as goal

pub loop-kernel-init : goal.loop-kernel-init
loop-kernel-init g c =
    let marks = g.L.ClosureLookahead.marks in
    let firsts = g.L.ClosureLookahead.firsts in
    let in_order = g.L.KernelLookahead.in_order in
    let table = c.args.closures.now.numbered in
    let start = c.requires.begun.0 in (
      start,
      c.requires.begun.1.start_is,
      subst (λ ss. AreStatesOf marks firsts in_order table start c.args.kernels.now.kernels ss) (sym c.new-states.ensures.items)
          c.requires.begun.1,
      c.requires.given ∙ sym (ap length c.new-states.ensures.items),
    )

pub push_state-requires-clause-kernel : goal.push_state-requires-clause-kernel
push_state-requires-clause-kernel g c =
    c.loop-kernel.invariant.2.are_kernels c.loop-kernel.kernels.given c.in-Some.kernel c.in-Some.ensures.given

pub loop-kernel-preserved : goal.loop-kernel-preserved
loop-kernel-preserved g c =
    let marks = g.L.ClosureLookahead.marks in
    let firsts = g.L.ClosureLookahead.firsts in
    let in_order = g.L.KernelLookahead.in_order in
    let table = c.args.closures.now.numbered in
    let start = c.loop-kernel.invariant.0 in
    let kernels = c.loop-kernel.kernels.kernels in
    let new = c.push_state.new.kernels.kernels in
    let states = c.loop-kernel.states.items in
    let kernel = c.in-Some.kernel in
    let added = c.in_ok-push_state.ensures.turn in
    let state = added.0 in
    let here = ap (slice_get kernels) (sym c.loop-kernel.invariant.3) ∙ c.in-Some.ensures.given in
    let turn = subst (λ ks. IsTurn marks firsts in_order table kernel ks new state)
    (ap (λ (q : Queue (StateKernel g.row.L.Denot)). q.kernels) c.in-Some.ensures.goes_on) added.2 in
    let count = ap (λ (q : Queue (StateKernel g.row.L.Denot)). q.given) c.in-Some.ensures.goes_on in
    let long = ap length added.1 in (
      start,
      c.loop-kernel.invariant.1,
      subst (λ ss. AreStatesOf marks firsts in_order table start new ss) (sym added.1)
          (states_more marks firsts in_order table start c.requires.closures.numbers kernels new states kernel state
          c.loop-kernel.invariant.2 here turn),
      omega (arith, c.in_ok-push_state.ensures.given, count, c.loop-kernel.invariant.3, long, length-append states (state ∷ [])),
    )

pub returns : goal.returns
returns g c = λ start at.
    let marks = g.L.ClosureLookahead.marks in
    let firsts = g.L.ClosureLookahead.firsts in
    let in_order = g.L.KernelLookahead.in_order in
    let table = c.args.closures.now.numbered in
    let states = c.loop-kernel.states.items in
    subst (λ (s : StateKernel g.row.L.Denot). AreNumberedStates marks firsts in_order table s states)
    (some_same c.loop-kernel.invariant.0 start (sym c.loop-kernel.invariant.1 ∙ at))
    (record {
      kernels = c.loop-kernel.kernels.kernels;
      count = sym c.in_default.ensures.given ∙ c.loop-kernel.invariant.3;
      are = c.loop-kernel.invariant.2;
    })
