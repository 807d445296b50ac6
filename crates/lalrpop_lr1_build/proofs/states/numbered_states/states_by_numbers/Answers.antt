use Rattle.std.proofs.Common.{◌≡◌, [], Global, Some, Vec, ap, slice_get, subst, sym}
use Rattle.std.proofs.lemmas.Result.{IfOk-weaker}
use Rattle.lalrpop_sets.specs.Queues.{Queue}
use Rattle.lalrpop_lr1_build.specs.Turns.{AreNumberedStates, AreStatesOf}
use Rattle.lalrpop_lr1_build.specs.declared.states.kernel.StateKernel.{StateKernel}
use Rattle.lalrpop_lr1_build.specs.declared.states.numbered_states.NumberedState.{NumberedState}
use Rattle.lalrpop_lr1_build.proofs.TurnLemmas.{states_none}
use Rattle.lalrpop_lr1_build.proofs.states.numbered_states.states_by_numbers.Goals as goal

pub states_of_kernels-requires-clause-begun : goal.states_of_kernels-requires-clause-begun
states_of_kernels-requires-clause-begun g c =
    let marks = g.L.ClosureLookahead.marks in
    let firsts = g.L.ClosureLookahead.firsts in
    let in_order = g.L.KernelLookahead.in_order in
    let table = c.args.closures.now.numbered in
    let start = c.args.start in (
      start,
      subst (λ (q : Queue (StateKernel g.row.L.Denot)). AreStatesOf marks firsts in_order table start q.kernels [])
          (sym c.in_ok-kernels.ensures) (states_none marks firsts in_order table start c.requires.start),
    )

pub states_of_kernels-requires-clause-given : goal.states_of_kernels-requires-clause-given
states_of_kernels-requires-clause-given g c =
    ap (λ (q : Queue (StateKernel g.row.L.Denot)). q.given) c.in_ok-kernels.ensures

pub returns : goal.returns
returns g c =
    let marks = g.L.ClosureLookahead.marks in
    let firsts = g.L.ClosureLookahead.firsts in
    let in_order = g.L.KernelLookahead.in_order in
    let table = c.args.closures.now.numbered in
    let start = c.args.start in
    IfOk-weaker c.states_of_kernels.result
    (λ (states : Vec (NumberedState g.row.L.Denot) Global). (first : StateKernel g.row.L.Denot)
    → slice_get c.in_ok-kernels.kernels.kernels 0 ≡ Some first → AreNumberedStates marks firsts in_order table first states.items)
    (λ (states : Vec (NumberedState g.row.L.Denot) Global). AreNumberedStates marks firsts in_order table start states.items)
    (λ states h. h start (ap (λ (q : Queue (StateKernel g.row.L.Denot)). slice_get q.kernels 0) c.in_ok-kernels.ensures))
    c.states_of_kernels.ensures
