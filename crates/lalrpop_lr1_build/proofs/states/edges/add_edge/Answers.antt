use Rattle.std.proofs.Common.{ap, inr, sym, subst}
use Rattle.std.proofs.lemmas.Bool.{false≢true}
use Rattle.lalrpop_sets.specs.Queues.{Queue}
use Rattle.lalrpop_lr1_build.specs.declared.states.kernel.StateKernel.{StateKernel}
use Rattle.lalrpop_lr1_build.proofs.QueueLemmas.{StandsIn, kernel_eq, kernel_exact, kernel_self, stands_in}
use Rattle.lalrpop_lr1_build.proofs.states.edges.add_edge.Goals as goal

pub returns-clause-added : goal.returns-clause-added
returns-clause-added g c =
    let eq = g.L.PartialEq.eq in
    let group = c.args.group in
    let old = c.args.kernels.now.kernels in
    let new = c.add_state.new.self.kernels in
    let s = stands_in (kernel_eq eq) (kernel_exact eq g.met.L.KernelLookahead.equal_are_one) (kernel_self eq g.met.L.Eq.laws.refl)
    group old new
    (ap (λ (q : Queue (StateKernel g.row.L.Denot)). q.kernels) c.in_ok-target.ensures.added) in
    let t = subst (λ k. StandsIn group k old new) (sym c.in_ok-target.ensures.index) s in
    inr (record {
      target = c.in_ok-target.target;
      some = λ e. false≢true (c.if-is_empty.ensures.1 e);
      at = t.at;
      edges = c.in_ok-push.ensures.ok;
      kernels = t.kernels;
    })
