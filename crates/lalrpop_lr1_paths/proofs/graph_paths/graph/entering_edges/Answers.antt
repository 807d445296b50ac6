use Rattle.std.proofs.Common.{arith, get_or, subst, sym, take}
use Rattle.std.proofs.lemmas.List.{length-take-le, take_all, take_more}
use Rattle.lalrpop_lr1_paths.specs.Graphs.{edges_at}
use Rattle.lalrpop_lr1_paths.proofs.EnteringLemmas.{AreFirstEntering, entering_more, none_entered}
use Rattle.lalrpop_lr1_paths.proofs.graph_paths.graph.entering_edges.Goals as goal

pub loop-number-init : goal.loop-number-init
loop-number-init c = none_entered c.new-lists.result c.new-lists.ensures.empty

pub loop-number-preserved : goal.loop-number-preserved
loop-number-preserved c =
    let number = c.loop-number.number in
    let edges = c.args.edges.now in
    let edge = get_or edges number (record { from = 0; to = 0; weight = 0 }) in
    subst (λ l. AreFirstEntering l (edges_at c.add_entering.new.lists))
    (sym (take_more edges number (record { from = 0; to = 0; weight = 0 }) c.loop-number-test.true))
    (entering_more (take number edges) edge number (edges_at c.loop-number.lists) (edges_at c.add_entering.new.lists)
    (sym (length-take-le number edges (omega (arith, c.loop-number-test.true)))) c.in_ok-add_entering.ensures c.loop-number.invariant)

pub returns : goal.returns
returns c =
    subst (λ l. AreFirstEntering l (edges_at c.loop-number.lists))
    (take_all c.loop-number.number c.args.edges.now c.loop-number-test.false)
    c.loop-number.invariant
