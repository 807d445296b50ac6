use Rattle.std.proofs.Common.{◌∙◌, ◌+◌, refl, subst, sym}
use Rattle.lalrpop_sets.specs.Tokens.{eof_number}
use Rattle.lalrpop_lr1_first.specs.FlowEdges.{edge_seen, edges_seen}
use Rattle.lalrpop_lr1_first.specs.Flows.{all_marks}
use Rattle.lalrpop_lr1_first.specs.FlowSteps.{HasFlowedAlong}
use Rattle.lalrpop_lr1_first.proofs.FlowLemmas.{closed_has, flowed_all, flowing_start, marks_below}
use Rattle.lalrpop_lr1_first.proofs.TableLemmas.{long_map}
use Rattle.lalrpop_lr1_first.proofs.flowing.flow.Goals as goal

pub loop-changed-init : goal.loop-changed-init
loop-changed-init g c =
    let end = eof_number c.args.terminals.now in
    let marks = g.L.ClosureLookahead.marks in
    let slots = c.args.slots.now.items in (
      flowing_start g.L.ClosureLookahead.firsts end (edges_seen c.args.firsts.now c.args.edges.now) (all_marks marks (end + 2) slots)
          (marks_below marks end slots c.requires.marks),
      c.requires.marks,
      refl,
    )

pub loop-changed-preserved : goal.loop-changed-preserved
loop-changed-preserved g c =
    let end = eof_number c.args.terminals.now in
    let edges = edges_seen c.args.firsts.now c.args.edges.now in
    let i = c.loop-changed.invariant in
    let f = c.in_ok-changed.ensures.flows in (
      record {
        below = f.below;
        kept = λ s k h. f.kept s k (i.0.kept s k h);
        sound = f.sound (all_marks g.L.ClosureLookahead.marks (end + 2) c.args.slots.now.items) i.0.sound;
        closed = λ z. flowed_all g.L.ClosureLookahead.firsts end edges c.loop-changed.forward
            (all_marks g.L.ClosureLookahead.marks (end + 2) c.sweep.new.slots.items)
            (subst (λ n. HasFlowedAlong g.L.ClosureLookahead.firsts end edges c.loop-changed.forward n
            (all_marks g.L.ClosureLookahead.marks (end + 2) c.sweep.new.slots.items))
            (sym (long_map (edge_seen c.args.firsts.now) c.args.edges.now)) (f.closed z));
      },
      c.in_ok-changed.ensures.marks,
      c.sweep.ensures.count ∙ i.2,
    )

pub returns-clause-flows : goal.returns-clause-flows
returns-clause-flows g c =
    let end = eof_number c.args.terminals.now in
    let marks = g.L.ClosureLookahead.marks in
    let i = c.loop-changed.invariant.0 in
    λ s k. (
      i.sound s k,
      closed_has g.L.ClosureLookahead.firsts end (edges_seen c.args.firsts.now c.args.edges.now)
          (all_marks marks (end + 2) c.args.slots.now.items) (all_marks marks (end + 2) c.loop-changed.slots.items) i.kept
          (i.closed c.loop-changed-test.false) s k,
    )
