use Rattle.std.proofs.Common.{◌≡◌, ◌∙◌, ◌+◌, ◌<◌, ℕ, ap, arith, get_or, length, refl, rules, slice_get, sym}
use Rattle.lalrpop_sets.specs.AscendingLists.{has}
use Rattle.lalrpop_sets.specs.Tokens.{eof_number}
use Rattle.lalrpop_lr1_first.specs.FlowEdges.{edge_seen, edges_seen}
use Rattle.lalrpop_lr1_first.specs.Flows.{all_marks, comes}
use Rattle.lalrpop_lr1_first.specs.Numbers.{set_of_number}
use Rattle.lalrpop_lr1_first.specs.Walks.{place_in_walk}
use Rattle.lalrpop_lr1_first.specs.declared.flowing.Edge.{Edge}
use Rattle.lalrpop_lr1_first.proofs.FlowLemmas.{at_none, flowed_start, marks_below, marks_step, small_came, step_grown, step_none}
use Rattle.lalrpop_lr1_first.proofs.FlowLemmas.{step_same}
use Rattle.lalrpop_lr1_first.proofs.ListLemmas.{at_read_set, read_slice, set_long}
use Rattle.lalrpop_lr1_first.proofs.TableLemmas.{get_mapped, long_map}
use Rattle.lalrpop_lr1_first.proofs.flowing.sweep.Goals.{in-None, in-Some+in_ok-came-in-Some+in_ok-join-in-Some+then-branch}
use Rattle.lalrpop_lr1_first.proofs.flowing.sweep.Goals.{in-Some+in_ok-came-in-Some+in_ok-join-in-Some+else-branch}
use Rattle.lalrpop_lr1_first.proofs.flowing.sweep.Goals as goal

pub loop-step-init : goal.loop-step-init
loop-step-init g c =
    let end = eof_number c.args.terminals.now in
    let marks = g.L.ClosureLookahead.marks in
    let slots = c.args.slots.now.items in (
      refl,
      c.requires.marks,
      flowed_start g.L.ClosureLookahead.firsts end (edges_seen c.args.firsts.now c.args.edges.now) c.args.forward
          (all_marks marks (end + 2) slots) (marks_below marks end slots c.requires.marks),
    )

pub index-requires : goal.index-requires
index-requires g c =
    let firsts = c.args.firsts.now in
    let i = c.place_at-number.result in
    let e : Edge = get_or c.args.edges.now i (record { from = 0; to = 0; rest = 0 }) in
    let there = read_slice c.args.edges.now c.args.edges.now i (record { from = 0; to = 0; rest = 0 }) c.place_at-number.ensures.within refl in
    let here = get_mapped (edge_seen firsts) c.args.edges.now i e there in
    let inn = c.requires.edges i (edge_seen firsts e) here in
    omega (arith, inn.from, c.loop-step.invariant.0, c.loop-step.slots.ok)

pub bounds-firsts-edge : goal.bounds-firsts-edge
bounds-firsts-edge g c =
    let i = c.place_at-number.result in
    let e : Edge = get_or c.args.edges.now i (record { from = 0; to = 0; rest = 0 }) in
    let there = read_slice c.args.edges.now c.args.edges.now i (record { from = 0; to = 0; rest = 0 }) c.place_at-number.ensures.within refl in
    c.requires.rests i e there

pub offset_bounds-firsts-edge : goal.offset_bounds-firsts-edge
offset_bounds-firsts-edge g c =
    let i = c.place_at-number.result in
    let e : Edge = get_or c.args.edges.now i (record { from = 0; to = 0; rest = 0 }) in
    let there = read_slice c.args.edges.now c.args.edges.now i (record { from = 0; to = 0; rest = 0 }) c.place_at-number.ensures.within refl in
    let h : e.rest < length c.args.firsts.now = c.requires.rests i e there in
    search (rules, h)

pub index_mut-requires : goal.index_mut-requires
index_mut-requires g c =
    let firsts = c.args.firsts.now in
    let i = c.place_at-number.result in
    let e : Edge = get_or c.args.edges.now i (record { from = 0; to = 0; rest = 0 }) in
    let there = read_slice c.args.edges.now c.args.edges.now i (record { from = 0; to = 0; rest = 0 }) c.place_at-number.ensures.within refl in
    let here = get_mapped (edge_seen firsts) c.args.edges.now i e there in
    let inn = c.requires.edges i (edge_seen firsts e) here in
    omega (arith, inn.to, c.loop-step.invariant.0, c.loop-step.slots.ok)

pub loop-step-preserved : goal.loop-step-preserved
loop-step-preserved g c =
    let marks = g.L.ClosureLookahead.marks in
    let counts = g.L.ClosureLookahead.firsts in
    let end = eof_number c.args.terminals.now in
    let old = c.args.slots.now.items in
    let now = c.loop-step.slots.items in
    let v = c.loop-step.invariant in
    let firsts = c.args.firsts.now in
    let i = c.place_at-number.result in
    let e : Edge = get_or c.args.edges.now i (record { from = 0; to = 0; rest = 0 }) in
    let there = read_slice c.args.edges.now c.args.edges.now i (record { from = 0; to = 0; rest = 0 }) c.place_at-number.ensures.within refl in
    let here = get_mapped (edge_seen firsts) c.args.edges.now i e there in
    let inn = c.requires.edges i (edge_seen firsts e) here in
    let edges = edges_seen firsts c.args.edges.now in
    let step = c.loop-step.step in
    let walked : i ≡ place_in_walk c.args.forward (length edges) step =
    c.place_at-number.ensures.at ∙ ap (λ n. place_in_walk c.args.forward n step) (sym (long_map (edge_seen firsts) c.args.edges.now)) in
    let passed = ap (slice_get edges) (sym walked) ∙ here in
    let x = c.index.result.now in
    let from_in : e.from < length now = omega (arith, inn.from, v.0) in
    let to_in : e.to < length now = omega (arith, inn.to, v.0) in
    let rest_in : e.rest < length firsts = c.requires.rests i e there in
    elim c.match-index.branch [
      | in-None w ↦ rw (w.slots-is, w.changed-is) (
        v.0,
        v.1,
        step_none marks counts end edges (length old) c.requires.edges c.args.forward step (edge_seen firsts e) passed
            old now v.0 c.loop-step.changed v.2 x c.index.ensures w.in-None.is,
      )
      | in-Some+in_ok-came-in-Some+in_ok-join-in-Some+then-branch w ↦
          let read = at_read_set firsts e.rest w.index-firsts-edge.result rest_in w.index-firsts-edge.is in
          let flow : (k : ℕ) → has (marks w.in_ok-came-in-Some.came) k ≡ comes counts end (set_of_number firsts e.rest)
          (marks w.in-Some.lookahead) k =
          λ k. w.in_ok-came-in-Some.ensures k ∙ ap (λ f. comes counts end f (marks w.in-Some.lookahead) k) read in
          let bound = v.1 e.from w.in-Some.lookahead (at_none now e.from x from_in c.index.ensures ∙ w.in-Some.is) in
          let small = small_came marks counts end edges (length old) c.requires.edges c.args.forward step (edge_seen firsts e) passed old now v.0
          c.loop-step.changed v.2 x c.index.ensures
          w.in-Some.lookahead w.in-Some.is w.in_ok-came-in-Some.came flow w.index_mut.result.now w.join.new.slot w.index_mut.ensures.value
          w.in_ok-join-in-Some.ensures.joined bound in
          rw (w.slots-is, w.changed-is) (
            set_long now e.to w.join.new.slot ∙ v.0,
            marks_step marks end now e.to w.in_ok-came-in-Some.came w.index_mut.result.now w.join.new.slot to_in v.1
                w.index_mut.ensures.value
                w.in_ok-join-in-Some.ensures.joined small,
            step_grown marks counts end edges (length old) c.requires.edges c.args.forward step (edge_seen firsts e) passed old now v.0 c.loop-step.changed
                v.2 x c.index.ensures
                w.in-Some.lookahead w.in-Some.is w.in_ok-came-in-Some.came flow w.index_mut.result.now w.join.new.slot
                w.index_mut.ensures.value
                w.in_ok-join-in-Some.ensures.joined (w.in_ok-join-in-Some.ensures.grown w.if-branch.true (end + 2) small),
          )
      | in-Some+in_ok-came-in-Some+in_ok-join-in-Some+else-branch w ↦
          let read = at_read_set firsts e.rest w.index-firsts-edge.result rest_in w.index-firsts-edge.is in
          let flow : (k : ℕ) → has (marks w.in_ok-came-in-Some.came) k ≡ comes counts end (set_of_number firsts e.rest)
          (marks w.in-Some.lookahead) k =
          λ k. w.in_ok-came-in-Some.ensures k ∙ ap (λ f. comes counts end f (marks w.in-Some.lookahead) k) read in
          let bound = v.1 e.from w.in-Some.lookahead (at_none now e.from x from_in c.index.ensures ∙ w.in-Some.is) in
          let small = small_came marks counts end edges (length old) c.requires.edges c.args.forward step (edge_seen firsts e) passed old now v.0
          c.loop-step.changed v.2 x c.index.ensures
          w.in-Some.lookahead w.in-Some.is w.in_ok-came-in-Some.came flow w.index_mut.result.now w.join.new.slot w.index_mut.ensures.value
          w.in_ok-join-in-Some.ensures.joined bound in
          rw (w.slots-is, w.changed-is) (
            set_long now e.to w.join.new.slot ∙ v.0,
            marks_step marks end now e.to w.in_ok-came-in-Some.came w.index_mut.result.now w.join.new.slot to_in v.1
                w.index_mut.ensures.value
                w.in_ok-join-in-Some.ensures.joined small,
            step_same marks counts end edges (length old) c.requires.edges c.args.forward step (edge_seen firsts e) passed old now v.0 c.loop-step.changed v.2
                x c.index.ensures
                w.in-Some.lookahead w.in-Some.is w.in_ok-came-in-Some.came flow w.index_mut.result.now w.join.new.slot
                w.index_mut.ensures.value
                w.in_ok-join-in-Some.ensures.joined (w.in_ok-join-in-Some.ensures.same w.if-branch.false),
          )
    ]
