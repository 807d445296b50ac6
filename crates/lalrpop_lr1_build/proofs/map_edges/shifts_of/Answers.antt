use Rattle.std.proofs.Common.{◌≡◌, ◌∙◌, ◌+◌, ◌-◌, ◌<◌, ℕ, Some, ap}
use Rattle.std.proofs.Common.{arith, get_or, length, refl, slice_get, subst, sym, take}
use Rattle.std.specs.BTreeMap.{insert_entry}
use Rattle.lalrpop_grammar_symbols.specs.contracts.terminal.TerminalStringOrd.TheImpl as terminals_order
use Rattle.lalrpop_lr1_core.specs.declared.state_index.StateIndex.{StateIndex}
use Rattle.lalrpop_lr1_theory.proofs.ListLemmas.{get_contains}
use Rattle.lalrpop_lr1_first.specs.FirstNumbers.{name_count}
use Rattle.lalrpop_lr1_first.proofs.ListLemmas.{get_slice, read_slice}
use Rattle.lalrpop_lr1_build.specs.PublicStates.{AreShifts}
use Rattle.lalrpop_lr1_build.proofs.EntryLemmas.{taken_all, taken_ascend}
use Rattle.lalrpop_lr1_build.proofs.ListLemmas.{take_get}
use Rattle.lalrpop_lr1_build.proofs.MapEdgeLemmas.{shifts_less, shifts_more}
use Rattle.lalrpop_lr1_build.proofs.map_edges.shifts_of.Goals.{else-edge-count, then-edge-count+in_ok-try_clone+in_ok-insert}
use Rattle.lalrpop_lr1_build.proofs.map_edges.shifts_of.Goals as goal

pub bounds-terminals-edge : goal.bounds-terminals-edge
bounds-terminals-edge c =
    let table = c.args.table.now in
    let edges = c.args.edges.now in
    let i = c.loop-edge.edge-index in
    let edge : ℕ × ℕ = get_or edges i (0, 0) in
    let below = c.requires.known edge.0 edge.1 (get_contains edges i edge (read_slice edges edges i (0, 0) c.loop-edge-test.true refl)) in
    let all = ap length (c.as_slice-terminals.ensures ∙ ap (λ ts. ts.all) c.terminals.ensures) in
    omega (arith, below, all, ap length c.names-count.ensures)

pub offset_bounds-terminals-edge : goal.offset_bounds-terminals-edge
offset_bounds-terminals-edge c =
    let table = c.args.table.now in
    let edges = c.args.edges.now in
    let i = c.loop-edge.edge-index in
    let edge : ℕ × ℕ = get_or edges i (0, 0) in
    let below = c.requires.known edge.0 edge.1 (get_contains edges i edge (read_slice edges edges i (0, 0) c.loop-edge-test.true refl)) in
    let all = ap length (c.as_slice-terminals.ensures ∙ ap (λ ts. ts.all) c.terminals.ensures) in
    omega (arith, below, all, ap length c.names-count.ensures)

pub loop-edge-preserved : goal.loop-edge-preserved
loop-edge-preserved c =
    let table = c.args.table.now in
    let ts = table.terminals.now in
    let edges = c.args.edges.now in
    let i = c.loop-edge.edge-index in
    let edge : ℕ × ℕ = get_or edges i (0, 0) in
    let at = read_slice edges edges i (0, 0) c.loop-edge-test.true refl in
    let more = take_get edges i edge at in
    let ascending = taken_ascend edges i edge at c.requires.ascending in
    let count = ap length c.names-count.ensures in
    let set = c.requires.table.terminals in
    elim c.if-edge-count.branch [
      | then-edge-count+in_ok-try_clone+in_ok-insert w ↦
          let j = edge.0 - length c.names-count.result.now in
          let terminal = w.index-terminals-edge.result in
          let t = w.in_ok-try_clone.field-0 in
          let own = c.as_slice-terminals.ensures ∙ ap (λ s. s.all) c.terminals.ensures in
          let below = c.requires.known edge.0 edge.1 (get_contains edges i edge at) in
          let within : j < length c.as_slice-terminals.result.now = omega (arith, below, count, ap length own, w.if-edge-count.true) in
          let read = get_slice c.as_slice-terminals.result.now j terminal within w.index-terminals-edge.is in
          let listed : slice_get ts.all j ≡ Some t =
          ap (λ l. slice_get l j) (sym own) ∙ read ∙ ap Some (sym w.in_ok-try_clone.ensures) in
          let index : StateIndex = record { 0 = edge.1 } in
          subst (λ ss. AreShifts (name_count table) ts.all (take (i + 1) edges) ss) (sym w.shifts-is)
          (subst (λ ss. AreShifts (name_count table) ts.all (take (i + 1) edges) ss) (sym w.in_ok-insert.ensures.ok)
          (subst (λ es. AreShifts (name_count table) ts.all es (insert_entry (terminals_order.ghosts).cmp c.loop-edge.shifts t
          index)) (sym more)
          (shifts_more ts set (name_count table) (take i edges) c.loop-edge.shifts c.loop-edge.invariant edge.0 edge.1 ascending j t
          (omega (arith, count, w.if-edge-count.true)) listed)))
      | else-edge-count w ↦
          subst (λ ss. AreShifts (name_count table) ts.all (take (i + 1) edges) ss) (sym w.shifts-is)
          (subst (λ es. AreShifts (name_count table) ts.all es c.loop-edge.shifts) (sym more)
          (shifts_less ts set (name_count table) (take i edges) c.loop-edge.shifts c.loop-edge.invariant edge.0 edge.1 ascending
          (omega (arith, count, w.if-edge-count.false))))
    ]

pub returns : goal.returns
returns c =
    subst (λ es. AreShifts (name_count c.args.table.now) c.args.table.now.terminals.now.all es c.loop-edge.shifts)
    (taken_all c.args.edges.now c.loop-edge.edge-index c.loop-edge-test.false) c.loop-edge.invariant
