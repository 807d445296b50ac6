use Rattle.std.proofs.Common.{◌∙◌, List, [], ap, subst, sym}
use Rattle.lalrpop_lr1_first.specs.NumberedGrammars.{IsNumberTable}
use Rattle.lalrpop_lr1_build.specs.Kernels.{AreKernelItems, IsClosureOf}
use Rattle.lalrpop_lr1_build.specs.Shifts.{shifted_items}
use Rattle.lalrpop_lr1_build.specs.Edges.{EdgesLead}
use Rattle.lalrpop_lr1_build.specs.declared.states.kernel.StateKernel.{StateKernel}
use Rattle.lalrpop_lr1_build.proofs.StateEdgeLemmas.{edges_none}
use Rattle.lalrpop_lr1_build.proofs.TurnLemmas.{turn_of}
use Rattle.lalrpop_lr1_build.proofs.states.numbered_states.state_of.Goals as goal

pub close_kernel-requires-clause-kernel : goal.close_kernel-requires-clause-kernel
close_kernel-requires-clause-kernel g c =
    subst (AreKernelItems g.L.ClosureLookahead.marks g.L.KernelLookahead.in_order c.args.closures.now.numbered) (sym c.as_slice.ensures)
    c.requires.kernel

pub group_items-requires : goal.group_items-requires
group_items-requires g c = subst IsNumberTable (sym c.table-2.ensures) c.requires.closures.numbers

pub returns-clause-turn : goal.returns-clause-turn
returns-clause-turn g c =
    let marks = g.L.ClosureLookahead.marks in
    let firsts = g.L.ClosureLookahead.firsts in
    let in_order = g.L.KernelLookahead.in_order in
    let table = c.args.closures.now.numbered in
    turn_of marks firsts in_order table c.args.kernel.now c.args.kernels.now.kernels c.add_edges.new.kernels.kernels
    c.in_ok-groups.groups.items (record { items = c.in_ok-items.items; edges = c.in_ok-edges.edges })
    (subst (λ xs. IsClosureOf marks firsts in_order table xs c.in_ok-items.items) c.as_slice.ensures c.in_ok-items.ensures)
    (λ s. c.in_ok-groups.ensures.groups s ∙ ap (λ t. shifted_items t.places.items s c.as_slice-3.result.now) c.table-2.ensures
    ∙ ap (λ xs. shifted_items table.places.items s xs) c.as_slice-3.ensures)
    c.in_ok-edges.ensures.edges

pub returns-then-moves_nothing-clause-turn : goal.returns-then-moves_nothing-clause-turn
returns-then-moves_nothing-clause-turn g c =
    let marks = g.L.ClosureLookahead.marks in
    let firsts = g.L.ClosureLookahead.firsts in
    let in_order = g.L.KernelLookahead.in_order in
    let table = c.args.closures.now.numbered in
    let kernels = c.args.kernels.now.kernels in
    let none : List (StateKernel g.row.L.Denot) = [] in
    turn_of marks firsts in_order table c.args.kernel.now kernels kernels none
    (record { items = c.in_ok-items.items; edges = c.new.result })
    (subst (λ xs. IsClosureOf marks firsts in_order table xs c.in_ok-items.items) c.as_slice.ensures c.in_ok-items.ensures)
    (λ s. sym (c.moves_nothing.ensures c.if-moves_nothing.true s)
    ∙ ap (λ t. shifted_items t.places.items s c.as_slice-2.result.now) c.table.ensures
    ∙ ap (λ xs. shifted_items table.places.items s xs) c.as_slice-2.ensures)
    (subst (EdgesLead kernels none kernels) (sym c.new.ensures) (edges_none kernels))
