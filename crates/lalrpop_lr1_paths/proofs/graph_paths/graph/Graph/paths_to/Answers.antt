use Rattle.std.proofs.Common.{arith, heap_items, subst}
use Rattle.lalrpop_lr1_paths.specs.Graphs.{graph_edges}
use Rattle.lalrpop_lr1_paths.specs.PathSearches.{IsPathSearch, path_numbers}
use Rattle.lalrpop_lr1_paths.proofs.SearchLemmas.{search_starts}
use Rattle.lalrpop_lr1_paths.proofs.StepLemmas.{nothing_left, step_keeps, step_smaller}
use Rattle.lalrpop_lr1_paths.proofs.graph_paths.graph.Graph.paths_to.Goals as goal

pub loop-entry-init : goal.loop-entry-init
loop-entry-init c =
    let table = c.new-table.result in
    search_starts (graph_edges c.args.self.now) c.args.goals.now (path_numbers table) table.paths.items
    (heap_items c.in_ok-waiting.waiting) c.new-table.ensures.none c.in_ok-waiting.ensures

pub loop-entry-smaller : goal.loop-entry-smaller
loop-entry-smaller c =
    step_smaller c.args.self.now c.requires.graph c.args.goals.now c.in-Some.field-0 c.loop-entry.table (heap_items c.loop-entry.waiting)
    (heap_items c.pop.new.self) c.in-Some.ensures.permutation c.loop-entry.invariant c.settle.new.table
    (heap_items c.settle.new.waiting) c.in_ok-settle.ensures

pub loop-entry-preserved : goal.loop-entry-preserved
loop-entry-preserved c =
    step_keeps c.args.self.now c.requires.graph c.args.goals.now c.in-Some.field-0 c.loop-entry.table (heap_items c.loop-entry.waiting)
    (heap_items c.pop.new.self) c.in-Some.ensures.permutation c.loop-entry.invariant c.settle.new.table
    (heap_items c.settle.new.waiting) c.in_ok-settle.ensures

pub returns-clause-paths : goal.returns-clause-paths
returns-clause-paths c =
    let waiting = c.loop-entry.waiting in
    let table = c.loop-entry.table in
    subst (λ w. IsPathSearch (graph_edges c.args.self.now) c.args.goals.now (path_numbers table) table.paths.items w)
    (nothing_left (heap_items waiting) (omega (arith, c.in_default.ensures.none, waiting.data.ok.0))) c.loop-entry.invariant
