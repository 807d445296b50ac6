use Rattle.std.proofs.Common.{◌∙◌, Some, ap, arith, length, refl, subst, sym}
use Rattle.std.proofs.lemmas.Option.{slice_get_read, slice_get_within}
use Rattle.lalrpop_lr1_paths.specs.Graphs.{graph_edges}
use Rattle.lalrpop_lr1_paths.specs.PathSearches.{path_numbers}
use Rattle.lalrpop_lr1_paths.proofs.PathLemmas.{IsOnTheWay, no_path, way_ends, way_goes_on, way_starts, weight_found, weight_none}
use Rattle.lalrpop_lr1_paths.proofs.graph_paths.paths.GoalPaths.path.Goals as goal

pub returns-in_default-clause-path : goal.returns-in_default-clause-path
returns-in_default-clause-path c =
    let self = c.args.self.now in
    no_path (graph_edges self.graph.now) self.goals.now (path_numbers self.table) self.table.paths.items c.requires c.args.node
    (sym c.in_default.ensures)

pub returns-in_default-clause-weight : goal.returns-in_default-clause-weight
returns-in_default-clause-weight c = sym (weight_none c.args.self.now c.args.node (sym c.in_default.ensures))

pub loop-goal-init : goal.loop-goal-init
loop-goal-init c =
    let self = c.args.self.now in
    let found = c.requires.found c.args.node c.in-Some.first (sym c.in-Some.ensures) in (
      found.path.weight,
      weight_found self c.args.node c.in-Some.first (sym c.in-Some.ensures) found.path found.at,
      subst (λ es. IsOnTheWay (graph_edges self.graph.now) self.goals.now (path_numbers self.table) self.table.paths.items c.args.node
          found.path.weight es c.in-Some.first) (sym c.new-edges.ensures.items)
          (way_starts (graph_edges self.graph.now) self.goals.now (path_numbers self.table) self.table.paths.items c.requires c.args.node
          c.in-Some.first (sym c.in-Some.ensures)),
    )

pub index-requires : goal.index-requires
index-requires c =
    let table = c.args.self.now.table in
    let way = c.loop-goal.invariant.2 in
    omega (arith, slice_get_within table.paths.items c.loop-goal.number way.from_now.path way.from_now.at, table.paths.ok.0)

pub returns-in-AtGoal : goal.returns-in-AtGoal
returns-in-AtGoal c =
    let self = c.args.self.now in
    let paths = self.table.paths.items in
    let k = c.loop-goal.number in
    let weight = c.loop-goal.invariant.0 in
    let way = c.loop-goal.invariant.2 in
    let path = c.index.result.now in
    let at = slice_get_read paths (length paths) k path refl (slice_get_within paths k way.from_now.path way.from_now.at)
    c.index.ensures in
    let end = way_ends (graph_edges self.graph.now) self.goals.now (path_numbers self.table) paths c.requires c.args.node weight
    c.loop-goal.edges.items k way path at c.in-AtGoal.goal c.in-AtGoal.is in
    record { path = end.0; weight = ap Some end.1 ∙ sym c.loop-goal.invariant.1 }

pub loop-goal-smaller : goal.loop-goal-smaller
loop-goal-smaller c =
    let self = c.args.self.now in
    let paths = self.table.paths.items in
    let k = c.loop-goal.number in
    let weight = c.loop-goal.invariant.0 in
    let way = c.loop-goal.invariant.2 in
    let path = c.index.result.now in
    let at = slice_get_read paths (length paths) k path refl (slice_get_within paths k way.from_now.path way.from_now.at)
    c.index.ensures in
    (way_goes_on (graph_edges self.graph.now) self.goals.now (path_numbers self.table) paths c.requires c.args.node weight
    c.loop-goal.edges.items k way path at c.in-OverEdge.edge c.in-OverEdge.rest c.in-OverEdge.is).1

pub loop-goal-preserved : goal.loop-goal-preserved
loop-goal-preserved c =
    let self = c.args.self.now in
    let paths = self.table.paths.items in
    let k = c.loop-goal.number in
    let weight = c.loop-goal.invariant.0 in
    let way = c.loop-goal.invariant.2 in
    let path = c.index.result.now in
    let at = slice_get_read paths (length paths) k path refl (slice_get_within paths k way.from_now.path way.from_now.at)
    c.index.ensures in (
      weight,
      c.loop-goal.invariant.1,
      subst (λ es. IsOnTheWay (graph_edges self.graph.now) self.goals.now (path_numbers self.table) paths c.args.node weight es
          c.in-OverEdge.rest) (sym c.in_ok-push-in-OverEdge.ensures.items)
          (way_goes_on (graph_edges self.graph.now) self.goals.now (path_numbers self.table) paths c.requires c.args.node weight
          c.loop-goal.edges.items k way path at c.in-OverEdge.edge c.in-OverEdge.rest c.in-OverEdge.is).0,
    )
