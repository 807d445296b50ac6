use Rattle.std.proofs.Common.{◌+◌, ◌∙◌, arith, length, refl, subst, sym}
use Rattle.std.proofs.lemmas.Option.{slice_get_read, slice_get_within}
use Rattle.lalrpop_lr1_paths.specs.GraphPaths.{HasPathIfSome}
use Rattle.lalrpop_lr1_paths.specs.Graphs.{graph_edges}
use Rattle.lalrpop_lr1_paths.specs.PathSearches.{path_numbers}
use Rattle.lalrpop_lr1_paths.proofs.PathLemmas.{no_path, path_there, weight_found, weight_none}
use Rattle.lalrpop_lr1_paths.proofs.graph_paths.paths.GoalPaths.weight.Goals as goal

pub returns-in_err-number-clause-path : goal.returns-in_err-number-clause-path
returns-in_err-number-clause-path c =
    let self = c.args.self.now in
    subst (λ o. HasPathIfSome (graph_edges self.graph.now) self.goals.now c.args.node o) (sym c.from_residual.ensures)
    (no_path (graph_edges self.graph.now) self.goals.now (path_numbers self.table) self.table.paths.items c.requires c.args.node
    (sym c.in_err-number.ensures))

pub returns-in_err-number-clause-weight : goal.returns-in_err-number-clause-weight
returns-in_err-number-clause-weight c =
    c.from_residual.ensures ∙ sym (weight_none c.args.self.now c.args.node (sym c.in_err-number.ensures))

pub index-requires : goal.index-requires
index-requires c =
    let table = c.args.self.now.table in
    let there = c.requires.found c.args.node c.in_ok-number.number (sym c.in_ok-number.ensures) in
    omega (arith, slice_get_within table.paths.items c.in_ok-number.number there.path there.at, table.paths.ok.0)

pub returns-clause-path : goal.returns-clause-path
returns-clause-path c =
    let self = c.args.self.now in
    path_there (graph_edges self.graph.now) self.goals.now (path_numbers self.table) self.table.paths.items c.requires
    (c.in_ok-number.number + 1) c.args.node c.in_ok-number.number (omega arith) (sym c.in_ok-number.ensures)

pub returns-clause-weight : goal.returns-clause-weight
returns-clause-weight c =
    let self = c.args.self.now in
    let paths = self.table.paths.items in
    let k = c.in_ok-number.number in
    let there = c.requires.found c.args.node k (sym c.in_ok-number.ensures) in
    let at = slice_get_read paths (length paths) k c.index.result.now refl (slice_get_within paths k there.path there.at)
    c.index.ensures in
    sym (weight_found self c.args.node k (sym c.in_ok-number.ensures) c.index.result.now at)
