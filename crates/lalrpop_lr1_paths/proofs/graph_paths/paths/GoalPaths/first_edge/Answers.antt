use Rattle.std.proofs.Common.{◌∙◌, ap, arith, length, refl, sym}
use Rattle.std.proofs.lemmas.Option.{slice_get_read, slice_get_within}
use Rattle.lalrpop_lr1_paths.specs.PathSearches.{edge_of_step}
use Rattle.lalrpop_lr1_paths.proofs.PathLemmas.{first_edge_found, first_edge_none}
use Rattle.lalrpop_lr1_paths.proofs.graph_paths.paths.GoalPaths.first_edge.Goals as goal

pub returns-in_err-number : goal.returns-in_err-number
returns-in_err-number c =
    c.from_residual.ensures ∙ sym (first_edge_none c.args.self.now c.args.node (sym c.in_err-number.ensures))

pub index-requires : goal.index-requires
index-requires c =
    let table = c.args.self.now.table in
    let there = c.requires.found c.args.node c.in_ok-number.number (sym c.in_ok-number.ensures) in
    omega (arith, slice_get_within table.paths.items c.in_ok-number.number there.path there.at, table.paths.ok.0)

pub returns-in-AtGoal : goal.returns-in-AtGoal
returns-in-AtGoal c =
    let self = c.args.self.now in
    let paths = self.table.paths.items in
    let k = c.in_ok-number.number in
    let there = c.requires.found c.args.node k (sym c.in_ok-number.ensures) in
    let at = slice_get_read paths (length paths) k c.index.result.now refl (slice_get_within paths k there.path there.at)
    c.index.ensures in
    sym (first_edge_found self c.args.node k (sym c.in_ok-number.ensures) c.index.result.now at ∙ ap edge_of_step c.in-AtGoal.is)

pub returns-in-OverEdge : goal.returns-in-OverEdge
returns-in-OverEdge c =
    let self = c.args.self.now in
    let paths = self.table.paths.items in
    let k = c.in_ok-number.number in
    let there = c.requires.found c.args.node k (sym c.in_ok-number.ensures) in
    let at = slice_get_read paths (length paths) k c.index.result.now refl (slice_get_within paths k there.path there.at)
    c.index.ensures in
    sym (first_edge_found self c.args.node k (sym c.in_ok-number.ensures) c.index.result.now at ∙ ap edge_of_step c.in-OverEdge.is)
