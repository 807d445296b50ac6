use Rattle.std.proofs.Common.{◌+◌, ◌<◌, ◌≤◌, get_or, length, set, subst, sym}
use Rattle.std.proofs.lemmas.List.{set_past}
use Rattle.lalrpop_lr1_core.specs.IncomingEdges.{HasNewest, HaveAllTo}
use Rattle.lalrpop_lr1_core.specs.declared.edge.Edge.{Edge}
use Rattle.lalrpop_lr1_core.proofs.IncomingLemmas.{newest_goes_on, previous_noted}
use Rattle.lalrpop_lr1_core.proofs.state_graph.link.Goals as goal

pub returns-then-target-newest-clause-newest : goal.returns-then-target-newest-clause-newest
returns-then-target-newest-clause-newest c =
    let edges = c.args.edges.now in
    let place = c.args.place in
    let newest = c.args.newest.now in
    subst (λ (e : Edge). HasNewest edges (place + 1) (set newest e.target (place + 1))) c.index-edges-place.is
    (newest_goes_on edges place c.index-edges-place.result newest c.requires.place c.index-edges-place.is c.requires.newest)

pub returns-then-target-newest-clause-previous : goal.returns-then-target-newest-clause-previous
returns-then-target-newest-clause-previous c = λ edge at.
    let edges = c.args.edges.now in
    let place = c.args.place in
    let newest = c.args.newest.now in
    let within : c.index-edges-place.result.target < length newest =
    subst (λ (e : Edge). e.target < length newest) (sym c.index-edges-place.is) c.if-target-newest.true in
    subst (λ (e : Edge). HaveAllTo edge.target edges place (get_or newest e.target 0)) c.index-edges-place.is
    (previous_noted edges place c.index-edges-place.result newest c.index-edges-place.is c.requires.newest within edge at)

pub returns-else-target-newest-clause-newest : goal.returns-else-target-newest-clause-newest
returns-else-target-newest-clause-newest c =
    let edges = c.args.edges.now in
    let place = c.args.place in
    let newest = c.args.newest.now in
    let edge = c.index-edges-place.result in
    let past : length newest ≤ edge.target =
    subst (λ (e : Edge). length newest ≤ e.target) (sym c.index-edges-place.is) c.if-target-newest.false in
    subst (HasNewest edges (place + 1)) (set_past newest edge.target (place + 1) past)
    (newest_goes_on edges place edge newest c.requires.place c.index-edges-place.is c.requires.newest)
