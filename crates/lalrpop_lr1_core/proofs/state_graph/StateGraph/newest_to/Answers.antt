use Rattle.std.proofs.Common.{◌≡◌, ◌≤◌, ◌∙◌, ◌++◌, ◌∷◌, [], ℕ, arith, length, refl, subst, sym, take}
use Rattle.lalrpop_lr1_core.specs.IncomingEdges.{HaveAllTo}
use Rattle.lalrpop_lr1_core.proofs.IncomingLemmas.{last_found, last_of_front}
use Rattle.lalrpop_lr1_core.proofs.state_graph.StateGraph.newest_to.Goals as goal

pub returns-then-newest-state : goal.returns-then-newest-state
returns-then-newest-state c =
    let edges = c.args.self.now in
    let others = c.in-Some.others.now in
    let newest = c.in-Some.newest.now in
    let front : take c.args.count edges ≡ others ++ newest ∷ [] = sym c.front.ensures ∙ c.in-Some.ensures.cases.0 in
    last_found c.args.state c.args.count c.count_before.result edges others newest front
    (subst (λ (m : ℕ). HaveAllTo m edges (length others) c.count_before.result) c.if-newest-state.true
    (c.count_before.ensures newest (last_of_front c.args.count edges others newest front).0))

pub returns-else-newest-state : goal.returns-else-newest-state
returns-else-newest-state c =
    let edges = c.args.self.now in
    let others = c.in-Some.others.now in
    let newest = c.in-Some.newest.now in
    let front : take c.args.count edges ≡ others ++ newest ∷ [] = sym c.front.ensures ∙ c.in-Some.ensures.cases.0 in
    let as_many : length others ≤ length others = omega arith in
    last_found c.args.state c.args.count (length others) edges others newest front (as_many, refl)
