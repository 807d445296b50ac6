use Rattle.std.proofs.Common.{◌≡◌, ◌∙◌, [], ap, drop, refl, rules}
use Rattle.std.specs.Prelude.{◌==◌}
use Rattle.lalrpop_lane_report.specs.Enumerators.{EnumeratorView}
use Rattle.lalrpop_lane_report.proofs.EnumeratorLemmas.{found_is}
use Rattle.lalrpop_lane_report.proofs.TurnLemmas.{at_none, none_left}
use Rattle.lalrpop_lane_report.proofs.traces.path_enumerator.PathEnumerator.advance.Goals as goal

pub invariant_of-self-in-Err : goal.invariant_of-self-in-Err
invariant_of-self-in-Err c =
    let none : c.clear.new.self.items ≡ [] = search rules in
    at_none c.self.inside.nodes.now c.self.inside.edges.now c.clear.new.self.items c.self.invariant.whole none

pub returns-in-Ok-clause-next : goal.returns-in-Ok-clause-next
returns-in-Ok-clause-next c = c.in-Ok.ensures.next ∙ ap (λ (v : EnumeratorView). drop 1 v.left) c.self.view_is

pub returns-in-Ok-clause-more : goal.returns-in-Ok-clause-more
returns-in-Ok-clause-more c =
    found_is c.self.inside.nodes.now c.self.inside.edges.now c.find_next.new.steps.items _ c.is_empty.result refl
    (c.is_empty.ensures ∙ ap (λ n. n == 0) c.find_next.new.steps.ok.0)

pub returns-in-Ok-clause-graph : goal.returns-in-Ok-clause-graph
returns-in-Ok-clause-graph c = ap (λ (v : EnumeratorView). v.graph) c.self.view_is

pub returns-in-Err-clause-refused : goal.returns-in-Err-clause-refused
returns-in-Err-clause-refused c =
    let none : c.clear.new.self.items ≡ [] = search rules in
    none_left c.self.inside.nodes.now c.self.inside.edges.now c.clear.new.self.items none

pub returns-in-Err-clause-graph : goal.returns-in-Err-clause-graph
returns-in-Err-clause-graph c = ap (λ (v : EnumeratorView). v.graph) c.self.view_is
