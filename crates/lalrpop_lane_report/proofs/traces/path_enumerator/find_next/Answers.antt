use Rattle.std.proofs.Common.{◌≡◌, ◌∙◌, ◌++◌, ◌∷◌, [], rules, sym}
use Rattle.std.proofs.lemmas.List.{nil_from_length}
use Rattle.std.proofs.lemmas.Result.{on_ok_weaker}
use Rattle.lalrpop_lane_report.proofs.TurnLemmas.{at_none, next_left, next_walk, none_next}
use Rattle.lalrpop_lane_report.proofs.traces.path_enumerator.find_next.Goals as goal

pub find_path-requires : goal.find_path-requires
find_path-requires c =
    let e : c.args.steps.now.items ≡ c.pop.new.self.items ++ c.in-Some.step ∷ [] = search rules in
    record {
      whole = c.requires.whole;
      walk = next_walk c.args.nodes.now c.args.edges.now c.args.steps.now.items c.pop.new.self.items c.in-Some.step e c.requires.walked;
    }

pub returns-in-Some : goal.returns-in-Some
returns-in-Some c =
    let e : c.args.steps.now.items ≡ c.pop.new.self.items ++ c.in-Some.step ∷ [] = search rules in
    record {
      next = on_ok_weaker c.find_path.result
          (λ h. h ∙ next_left c.args.nodes.now c.args.edges.now c.args.steps.now.items c.pop.new.self.items c.in-Some.step e)
          c.find_path.ensures.left;
      path = on_ok_weaker c.find_path.result (λ h. record { whole = c.requires.whole; walked = h }) c.find_path.ensures.walked;
    }

pub returns-in-None : goal.returns-in-None
returns-in-None c =
    let e : c.args.steps.now.items ≡ [] = nil_from_length c.args.steps.now.items (sym c.args.steps.now.ok.0 ∙ c.in-None.ensures.cases.0) in
    let n : c.pop.new.self.items ≡ [] = nil_from_length c.pop.new.self.items (sym c.pop.new.self.ok.0 ∙ c.in-None.ensures.cases.1) in
    record {
      next = none_next c.args.nodes.now c.args.edges.now c.args.steps.now.items c.pop.new.self.items e n;
      path = at_none c.args.nodes.now c.args.edges.now c.pop.new.self.items c.requires.whole n;
    }
