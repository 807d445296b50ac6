use Rattle.std.proofs.Common.{◌≡◌, ◌∙◌, ◌++◌, ◌∷◌, [], rules, sym}
use Rattle.std.proofs.lemmas.List.{nil_from_length}
use Rattle.lalrpop_lane_report.proofs.TurnLemmas.{turn_back, turn_ends}
use Rattle.lalrpop_lane_report.proofs.traces.path_enumerator.step_back.Goals as goal

pub returns-in-Some : goal.returns-in-Some
returns-in-Some c = λ edges g count walk.
    let e : c.args.steps.now.items ≡ c.pop.new.self.items ++ c.in-Some.step ∷ [] = search rules in
    turn_back edges g count c.args.steps.now.items c.pop.new.self.items c.in-Some.step e walk

pub returns-in-None : goal.returns-in-None
returns-in-None c = λ edges g count walk.
    let e : c.args.steps.now.items ≡ [] = nil_from_length c.args.steps.now.items (sym c.args.steps.now.ok.0 ∙ c.in-None.ensures.cases.0) in
    let n : c.pop.new.self.items ≡ [] = nil_from_length c.pop.new.self.items (sym c.pop.new.self.ok.0 ∙ c.in-None.ensures.cases.1) in
    turn_ends edges g count c.args.steps.now.items c.pop.new.self.items e n
