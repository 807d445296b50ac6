use Rattle.std.proofs.Common.{◌∙◌, List, map, subst}
use Rattle.std.proofs.lemmas.Result.{IfOk-weaker}
use Rattle.lalrpop_grammar_repr.specs.declared.production.Symbol.{Symbol}
use Rattle.lalrpop_lr1_core.specs.Views.{production_symbol_view}
use Rattle.lalrpop_lr1_first.specs.FirstSetsOf.{IsFirstSet}
use Rattle.lalrpop_lane_report.proofs.ExampleLemmas.{example_next, example_room}
use Rattle.lalrpop_lane_report.proofs.TurnLemmas.{first_of_list}
use Rattle.lalrpop_lane_report.proofs.traces.path_enumerator.PathEnumerator.first0.Goals as goal

pub next_of-requires : goal.next_of-requires
next_of-requires c =
    let first = first_of_list c.args.self.now.left c.requires in
    example_room c.args.self.now.graph.nodes first.0 c.in_ok-example.example (c.in_ok-example.ensures first.0 first.1 first.2)

pub returns : goal.returns
returns c =
    IfOk-weaker c.first0.result _ _
    (λ set h p others left g firsts terminals.
    subst (λ (symbols : List Symbol). IsFirstSet g (map production_symbol_view symbols) set)
    (c.as_slice.ensures.value ∙ c.in_ok-symbols.ensures
    ∙ example_next c.args.self.now.graph.nodes p c.in_ok-example.example (c.in_ok-example.ensures p others left))
    (h g firsts terminals)) c.first0.ensures.first
