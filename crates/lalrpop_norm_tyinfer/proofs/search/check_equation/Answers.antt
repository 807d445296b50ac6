use Rattle.std.proofs.Common.{◌∙◌, ap, sym}
use Rattle.std.specs.Prelude.{option_map}
use Rattle.lalrpop_norm_tyinfer.specs.GroundViews.{type_repr_view}
use Rattle.lalrpop_norm_tyinfer.specs.ProgramViews.{equation_view, grammar_of, rule_types}
use Rattle.lalrpop_norm_tyinfer.proofs.SearchLemmas.{disagreement}
use Rattle.lalrpop_norm_tyinfer.proofs.search.check_equation.Goals as goal

pub returns-in-Some-clause-fault : goal.returns-in-Some-clause-fault
returns-in-Some-clause-fault c =
    disagreement (grammar_of c.args.names.now) (equation_view c.args.equation.now) (rule_types c.args.table.now)
    (type_repr_view c.in-Some.ty) c.requires.of_grammar c.requires.right
    (sym c.in_ok-source_type.ensures ∙ ap (option_map type_repr_view) c.in-Some.is) c.new_type.result c.new_type.ensures
