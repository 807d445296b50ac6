use Rattle.std.proofs.Common.{◌∙◌, ap, map, sym, None, Some}
use Rattle.std.specs.Prelude.{option_map}
use Rattle.lalrpop_grammar_symbols.specs.Views.{symbol_view}
use Rattle.lalrpop_norm_tyinfer.specs.GroundViews.{type_repr_view}
use Rattle.lalrpop_norm_tyinfer.specs.ProgramViews.{names_view, rule_types}
use Rattle.lalrpop_norm_tyinfer.proofs.GroundLemmas.{type_by_counted}
use Rattle.lalrpop_norm_tyinfer.proofs.ground.symbols_type.Goals as goal

pub returns-in-None : goal.returns-in-None
returns-in-None c =
    type_by_counted (names_view c.args.names.now) (rule_types c.args.table.now) c.has_chosen.result (map symbol_view c.args.symbols.now)
    None c.has_chosen.ensures (ap (option_map (map type_repr_view)) (sym c.in-None.is) ∙ c.in_ok-counted_types.ensures)

pub returns-in-Some : goal.returns-in-Some
returns-in-Some c =
    ap Some c.tuple_type.ensures
    ∙ type_by_counted (names_view c.args.names.now) (rule_types c.args.table.now) c.has_chosen.result (map symbol_view c.args.symbols.now)
    (Some (map type_repr_view c.in-Some.types)) c.has_chosen.ensures
    (ap (option_map (map type_repr_view)) (sym c.in-Some.is) ∙ c.in_ok-counted_types.ensures)
