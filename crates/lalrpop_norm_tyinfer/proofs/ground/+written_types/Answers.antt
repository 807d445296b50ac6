use Rattle.std.proofs.Common.{◌≡◌, subst}
use Rattle.std.specs.Prelude.{IfOk, Option, map, option_map}
use Rattle.lalrpop_norm_theory.specs.Types.{GroundType}
use Rattle.lalrpop_norm_tyinfer.specs.GroundViews.{type_repr_view}
use Rattle.lalrpop_norm_tyinfer.specs.ProgramViews.{names_view, rule_types}
use Rattle.lalrpop_norm_tyinfer.proofs.GroundLemmas.{id_found, nominal_found}
use Rattle.lalrpop_norm_tyinfer.proofs.ground.+written_types.Goals as goal

pub written_type-returns-in_ok-types-in-Nominal : goal.written_type-returns-in_ok-types-in-Nominal
written_type-returns-in_ok-types-in-Nominal t c =
    subst (λ (g : Option GroundType). IfOk c.nominal_of.result (λ found. option_map type_repr_view found ≡ g))
    (nominal_found (names_view c.args.names.now) (rule_types c.args.table.now) c.args.written.now c.in-Nominal.path c.in-Nominal.types
    (option_map (map type_repr_view) c.in_ok-types-in-Nominal.types) c.in-Nominal.is
    (rw c.as_slice-in-Nominal.ensures at c.in_ok-types-in-Nominal.ensures))
    c.nominal_of.ensures

pub written_type-returns-in-Id : goal.written_type-returns-in-Id
written_type-returns-in-Id t c =
    subst (λ (g : Option GroundType). IfOk c.nominal_of-in-Id.result (λ found. option_map type_repr_view found ≡ g))
    (id_found (names_view c.args.names.now) (rule_types c.args.table.now) c.args.written.now c.in-Id.name c.new.result c.in-Id.is c.new.ensures)
    c.nominal_of-in-Id.ensures
