use Rattle.std.proofs.Common.{ap, ◌∙◌}
use Rattle.lalrpop_json_values.specs.Scalars.{is_name}
use Rattle.lalrpop_json_symbols.proofs.TypeSpellingLemmas.{of_a_symbol, of_nominal, of_parameter, of_reference, of_tuple}
use Rattle.lalrpop_json_symbols.proofs.writer.type_ref.+readable_types.Goals as goal

pub is_readable_type-returns-in-Tuple : goal.is_readable_type-returns-in-Tuple
is_readable_type-returns-in-Tuple t c =
    of_tuple c.are_readable_types.result _ _ c.in-Tuple.is (rw c.as_slice.ensures at c.are_readable_types.ensures)

pub is_readable_type-returns-in-Nominal : goal.is_readable_type-returns-in-Nominal
is_readable_type-returns-in-Nominal t c =
    of_nominal c.are_readable_types-in-Nominal.result _ _ _ c.in-Nominal.is
    (rw c.as_slice-in-Nominal.ensures at c.are_readable_types-in-Nominal.ensures)

pub is_readable_type-returns-in-Id : goal.is_readable_type-returns-in-Id
is_readable_type-returns-in-Id t c = of_parameter c.is_name.result _ _ c.in-Id.is (c.is_name.ensures ∙ ap is_name c.as_str.ensures)

pub is_readable_type-returns-in-OfSymbol : goal.is_readable_type-returns-in-OfSymbol
is_readable_type-returns-in-OfSymbol t c = of_a_symbol c.is_readable_symbol.result _ _ c.in-OfSymbol.is c.is_readable_symbol.ensures

pub is_readable_type-returns-in-Ref : goal.is_readable_type-returns-in-Ref
is_readable_type-returns-in-Ref t c =
    of_reference c.is_readable_type.result _ _ _ _ c.in-Ref.is (rw c.get.ensures at c.is_readable_type.ensures)
