-- What is seen of types that are made, and of those of counted symbols; for the types by a table.
use Rattle.std.proofs.Common.{◌≡◌, ◌∙◌, ap, sym, List, [], map, Bool}
use Rattle.std.specs.Prelude.{Option, Some, option_map, filter}
use Rattle.std.specs.List.{list_any}
use Rattle.lalrpop_grammar_symbols.specs.Symbols.{Text, WrittenSymbol}
use Rattle.lalrpop_grammar.specs.Views.{tys, type_step, type_view}
use Rattle.lalrpop_grammar.specs.WrittenGrammar.{Ty}
use Rattle.lalrpop_grammar.specs.declared.types.type_ref.TypeRef.{TypeRef, fold-roll-TypeRef}
use Rattle.lalrpop_grammar.specs.declared.types.type_ref.TypeRef.TheOpen as written_layer
use Rattle.lalrpop_grammar.specs.declared.types.type_ref.TypeRef.TheVariants as written
use Rattle.lalrpop_grammar.specs.declared.types.type_repr.TypeRepr.{TypeRepr}
use Rattle.lalrpop_grammar.specs.declared.types.type_repr.TypeRepr.TheFolds.{fold-roll-NominalTypeRepr, fold-roll-TypeRepr}
use Rattle.lalrpop_grammar.specs.declared.types.type_repr.TypeRepr.TheOpen as layer
use Rattle.lalrpop_grammar.specs.declared.types.type_repr.TypeRepr.TheVariants as types
use Rattle.lalrpop_grammar.specs.declared.types.type_repr.TypeRepr.TheViews.{roll-NominalTypeRepr}
use Rattle.lalrpop_norm_theory.specs.Types.{GroundType}
use Rattle.lalrpop_norm_tyinfer.specs.GroundViews.{ground_nominal_step, ground_step, ground_types, type_repr_view}
use Rattle.lalrpop_norm_tyinfer.specs.TypesByTable.{KnownNames, RuleTypes, counts_for, each_ground_type, is_chosen_symbol}
use Rattle.lalrpop_norm_tyinfer.specs.TypesByTable.{symbol_ground_type, symbols_ground_type, tuple_of_types, written_ground_type}
use Rattle.lalrpop_norm_tyinfer.specs.TypesByTable.{written_ground_types}
use Rattle.lalrpop_norm_tyinfer.proofs.FrontLemmas.{counted_symbols}

-- a reference type of the program is seen as one to the seen type
pub view-ref : (l : Option Text) (m : Bool) (t : TypeRepr) → type_repr_view (types.Ref l m t) ≡ GroundType.ref l m (type_repr_view t)
view-ref l m t =
    ap type_repr_view (sym (types.rolls-Ref l m t))
    ∙ fold-roll-TypeRepr GroundType GroundType ground_step ground_nominal_step (layer.Ref l m t)

-- a named type of the program is seen with its path and its seen arguments in order
pub view-nominal : (path : Text) (ts : List TypeRepr)
    → type_repr_view (types.Nominal (roll-NominalTypeRepr (record { path = path; types = ts })))
    ≡ GroundType.nominal path (ground_types (map type_repr_view ts))
view-nominal path ts =
    ap type_repr_view (sym (types.rolls-Nominal (roll-NominalTypeRepr (record { path = path; types = ts }))))
    ∙ fold-roll-TypeRepr GroundType GroundType ground_step ground_nominal_step
    (layer.Nominal (roll-NominalTypeRepr (record { path = path; types = ts })))
    ∙ fold-roll-NominalTypeRepr GroundType GroundType ground_step ground_nominal_step (record { path = path; types = ts })

view-written_nominal : (path : Text) (ys : List TypeRef)
    → type_view (written.Nominal path ys) ≡ Ty.nominal path (tys (map type_view ys))
view-written_nominal path ys =
    ap type_view (sym (written.rolls-Nominal path ys)) ∙ fold-roll-TypeRef Ty type_step (written_layer.Nominal path ys)

view-written_id : (n : Text) → type_view (written.Id n) ≡ Ty.id n
view-written_id n = ap type_view (sym (written.rolls-Id n)) ∙ fold-roll-TypeRef Ty type_step (written_layer.Id n)

module _ (k : KnownNames) (table : RuleTypes) where
  -- the type of a name with arguments
  pub nominal_found : (w : TypeRef) (path : Text) (ys : List TypeRef) (o : Option (List GroundType)) → w ≡ written.Nominal path ys
      → o ≡ written_ground_types k table (tys (map type_view ys))
      → option_map (λ ts. GroundType.nominal path (ground_types ts)) o ≡ written_ground_type k table (type_view w)
  nominal_found w path ys o is found =
      ap (option_map (λ ts. GroundType.nominal path (ground_types ts))) found
      ∙ sym (ap (written_ground_type k table) (ap type_view is ∙ view-written_nominal path ys))

  -- the type of a name
  pub id_found : (w : TypeRef) (n : Text) (ts : List TypeRepr) → w ≡ written.Id n → ts ≡ []
      → Some (GroundType.nominal n (ground_types (map type_repr_view ts))) ≡ written_ground_type k table (type_view w)
  id_found w n ts is none =
      ap (λ us. Some (GroundType.nominal n (ground_types (map type_repr_view us)))) none
      ∙ sym (ap (written_ground_type k table) (ap type_view is ∙ view-written_id n))

  -- the type by those of the symbols that count
  pub type_by_counted : (b : Bool) (xs : List WrittenSymbol) (o : Option (List GroundType)) → b ≡ list_any is_chosen_symbol xs
      → o ≡ each_ground_type (map (symbol_ground_type k table) (filter (counts_for b) xs))
      → option_map tuple_of_types o ≡ symbols_ground_type k table xs
  type_by_counted b xs o is found =
      ap (option_map tuple_of_types)
      (found
      ∙ ap (λ l. each_ground_type (map (symbol_ground_type k table) l))
      (ap (λ c. filter (counts_for c) xs) is ∙ counted_symbols (list_any is_chosen_symbol xs) xs))
