-- Types found one after another, with those that are to come; for the functions that go over symbols and written types.
use Rattle.std.proofs.Common.{◌≡◌, ◌∙◌, ap, sym, refl, List, [], ◌∷◌, ◌++◌, Bool, true, false, map}
use Rattle.std.proofs.Common.{append_assoc}
use Rattle.std.specs.Prelude.{Option, Some, None, option_map, filter, if◌then◌else◌}
use Rattle.std.proofs.lemmas.List.{map-append}
use Rattle.lalrpop_grammar_symbols.specs.Symbols.{WrittenSymbol}
use Rattle.lalrpop_grammar.specs.declared.types.type_repr.TypeRepr.{TypeRepr}
use Rattle.lalrpop_norm_theory.specs.Types.{GroundType}
use Rattle.lalrpop_norm_tyinfer.specs.GroundViews.{type_repr_view}
use Rattle.lalrpop_norm_tyinfer.specs.TypesByTable.{counts_for, is_chosen_symbol, with_ground_type}

-- these types in front of those
abbrev pub behind_types : List TypeRepr → Option (List GroundType) → Option (List GroundType)
behind_types found = option_map (λ ts. map type_repr_view found ++ ts)

one_more : (us : List GroundType) (t : GroundType) (o : Option (List GroundType))
    → option_map (λ ts. (us ++ t ∷ []) ++ ts) o ≡ option_map (λ ts. us ++ ts) (with_ground_type (Some t) o)
one_more us t None = refl
one_more us t (Some ts) = ap Some (append_assoc us (t ∷ []) ts)

-- one type more was found
pub found_next : (found new : List TypeRepr) (ty : TypeRepr) (o : Option GroundType) (left rest whole : Option (List GroundType))
    → new ≡ found ++ ty ∷ [] → left ≡ with_ground_type o rest → Some (type_repr_view ty) ≡ o
    → behind_types found left ≡ whole
    → behind_types new rest ≡ whole
found_next found new ty o left rest whole pushed split is so =
    ap (λ l. option_map (λ ts. l ++ ts) rest)
    (ap (map type_repr_view) pushed ∙ map-append type_repr_view found (ty ∷ []))
    ∙ one_more (map type_repr_view found) (type_repr_view ty) rest
    ∙ ap (behind_types found) (ap (λ p. with_ground_type p rest) is ∙ sym split) ∙ so

-- one has none
pub none_found : (found : List TypeRepr) (o : Option GroundType) (left rest whole : Option (List GroundType))
    → left ≡ with_ground_type o rest → None ≡ o → behind_types found left ≡ whole → None ≡ whole
none_found found o left rest whole split is so =
    ap (λ p. behind_types found (with_ground_type p rest)) is ∙ ap (behind_types found) (sym split) ∙ so

-- the symbols that count are the chosen ones, or all
all_count : (xs : List WrittenSymbol) → filter (counts_for false) xs ≡ xs
all_count [] = refl
all_count (x ∷ xs) = ap (λ l. x ∷ l) (all_count xs)

-- the symbols that count are the chosen ones where those alone do, and else all
pub counted_symbols : (b : Bool) (xs : List WrittenSymbol)
    → filter (counts_for b) xs ≡ (if b then filter is_chosen_symbol xs else xs)
counted_symbols true xs = refl
counted_symbols false xs = all_count xs
