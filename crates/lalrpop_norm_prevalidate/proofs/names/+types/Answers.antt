use Rattle.std.proofs.Common.{◌≡◌, ◌∷◌, ◌+◌, ap, sym, ◌∙◌, drop, map}
use Rattle.std.proofs.lemmas.List.{drop_more}
use Rattle.std.specs.Prelude.{option_map}
use Rattle.lalrpop_grammar_symbols.specs.Views.{span_view}
use Rattle.lalrpop_grammar.specs.Views.{type_view, tys}
use Rattle.lalrpop_norm_prevalidate.specs.Names.{first_reserved, names_in_type, names_in_types}
use Rattle.lalrpop_norm_prevalidate.proofs.NameLemmas.{found_here, none_here}
use Rattle.lalrpop_norm_prevalidate.proofs.names.+types.Goals as goal

pub reserved_in_types-returns-in-Some : goal.reserved_in_types-returns-in-Some
reserved_in_types-returns-in-Some t c =
    let xs = c.args.types.now in
    let i = c.loop-type_ref.type_ref-index in
    let x = c.type_ref-item.result in
    let here : drop i xs ≡ x ∷ drop (i + 1) xs =
    drop_more xs i x c.loop-type_ref-test.true ∙ ap (λ y. y ∷ drop (i + 1) xs) (sym c.type_ref-item.is) in
    found_here c.args.prefix.now (names_in_type (span_view c.args.span) (type_view x)) (names_in_types (span_view c.args.span) (tys
    (map type_view (drop (i + 1) xs)))) (names_in_types (span_view c.args.span) (tys (map type_view (drop i xs))))
    (option_map span_view c.in_ok-found.field-0) (span_view c.in-Some.found) (first_reserved c.args.prefix.now (names_in_types
    (span_view c.args.span) (tys (map type_view xs))))
    (ap (λ ds. names_in_types (span_view c.args.span) (tys (map type_view ds))) here) c.in_ok-found.ensures (ap
    (option_map span_view) c.in-Some.is) c.loop-type_ref.invariant

pub reserved_in_types-loop-type_ref-preserved : goal.reserved_in_types-loop-type_ref-preserved
reserved_in_types-loop-type_ref-preserved t c =
    let xs = c.args.types.now in
    let i = c.loop-type_ref.type_ref-index in
    let x = c.type_ref-item.result in
    let here : drop i xs ≡ x ∷ drop (i + 1) xs =
    drop_more xs i x c.loop-type_ref-test.true ∙ ap (λ y. y ∷ drop (i + 1) xs) (sym c.type_ref-item.is) in
    none_here c.args.prefix.now (names_in_type (span_view c.args.span) (type_view x)) (names_in_types (span_view c.args.span) (tys
    (map type_view (drop (i + 1) xs)))) (names_in_types (span_view c.args.span) (tys (map type_view (drop i xs))))
    (option_map span_view c.in_ok-found.field-0) (first_reserved c.args.prefix.now (names_in_types (span_view c.args.span) (tys
    (map type_view xs))))
    (ap (λ ds. names_in_types (span_view c.args.span) (tys (map type_view ds))) here) c.in_ok-found.ensures (ap
    (option_map span_view) c.in_default.is) c.loop-type_ref.invariant
