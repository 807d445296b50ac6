use Rattle.std.proofs.Common.{◌≡◌, ◌∷◌, ◌+◌, ap, sym, ◌∙◌, drop, map}
use Rattle.std.proofs.lemmas.List.{drop_more}
use Rattle.std.specs.Prelude.{flat_map, option_map}
use Rattle.lalrpop_grammar_symbols.specs.Views.{span_view}
use Rattle.lalrpop_grammar.specs.Views.{alternative_view}
use Rattle.lalrpop_norm_prevalidate.specs.Names.{first_reserved, names_in_alternative}
use Rattle.lalrpop_norm_prevalidate.proofs.NameLemmas.{found_here, none_here}
use Rattle.lalrpop_norm_prevalidate.proofs.names.reserved_in_alternatives.Goals as goal

pub returns-in-Some : goal.returns-in-Some
returns-in-Some c =
    let xs = c.args.alternatives.now in
    let i = c.loop-alternative.alternative-index in
    let x = c.alternative-item.result in
    let here : drop i xs ≡ x ∷ drop (i + 1) xs =
    drop_more xs i x c.loop-alternative-test.true ∙ ap (λ y. y ∷ drop (i + 1) xs) (sym c.alternative-item.is) in
    found_here c.args.prefix.now (names_in_alternative (alternative_view x)) (flat_map names_in_alternative (map alternative_view (drop
    (i + 1) xs))) (flat_map names_in_alternative (map alternative_view (drop i xs)))
    (option_map span_view c.in_ok-found.field-0) (span_view c.in-Some.found) (first_reserved c.args.prefix.now
    (flat_map names_in_alternative (map alternative_view xs)))
    (ap (λ ds. flat_map names_in_alternative (map alternative_view ds)) here) c.in_ok-found.ensures (ap
    (option_map span_view) c.in-Some.is) c.loop-alternative.invariant

pub loop-alternative-preserved : goal.loop-alternative-preserved
loop-alternative-preserved c =
    let xs = c.args.alternatives.now in
    let i = c.loop-alternative.alternative-index in
    let x = c.alternative-item.result in
    let here : drop i xs ≡ x ∷ drop (i + 1) xs =
    drop_more xs i x c.loop-alternative-test.true ∙ ap (λ y. y ∷ drop (i + 1) xs) (sym c.alternative-item.is) in
    none_here c.args.prefix.now (names_in_alternative (alternative_view x)) (flat_map names_in_alternative (map alternative_view (drop
    (i + 1) xs))) (flat_map names_in_alternative (map alternative_view (drop i xs)))
    (option_map span_view c.in_ok-found.field-0) (first_reserved c.args.prefix.now (flat_map names_in_alternative
    (map alternative_view xs)))
    (ap (λ ds. flat_map names_in_alternative (map alternative_view ds)) here) c.in_ok-found.ensures (ap
    (option_map span_view) c.in_default.is) c.loop-alternative.invariant
