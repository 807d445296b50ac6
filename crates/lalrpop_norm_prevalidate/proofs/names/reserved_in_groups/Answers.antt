use Rattle.std.proofs.Common.{◌≡◌, ◌∷◌, ◌+◌, List, ap, sym, ◌∙◌, drop, map}
use Rattle.std.proofs.lemmas.List.{drop_more}
use Rattle.std.specs.Prelude.{flat_map, option_map}
use Rattle.lalrpop_grammar_symbols.specs.Views.{span_view}
use Rattle.lalrpop_grammar.specs.Views.{match_item_view}
use Rattle.lalrpop_grammar.specs.declared.match_token.MatchContents.{MatchContents}
use Rattle.lalrpop_norm_prevalidate.specs.Names.{SpannedName, first_reserved, names_in_group}
use Rattle.lalrpop_norm_prevalidate.proofs.NameLemmas.{found_here, none_here}
use Rattle.lalrpop_norm_prevalidate.proofs.names.reserved_in_groups.Goals as goal

abbrev names_in_groups : List MatchContents → List SpannedName
names_in_groups groups = flat_map names_in_group (map (λ c. map match_item_view c.items) groups)

pub returns-in-Some : goal.returns-in-Some
returns-in-Some c =
    let xs = c.args.groups.now in
    let i = c.loop-group.group-index in
    let x = c.group-item.result in
    let here : drop i xs ≡ x ∷ drop (i + 1) xs =
    drop_more xs i x c.loop-group-test.true ∙ ap (λ y. y ∷ drop (i + 1) xs) (sym c.group-item.is) in
    found_here c.args.prefix.now (names_in_group (map match_item_view x.items)) (names_in_groups (drop (i + 1) xs))
    (names_in_groups (drop i xs))
    (option_map span_view c.reserved_in_group.result) (span_view c.in-Some.found) (first_reserved c.args.prefix.now (names_in_groups xs))
    (ap names_in_groups here) c.reserved_in_group.ensures (ap (option_map span_view) c.in-Some.is) c.loop-group.invariant

pub loop-group-preserved : goal.loop-group-preserved
loop-group-preserved c =
    let xs = c.args.groups.now in
    let i = c.loop-group.group-index in
    let x = c.group-item.result in
    let here : drop i xs ≡ x ∷ drop (i + 1) xs =
    drop_more xs i x c.loop-group-test.true ∙ ap (λ y. y ∷ drop (i + 1) xs) (sym c.group-item.is) in
    none_here c.args.prefix.now (names_in_group (map match_item_view x.items)) (names_in_groups (drop (i + 1) xs))
    (names_in_groups (drop i xs))
    (option_map span_view c.reserved_in_group.result) (first_reserved c.args.prefix.now (names_in_groups xs))
    (ap names_in_groups here) c.reserved_in_group.ensures (ap (option_map span_view) c.in_default.is) c.loop-group.invariant
