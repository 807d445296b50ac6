use Rattle.std.proofs.Common.{ap, sym, ◌∙◌, map}
use Rattle.std.specs.Prelude.{option_map}
use Rattle.lalrpop_grammar_symbols.specs.Views.{literal_view, span_view}
use Rattle.lalrpop_grammar.specs.Views.{match_item_view}
use Rattle.lalrpop_norm_token_check.specs.Blocks.{entries_in_groups}
use Rattle.lalrpop_norm_token_check.specs.Places.{listed_at}
use Rattle.lalrpop_norm_token_check.proofs.MakingLemmas.{group_view}
use Rattle.lalrpop_norm_token_check.proofs.PlaceLemmas.{group_lists, group_lists_not}
use Rattle.lalrpop_norm_token_check.proofs.telling.place_in_groups.Goals as goal

pub loop-group-preserved : goal.loop-group-preserved
loop-group-preserved c =
    let l = literal_view c.args.literal.now in
    let first = map match_item_view c.in-Some.group.now.items in
    let others = entries_in_groups (map group_view c.in-Some.others.now) in
    sym (group_lists_not first others l
    (sym (ap (λ xs. listed_at (map match_item_view xs) l) c.as_slice.ensures) ∙ sym c.place_in_group.ensures
    ∙ ap (option_map span_view) c.in_default-place_in_group.is))
    ∙ sym (ap (λ xs. listed_at (entries_in_groups (map group_view xs)) l) c.in-Some.ensures.cases.0) ∙ c.loop-group.invariant

pub returns-in-Some-place_in_group : goal.returns-in-Some-place_in_group
returns-in-Some-place_in_group c =
    let l = literal_view c.args.literal.now in
    let first = map match_item_view c.in-Some.group.now.items in
    let others = entries_in_groups (map group_view c.in-Some.others.now) in
    sym (group_lists first others l (span_view c.in-Some-place_in_group.span)
    (sym (ap (λ xs. listed_at (map match_item_view xs) l) c.as_slice.ensures) ∙ sym c.place_in_group.ensures
    ∙ ap (option_map span_view) c.in-Some-place_in_group.is))
    ∙ sym (ap (λ xs. listed_at (entries_in_groups (map group_view xs)) l) c.in-Some.ensures.cases.0) ∙ c.loop-group.invariant
