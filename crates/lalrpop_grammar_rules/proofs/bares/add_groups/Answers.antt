use Rattle.std.proofs.Common.{◌≡◌, ◌∷◌, ◌||◌, ◌+◌, ap, sym, ◌∙◌, drop}
use Rattle.std.proofs.lemmas.List.{drop_more}
use Rattle.lalrpop_grammar_language.specs.Enabled.{has_text}
use Rattle.lalrpop_grammar_rules.specs.RuleTable.{bares_of_entries, bares_of_groups, knows}
use Rattle.lalrpop_grammar_rules.proofs.BareNameLemmas.{names_on}
use Rattle.lalrpop_grammar_rules.proofs.bares.add_groups.Goals as goal

pub loop-group-preserved : goal.loop-group-preserved
loop-group-preserved c = λ n.
    let xs = c.args.groups.now in
    let i = c.loop-group.group-index in
    let x = c.group-item.result in
    let here : drop i xs ≡ x ∷ drop (i + 1) xs =
    drop_more xs i x c.loop-group-test.true ∙ ap (λ y. y ∷ drop (i + 1) xs) (sym c.group-item.is) in
    names_on n (knows c.args.bares.now n || has_text n (bares_of_groups xs)) (knows c.loop-group.bares n) (knows c.add_entries.new.bares n)
    (bares_of_entries x.items) (bares_of_groups (drop (i + 1) xs)) (bares_of_groups (drop i xs)) (ap bares_of_groups here)
    (c.loop-group.invariant n)
    (rw c.as_slice.ensures at (c.in_ok-add_entries.ensures n))
