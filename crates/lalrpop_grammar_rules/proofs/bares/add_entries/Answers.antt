use Rattle.std.proofs.Common.{◌≡◌, ◌∷◌, ◌||◌, ◌+◌, ap, sym, ◌∙◌, drop}
use Rattle.std.proofs.lemmas.List.{drop_more}
use Rattle.lalrpop_grammar.specs.Views.{match_item_view}
use Rattle.lalrpop_grammar_language.specs.Enabled.{bare_of, has_text}
use Rattle.lalrpop_grammar_rules.specs.RuleTable.{bares_of_entries, knows}
use Rattle.lalrpop_grammar_rules.proofs.BareNameLemmas.{names_on}
use Rattle.lalrpop_grammar_rules.proofs.bares.add_entries.Goals as goal

pub loop-entry-preserved : goal.loop-entry-preserved
loop-entry-preserved c = λ n.
    let xs = c.args.entries.now in
    let i = c.loop-entry.entry-index in
    let x = c.entry-item.result in
    let here : drop i xs ≡ x ∷ drop (i + 1) xs =
    drop_more xs i x c.loop-entry-test.true ∙ ap (λ y. y ∷ drop (i + 1) xs) (sym c.entry-item.is) in
    names_on n (knows c.args.bares.now n || has_text n (bares_of_entries xs)) (knows c.loop-entry.bares n) (knows c.add_entry.new.bares n)
    (bare_of (match_item_view x)) (bares_of_entries (drop (i + 1) xs)) (bares_of_entries (drop i xs)) (ap bares_of_entries here)
    (c.loop-entry.invariant n)
    (c.in_ok-add_entry.ensures n)
