use Rattle.std.proofs.Common.{◌≡◌, ◌∷◌, ◌∙◌, ap, rules, sym}
use Rattle.std.specs.Prelude.{flat_map}
use Rattle.lalrpop_grammar_repr.specs.declared.production.NonterminalData.{NonterminalData}
use Rattle.lalrpop_grammar_symbols.specs.declared.names.NonterminalString.{NonterminalString}
use Rattle.lalrpop_run_trees.specs.LabelTables.{kept_place, place_from_here, places_from}
use Rattle.lalrpop_run_trees.proofs.LabelTableLemmas.{after_more}
use Rattle.lalrpop_run_trees.proofs.flat_labels.label_table.LabelTable.new.Goals as goal

pub loop-data-preserved : goal.loop-data-preserved
loop-data-preserved c = λ label.
    let actions = c.args.grammar.now.action_fn_defns in
    let given = c.args.given in
    let left = c.next.new.self in
    let old = kept_place c.loop-data.table label in
    let next : c.loop-data.data-iterator ≡ (c.in-Some.field-0-0.now, c.in-Some.data.now) ∷ left = search rules in
    ap (λ b. place_from_here b label.items (flat_map (λ (e : NonterminalString × NonterminalData). places_from actions given 0 e.1.productions) left))
    (c.in_ok-add_productions.ensures label
    ∙ ap (λ a. place_from_here old label.items (places_from a given 0 c.as_slice.result.now)) c.as_slice-actions.ensures
    ∙ ap (λ ps. place_from_here old label.items (places_from actions given 0 ps)) c.as_slice.ensures)
    ∙ sym (after_more old label.items (places_from actions given 0 c.in-Some.data.now.productions)
    (flat_map (λ (e : NonterminalString × NonterminalData). places_from actions given 0 e.1.productions) left))
    ∙ ap (λ es. place_from_here old label.items (flat_map (λ (e : NonterminalString × NonterminalData). places_from actions given 0 e.1.productions) es))
    (sym next)
    ∙ c.loop-data.invariant label
