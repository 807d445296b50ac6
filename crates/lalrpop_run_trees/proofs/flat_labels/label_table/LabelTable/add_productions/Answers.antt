use Rattle.std.proofs.Common.{◌≡◌, ◌+◌, ◌++◌, ◌∷◌, [], ◌∙◌, ap, sym, take, length, arith}
use Rattle.std.proofs.lemmas.List.{length-take-le, take_more}
use Rattle.lalrpop_run_trees.specs.FlatLabels.{flat_of}
use Rattle.lalrpop_run_trees.specs.LabelTables.{kept_place, place_from_here, place_under, places_from}
use Rattle.lalrpop_run_trees.proofs.LabelTableLemmas.{after_more, places_push}
use Rattle.lalrpop_run_trees.proofs.flat_labels.label_table.LabelTable.add_productions.Goals as goal

pub loop-place-preserved : goal.loop-place-preserved
loop-place-preserved c = λ label.
    let actions = c.args.actions.now in
    let given = c.args.given in
    let all = c.args.productions.now in
    let i = c.loop-place.place in
    let p = c.index-productions-place.result in
    let before = kept_place c.args.self.now label in
    let flat = flat_of actions given p.action.0 (length p.symbols) in
    let told = c.in_ok-label.ensures ∙ ap (flat_of actions given p.action.0) c.len-count.ensures in
    let size : i ≡ 0 + length (take i all) = omega (arith, length-take-le i all (omega (arith, c.loop-place-test.true))) in
    let more : take (i + 1) all ≡ take i all ++ p ∷ [] =
    take_more all i p c.loop-place-test.true ∙ ap (λ x. take i all ++ x ∷ []) (sym c.index-productions-place.is) in
    c.in_ok-keep.ensures label
    ∙ ap (λ m. place_from_here (kept_place c.loop-place.self label) label.items (place_under m i)) told
    ∙ ap (λ b. place_from_here b label.items (place_under flat i)) (c.loop-place.invariant label)
    ∙ sym (after_more before label.items (places_from actions given 0 (take i all)) (place_under flat i))
    ∙ ap (λ n. place_from_here before label.items (places_from actions given 0 (take i all) ++ place_under flat n)) size
    ∙ ap (place_from_here before label.items) (sym (places_push actions given 0 (take i all) p))
    ∙ ap (λ l. place_from_here before label.items (places_from actions given 0 l)) (sym more)
