use Rattle.std.proofs.Common.{ap, map, option_map, refl, subst, sym, ◌≡◌, ◌∙◌, ◌++◌, ◌∷◌}
use Rattle.lalrpop_grammar_symbols.specs.Views.{terminal_view}
use Rattle.lalrpop_lr1_first.specs.FirstSetsOf.{IsProductionOf}
use Rattle.lalrpop_lr1_first.specs.NumberedGrammars.{IsNumberTableOf}
use Rattle.lalrpop_lr1_core.specs.Views.{production_symbol_view, production_view}
use Rattle.lalrpop_lr1_least_trees.specs.MoveViews.{tree_move_view}
use Rattle.lalrpop_lr1_least_trees.specs.declared.tree_move.TreeMove.TheVariants as named
use Rattle.lalrpop_lr1_least_trees.specs.RestForests.{AnyLeaves, HaveRestMoves}
use Rattle.lalrpop_lr1_paths.specs.CompletionSearches.{TellsCompletion}
use Rattle.lalrpop_lr1_counterexamples.proofs.ShownLemmas.{back_told, joined_seen, shift_shown, shift_unshown}
use Rattle.lalrpop_lr1_counterexamples.proofs.shown_moves.shown.with_shift.Goals as goal

pub returns-in_default : goal.returns-in_default
returns-in_default c = λ g s states are held e rest.
    let ways = c.args.any.now.ways.now in
    let one = ap (λ it. it.paths.now) (sym c.ways.ensures) ∙ sym c.paths-paths.ensures in
    let of = subst (λ it. IsNumberTableOf g it.table) (ap (λ it. it.trees.now) one ∙ sym c.trees.ensures) are.completions.of in
    absurd (subst (λ found. HaveRestMoves (IsProductionOf g) (map production_symbol_view c.args.rest.now) AnyLeaves
    (option_map (λ moves. map tree_move_view moves.items) found)) c.in_default.is (c.in_ok-inner.ensures g of) rest.trees rest.over
    rest.roots_are tt)

pub returns-in_default-2 : goal.returns-in_default-2
returns-in_default-2 c = λ g s states are held e.
    let ways = c.args.any.now.ways.now in
    let p = production_view c.args.production.now in
    let one = ap (λ it. it.paths.now) (sym c.ways.ensures) ∙ sym c.paths-paths.ensures in
    shift_unshown g s states ways are c.args.state p c.args.index c.back-before.result held
    (back_told ways c.paths-paths.result.now c.args.index c.args.index c.args.state c.back-before.result one refl c.back-before.ensures)
    (map tree_move_view c.args.front.now) (terminal_view c.args.terminal.now) (map production_symbol_view c.args.rest.now)
    (subst (λ found. TellsCompletion g s states ways c.back-before.result p.left AnyLeaves
    (option_map (λ moves. map tree_move_view moves.items) found)) c.in_default-2.is (c.in_ok-out.ensures g s states are.completions))

pub returns : goal.returns
returns c = λ g s states are held e.
    let ways = c.args.any.now.ways.now in
    let p = production_view c.args.production.now in
    let one = ap (λ it. it.paths.now) (sym c.ways.ensures) ∙ sym c.paths-paths.ensures in
    let of = subst (λ it. IsNumberTableOf g it.table) (ap (λ it. it.trees.now) one ∙ sym c.trees.ensures) are.completions.of in
    let inner = c.in-Some.inner.items in
    let out = c.in-Some-2.out.items in
    let more = joined_seen inner (named.Reduce c.args.production) out c.in_ok-more.more.items
    (subst (λ l. c.in_ok-more.more.items ≡ l ++ named.Reduce c.args.production ∷ out) c.as_slice.ensures.value c.in_ok-more.ensures) in
    shift_shown g s states ways are c.args.state p c.args.index c.back-before.result held
    (back_told ways c.paths-paths.result.now c.args.index c.args.index c.args.state c.back-before.result one refl c.back-before.ensures)
    (map tree_move_view c.args.front.now) (terminal_view c.args.terminal.now) (map production_symbol_view c.args.rest.now) e
    (map tree_move_view inner) (map tree_move_view out) (map tree_move_view c.in_ok-all.all.items)
    (subst (λ found. HaveRestMoves (IsProductionOf g) (map production_symbol_view c.args.rest.now) AnyLeaves
    (option_map (λ moves. map tree_move_view moves.items) found)) c.in-Some.is (c.in_ok-inner.ensures g of))
    (subst (λ found. TellsCompletion g s states ways c.back-before.result p.left AnyLeaves
    (option_map (λ moves. map tree_move_view moves.items) found)) c.in-Some-2.is (c.in_ok-out.ensures g s states are.completions))
    (joined_seen c.args.front.now (named.Shift c.args.terminal) c.in_ok-more.more.items c.in_ok-all.all.items c.in_ok-all.ensures
    ∙ ap (λ l. map tree_move_view c.args.front.now ++ tree_move_view (named.Shift c.args.terminal) ∷ l) more)
