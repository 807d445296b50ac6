use Rattle.std.proofs.Common.{length, map, option_map, subst, sym, ◌∙◌}
use Rattle.std.proofs.lemmas.List.{length-map}
use Rattle.lalrpop_lr1_core.specs.Views.{production_symbol_view, production_view}
use Rattle.lalrpop_lr1_least_trees.specs.MoveViews.{tree_move_view}
use Rattle.lalrpop_lr1_least_trees.specs.declared.tree_move.TreeMove.TheVariants as named
use Rattle.lalrpop_lr1_paths.specs.CompletionSearches.{TellsCompletion}
use Rattle.lalrpop_lr1_counterexamples.specs.ShownMoves.{ComesNext, next_of, next_ways}
use Rattle.lalrpop_lr1_counterexamples.proofs.ShownLemmas.{back_told, joined_seen, reduction_shown, reduction_unshown}
use Rattle.lalrpop_lr1_counterexamples.proofs.shown_moves.shown.with_reduction.Goals as goal

pub returns-in-None : goal.returns-in-None
returns-in-None c = λ g s states are held.
    let ways = next_ways c.args.next.now in
    let p = production_view c.args.production.now in
    reduction_unshown g s states ways are c.args.state p c.back-before.result held
    (back_told ways c.args.paths.now c.len.result (length p.right) c.args.state c.back-before.result c.requires.paths
    (c.len.ensures ∙ sym (length-map c.args.production.now.symbols production_symbol_view)) c.back-before.ensures)
    (map tree_move_view c.args.front.now) (next_of c.args.next.now)
    (subst (λ found. TellsCompletion g s states ways c.back-before.result p.left (ComesNext (next_of c.args.next.now))
    (option_map (λ moves. map tree_move_view moves.items) found)) c.in-None.is (c.in_ok-moves.ensures g s states are.completions))

pub returns-in_ok-all-in-Some : goal.returns-in_ok-all-in-Some
returns-in_ok-all-in-Some c = λ g s states are held.
    let ways = next_ways c.args.next.now in
    let p = production_view c.args.production.now in
    reduction_shown g s states ways are c.args.state p c.back-before.result held
    (back_told ways c.args.paths.now c.len.result (length p.right) c.args.state c.back-before.result c.requires.paths
    (c.len.ensures ∙ sym (length-map c.args.production.now.symbols production_symbol_view)) c.back-before.ensures)
    (map tree_move_view c.args.front.now) (next_of c.args.next.now) (map tree_move_view c.in-Some.out.items)
    (map tree_move_view c.in_ok-all-in-Some.all.items)
    (subst (λ found. TellsCompletion g s states ways c.back-before.result p.left (ComesNext (next_of c.args.next.now))
    (option_map (λ moves. map tree_move_view moves.items) found)) c.in-Some.is (c.in_ok-moves.ensures g s states are.completions))
    (joined_seen c.args.front.now (named.Reduce c.args.production) c.in-Some.out.items c.in_ok-all-in-Some.all.items
    c.in_ok-all-in-Some.ensures)
