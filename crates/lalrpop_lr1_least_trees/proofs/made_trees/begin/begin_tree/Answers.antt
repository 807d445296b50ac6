use Rattle.std.proofs.Common.{Vec, Global, map, subst, sym}
use Rattle.std.specs.Option.{option_map}
use Rattle.lalrpop_lr1_first.specs.FirstSetsOf.{IsProductionOf}
use Rattle.lalrpop_lr1_least_trees.specs.MoveViews.{tree_move_view}
use Rattle.lalrpop_lr1_least_trees.specs.declared.tree_move.TreeMove.{TreeMove}
use Rattle.lalrpop_lr1_least_trees.specs.BeginForests.{HaveBeginMoves}
use Rattle.lalrpop_lr1_interpret.specs.ExpandedViews.{expanded_view}
use Rattle.lalrpop_lr1_least_trees.specs.SpanNumbers.{AreMade, LeadToOne}
use Rattle.lalrpop_lr1_least_trees.proofs.MadeTreeLemmas.{begin_leads, begin_numbered}
use Rattle.lalrpop_lr1_least_trees.proofs.made_trees.begin.begin_tree.Goals as goal

pub only_tree-requires : goal.only_tree-requires
only_tree-requires c =
    let A = c.args.nonterminal.now.0 in
    let g = c.requires.grammar.grammar in
    let t = c.requires.begins.terminal in
    let b = subst (λ f. HaveBeginMoves (IsProductionOf g) A t (option_map
    (λ (v : Vec TreeMove Global). map tree_move_view v.items) f))
    c.in-Some.is (c.in_ok-moves.ensures g t c.requires.grammar.table c.requires.begins.wanted) in
    subst (λ ms. LeadToOne (map tree_move_view ms)) (sym c.as_slice.ensures.value)
    (begin_leads (IsProductionOf g) A t (map tree_move_view c.in-Some.moves.items) b)

pub returns-in-None : goal.returns-in-None
returns-in-None c = λ g t of w.
    subst (λ f. HaveBeginMoves (IsProductionOf g) c.args.nonterminal.now.0 t
    (option_map (λ (v : Vec TreeMove Global). map tree_move_view v.items) f)) c.in-None.is (c.in_ok-moves.ensures g t of w)

pub returns-in_ok-only_tree-in-Some : goal.returns-in_ok-only_tree-in-Some
returns-in_ok-only_tree-in-Some c = λ g t of w.
    let A = c.args.nonterminal.now.0 in
    let b = subst (λ f. HaveBeginMoves (IsProductionOf g) A t (option_map
    (λ (v : Vec TreeMove Global). map tree_move_view v.items) f))
    c.in-Some.is (c.in_ok-moves.ensures g t of w) in
    let tree = expanded_view c.in_ok-only_tree-in-Some.field-0 in
    begin_numbered (IsProductionOf g) A t (map tree_move_view c.in-Some.moves.items) b c.args.from tree
    (subst (λ ms. AreMade (map tree_move_view ms) c.args.from tree) c.as_slice.ensures.value c.in_ok-only_tree-in-Some.ensures)
