use Rattle.std.proofs.Common.{◌+◌, arith, drop, map, subst}
use Rattle.lalrpop_lr1_theory.specs.Spans.{without_spans}
use Rattle.lalrpop_lr1_theory.specs.Trees.{MovesLead}
use Rattle.lalrpop_lr1_least_trees.specs.MoveViews.{tree_move_view}
use Rattle.lalrpop_lr1_interpret.specs.ExpandedViews.{listed_views}
use Rattle.lalrpop_lr1_least_trees.proofs.MakingLemmas.{can_move, left_moves, making_ends, making_more, moved_bound, none_left}
use Rattle.lalrpop_lr1_least_trees.proofs.made_trees.making.listed_trees.Goals as goal

pub make_move-requires-clause-can : goal.make_move-requires-clause-can
make_move-requires-clause-can c =
    let i = c.loop-tree_move.tree_move-index in
    let moves = c.args.moves.now in
    let m = c.tree_move-item.result in
    let trees = without_spans (listed_views c.loop-tree_move.trees) in
    can_move (tree_move_view m) (map tree_move_view (drop (i + 1) moves)) trees c.requires.moves.trees
    (subst (λ x. MovesLead x trees c.requires.moves.trees) (left_moves moves i m c.loop-tree_move-test.true c.tree_move-item.is)
    (c.loop-tree_move.invariant.making.lead c.requires.moves.trees c.requires.moves.lead))

pub loop-tree_move-preserved : goal.loop-tree_move-preserved
loop-tree_move-preserved c =
    let i = c.loop-tree_move.tree_move-index in
    let moves = c.args.moves.now in
    let m = c.tree_move-item.result in
    let old = listed_views c.loop-tree_move.trees in
    let new = listed_views c.make_move.new.trees in
    let rest = map tree_move_view (drop (i + 1) moves) in
    let first = left_moves moves i m c.loop-tree_move-test.true c.tree_move-item.is in
    let can = can_move (tree_move_view m) rest (without_spans old) c.requires.moves.trees
    (subst (λ x. MovesLead x (without_spans old) c.requires.moves.trees) first
    (c.loop-tree_move.invariant.making.lead c.requires.moves.trees c.requires.moves.lead)) in
    record {
      making = making_more (map tree_move_view moves) c.args.from (tree_move_view m) (map tree_move_view (drop i moves)) rest
          c.loop-tree_move.number c.in_ok-number.number old new first c.loop-tree_move.invariant.making can c.in_ok-number.ensures;
      bound = omega (
        arith,
        moved_bound (tree_move_view m) c.loop-tree_move.number c.in_ok-number.number old new c.in_ok-number.ensures,
        c.loop-tree_move.invariant.bound,
      );
    }

pub returns : goal.returns
returns c =
    let i = c.loop-tree_move.tree_move-index in
    making_ends (map tree_move_view c.args.moves.now) c.args.from (map tree_move_view (drop i c.args.moves.now)) c.loop-tree_move.number
    (listed_views c.loop-tree_move.trees) (none_left c.args.moves.now i c.loop-tree_move-test.false)
    c.loop-tree_move.invariant.making
