use Rattle.std.proofs.Common.{map, subst, sym}
use Rattle.std.specs.Option.{option_map}
use Rattle.std.proofs.lemmas.Result.{IfOk-weaker}
use Rattle.lalrpop_lr1_least_trees.specs.MoveViews.{tree_move_view}
use Rattle.lalrpop_lr1_counterexamples.specs.ShownMoves.{TellsNextCompletion}
use Rattle.lalrpop_lr1_counterexamples.proofs.NextLemmas.{end_told}
use Rattle.lalrpop_lr1_counterexamples.proofs.shown_moves.next_completion.NextCompletion.moves.Goals as goal

pub returns-in-End : goal.returns-in-End
returns-in-End c =
    subst (λ out. TellsNextCompletion out c.args.state c.args.nonterminal.now c.moves.result) (sym c.in-End.is)
    (IfOk-weaker c.moves.result _ _
    (λ found h g s states are. end_told g s states c.in-End.out.ways.now c.args.state c.args.nonterminal.now.0
    (option_map (λ moves. map tree_move_view moves.items) found) (h g s states are)) c.moves.ensures)

pub returns-in-Terminal : goal.returns-in-Terminal
returns-in-Terminal c =
    subst (λ out. TellsNextCompletion out c.args.state c.args.nonterminal.now c.moves-in-Terminal.result) (sym c.in-Terminal.is)
    c.moves-in-Terminal.ensures
