-- What is made of the moves that show a conflict: for those who make certificates.
use Rattle.std.specs.Prelude.{ℕ, List, map, ◌≡◌}
use Rattle.lalrpop_lr1_theory.specs.Productions.{Next}
use Rattle.lalrpop_lr1_core.specs.declared.conflict.Conflict.{Conflict}
use Rattle.lalrpop_lr1_least_trees.specs.MoveViews.{tree_move_view}
use Rattle.lalrpop_lr1_least_trees.specs.SpanNumbers.{AreMade, LeadSomewhere, LeadToOne}
use Rattle.lalrpop_lr1_paths.specs.declared.completion_steps.completion_graphs.CompletionGraphs.{CompletionGraphs}
use Rattle.lalrpop_lr1_counterexamples.specs.ConflictMoves.{AreConflictMoves}
use Rattle.lalrpop_lr1_counterexamples.specs.declared.conflict_moves.conflict.ConflictMoves.{ConflictMoves}
use Rattle.lalrpop_judge.specs.Certificates.{ShownConflict, reduce_by}
use Rattle.lalrpop_lr1_counterexamples.specs.ConflictCertificates.{move_of_action}
use Rattle.lalrpop_lr1_counterexamples.specs.ShownStates.{IsConflictAt, states_of}
use Rattle.lalrpop_lr1_counterexamples.specs.declared.certificates.shown.ShownConflicts.{ShownConflicts}

-- the moves can be made: the shared ones to trees, each of the others to one tree
pub record CanBeMade (it : ConflictMoves) : Type 0 where
  pub shared : LeadSomewhere (map tree_move_view it.shared.items)
  pub reducing : LeadToOne (map tree_move_view it.reducing.items)
  pub other : LeadToOne (map tree_move_view it.other.items)

-- the trees are those that the moves build, and both moves and what comes next are the conflict's
pub record IsMadeCertificate (conflict : Conflict (List ℕ)) (x : Next) (it : ConflictMoves) (c : ShownConflict) : Type 0 where
  pub shared : AreMade (map tree_move_view it.shared.items) 0 c.shared
  pub tree1 : AreMade (map tree_move_view it.reducing.items) 0 c.tree1
  pub tree2 : AreMade (map tree_move_view it.other.items) 0 c.tree2
  pub move1 : c.move1 ≡ reduce_by conflict.production.now.action.0
  pub move2 : c.move2 ≡ move_of_action conflict.action
  pub next : c.next ≡ x

-- the moves show the conflict at the place
abbrev pub AreMovesAt : ShownConflicts → CompletionGraphs → Next → ℕ → ConflictMoves → Type 0
AreMovesAt it ways x number moves = (conflict : Conflict (List ℕ)) → IsConflictAt it number conflict →
    AreConflictMoves it.grammar.now it.start.now.0 (states_of it) ways conflict.state.0 x conflict moves
