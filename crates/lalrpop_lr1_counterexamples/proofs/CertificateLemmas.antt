-- Trees that are made of the moves which show a conflict certify it: for the call that makes them.
use Rattle.std.proofs.Common.{◌≡◌, ◌∙◌, ℕ, List, length, map, Some, refl, sym, ap, subst}
use Rattle.std.specs.Prelude.{slice_get}
use Rattle.lalrpop_grammar_symbols.specs.Symbols.{Text}
use Rattle.lalrpop_grammar_symbols.specs.Views.{terminal_view}
use Rattle.lalrpop_grammar_repr.specs.declared.grammar.Grammar.{Grammar}
use Rattle.lalrpop_lr1_theory.specs.Automata.{Walk}
use Rattle.lalrpop_lr1_theory.specs.CanonicalStates.{AreCanonicalStates}
use Rattle.lalrpop_lr1_theory.specs.Productions.{Next, Production}
use Rattle.lalrpop_lr1_theory.specs.Spans.{without_spans}
use Rattle.lalrpop_lr1_theory.specs.States.{HasEdge, HasItem, HasLookahead, State}
use Rattle.lalrpop_lr1_theory.specs.Trees.{Move, MovesLead, none, reduce, roots, shift}
use Rattle.lalrpop_lr1_core.specs.Views.{production_view, token_lookahead}
use Rattle.lalrpop_lr1_core.specs.declared.conflict.Action.{Action}
use Rattle.lalrpop_lr1_core.specs.declared.conflict.Action.TheVariants as actions
use Rattle.lalrpop_lr1_core.specs.declared.conflict.Conflict.{Conflict}
use Rattle.lalrpop_lr1_first.specs.FirstSetsOf.{IsProductionOf}
use Rattle.lalrpop_lr1_core.specs.TheoryGrammars.{theory_grammar}
use Rattle.lalrpop_lr1_least_trees.specs.MoveViews.{tree_move_view}
use Rattle.lalrpop_lr1_theory.specs.PathTrees.{IsStateOf, LedBy}
use Rattle.lalrpop_lr1_theory.proofs.PathLemmas.{walk_by_edges}
use Rattle.lalrpop_lr1_paths.specs.PathTables.{last_steps}
use Rattle.lalrpop_lr1_paths.specs.declared.completion_steps.completion_graphs.CompletionGraphs.{CompletionGraphs}
use Rattle.lalrpop_lr1_least_trees.proofs.MakingLemmas.{moves_lead}
use Rattle.lalrpop_judge.specs.Certificates.{MakesMove, ShownConflict, number_move, reduce_by}
use Rattle.lalrpop_lr1_counterexamples.specs.ShownLaws.{ShownMovesCanBeMade, ShownTreesMakeTheMove}
use Rattle.lalrpop_lr1_counterexamples.specs.ShownMoves.{AreSteppedStates, ShowsMove}
use Rattle.lalrpop_lr1_counterexamples.specs.ActionMoves.{ShowsAction}
use Rattle.lalrpop_lr1_counterexamples.specs.ConflictMoves.{AreConflictMoves}
use Rattle.lalrpop_lr1_counterexamples.specs.declared.conflict_moves.conflict.ConflictMoves.{ConflictMoves}
use Rattle.lalrpop_lr1_counterexamples.specs.StandingConflicts.{IsOtherAction, IsStandingConflict}
use Rattle.lalrpop_lr1_counterexamples.specs.ConflictCertificates.{HaveOwnActions, IsCertificateOf, move_of_action}
use Rattle.lalrpop_lr1_counterexamples.specs.MadeCertificates.{CanBeMade, IsMadeCertificate}
use Rattle.lalrpop_lr1_counterexamples.proofs.StartLemmas.{held_production}

-- an item with a lookahead is one
held_item : (states : List State) (n : ℕ) (p : Production) (i : ℕ) (x : Next) → HasLookahead states n p i x → HasItem states n p i
held_item states n p i x h = record { state = h.state; lookahead = h.lookahead; at = h.at; held = h.held }

module _ (g : Grammar) (s : Text) (states : List State) (ways : CompletionGraphs) (x : Next) (n : ℕ) (p : Production) where
  -- a move that is shown, with the action's name
  record IsShownAction (front : List Move) (action : Action) (all : List Move) : Type 0 where
    move : Move
    shows : ShowsMove g s ways n front move x all
    named : number_move move ≡ move_of_action action

  shown_action : (front : List Move) (all : List Move) (action : Action) → IsOtherAction states n x p action →
      ShowsAction g s states ways n front x action (Some all) → IsShownAction front action all
  shown_action front all (actions.Shift t target) stands shows = record {
    move = shift (terminal_view t);
    shows = subst (λ y. ShowsMove g s ways n front (shift (terminal_view t)) y all) stands.1 shows;
    named = refl;
  }
  shown_action front all (actions.Reduce q) stands shows =
      let q_seen = production_view q.now in
      record {
        move = reduce q_seen;
        shows = shows (held_item states n q_seen (length q_seen.right) x stands.0);
        named = refl;
      }

  -- the other action isn't the reduction
  other_action : (action : Action) → AreCanonicalStates (theory_grammar g) s states → IsOtherAction states n x p action →
      IsProductionOf g p → HaveOwnActions g → reduce_by p.action ≡ move_of_action action → ⊥
  other_action (actions.Shift t target) canonical stands over own e = let z : ⊥ = cc in z
  other_action (actions.Reduce q) canonical stands over own e =
      let q_seen = production_view q.now in
      let item = held_item states n q_seen (length q_seen.right) x stands.0 in
      let same : p.action ≡ q.now.action.0 = cc in
      stands.1 (own p q_seen over (held_production g s states canonical n q_seen (length q_seen.right) item) same)

module _ (g : Grammar) (s : Text) (states : List State) (ways : CompletionGraphs) (x : Next) (conflict : Conflict (List ℕ)) (it : ConflictMoves)
    (are : AreConflictMoves g s states ways conflict.state.0 x conflict it) (stands : IsStandingConflict states x conflict) where
  abbrev n : ℕ
  n = conflict.state.0

  abbrev p : Production
  p = production_view conflict.production.now

  abbrev front : List Move
  front = map tree_move_view it.shared.items

  acted : IsShownAction g s states ways x n p front conflict.action (map tree_move_view it.other.items)
  acted = shown_action g s states ways x n p front (map tree_move_view it.other.items) conflict.action stands.acts are.acts

  pub conflict_can_be_made : ShownMovesCanBeMade → CanBeMade it
  conflict_can_be_made law =
      let reducing = law g s ways n front (reduce p) x (map tree_move_view it.reducing.items) are.forest are.on_path are.reduces in
      let other = law g s ways n front acted.move x (map tree_move_view it.other.items) are.forest are.on_path acted.shows in
      record { shared = reducing.0; reducing = reducing.1; other = other.1 }

  module _ (canonical : AreCanonicalStates (theory_grammar g) s states) (stepped : AreSteppedStates g s states ways) (c : ShownConflict)
      (made : IsMadeCertificate conflict x it c) where
    -- the roots of the shared trees lead to the state
    shared_walk : Walk (HasEdge states) (roots (without_spans c.shared)) n
    shared_walk =
        let f = are.forest in
        let lead = subst (λ ms. MovesLead ms none f) are.on_path.moves_are (moves_lead (IsProductionOf g) f are.on_path.over) in
        let trees_are = made.shared.trees_are f lead in
        subst (λ xs. Walk (HasEdge states) xs n) (sym (ap roots trees_are ∙ are.on_path.roots_are))
        (walk_by_edges (HasEdge states) (LedBy (last_steps ways.paths.now)) (IsStateOf states) stepped.paths are.on_path.symbols n
        are.on_path.walk)

    pub conflict_is_certified : ShownTreesMakeTheMove → HaveOwnActions g →
        slice_get (token_lookahead g.terminals conflict.lookahead).nexts 0 ≡ Some x → IsCertificateOf g s states conflict c
    conflict_is_certified law own least =
        let first = law g s ways n front (reduce p) x (map tree_move_view it.reducing.items) are.forest are.on_path are.reduces c.shared
        c.tree1 made.shared made.tree1 in
        let second = law g s ways n front acted.move x (map tree_move_view it.other.items) are.forest are.on_path acted.shows c.shared
        c.tree2 made.shared made.tree2 in
        let over = held_production g s states canonical n p (length p.right) (held_item states n p (length p.right) x stands.reduces) in
        let Makes = MakesMove (IsProductionOf g) s c.shared in
        record {
          certifies = record {
            differ = λ e.
                other_action g s states ways x n p conflict.action canonical stands.acts over own (sym made.move1 ∙ e ∙ made.move2);
            spans = first.0;
            makes1 = subst (λ y. Makes y c.move1 c.tree1) (sym made.next) (subst (λ m. Makes x m c.tree1) (sym made.move1) first.1);
            makes2 = subst (λ y. Makes y c.move2 c.tree2) (sym made.next)
                (subst (λ m. Makes x m c.tree2) (acted.named ∙ sym made.move2) second.1);
          };
          move1_is = made.move1;
          move2_is = made.move2;
          walk = shared_walk;
          next_is = least ∙ ap Some (sym made.next);
        }
