-- What is known of a shown conflict, by its place: for the calls that make its certificate.
use Rattle.std.proofs.Common.{◌≡◌, ◌∙◌, ◌<◌, ℕ, List, length, Some, sym, ap, subst, arith}
use Rattle.std.specs.Prelude.{slice_get}
use Rattle.std.proofs.lemmas.List.{length-map}
use Rattle.std.proofs.lemmas.Option.{slice_get_within}
use Rattle.lalrpop_lr1_theory.specs.Productions.{Next}
use Rattle.lalrpop_lr1_theory.proofs.StepLemmas.{some_same}
use Rattle.lalrpop_sets.specs.TokensLeft.{token_seen}
use Rattle.lalrpop_sets.specs.declared.token.TokenRef.{TokenRef}
use Rattle.lalrpop_lr1_core.specs.Views.{lr_state_view, token_lookahead}
use Rattle.lalrpop_lr1_core.specs.declared.conflict.Conflict.{Conflict}
use Rattle.lalrpop_lr1_counterexamples.specs.ConflictMoves.{HasFinishedItem}
use Rattle.lalrpop_lr1_counterexamples.specs.StandingConflicts.{IsStandingConflict, IsToldConflict, next_of_token}
use Rattle.lalrpop_lr1_counterexamples.specs.ShownStates.{AreShownConflicts, IsConflictAt, IsLeastToken, states_of}
use Rattle.lalrpop_lr1_counterexamples.specs.declared.certificates.shown.ShownConflicts.{ShownConflicts}

module _ (it : ShownConflicts) (are : AreShownConflicts it) (number : ℕ) (conflict : Conflict (List ℕ))
    (at : IsConflictAt it number conflict) where
  pub told : IsToldConflict it.grammar.now.terminals (states_of it) conflict
  told = are.told number conflict at

  -- its state is one of the states
  pub state_within : conflict.state.0 < length it.states.now
  state_within =
      let r = told.stands.reduces in
      let within = slice_get_within (states_of it) conflict.state.0 r.state r.at in
      omega (arith, within, length-map it.states.now (lr_state_view (token_lookahead it.grammar.now.terminals)))

  -- and has the finished item
  pub state_finished : HasFinishedItem (states_of it) conflict.state.0 conflict.production.now
  state_finished = let r = told.stands.reduces in record { state = r.state; lookahead = r.lookahead; at = r.at; held = r.held }

  module _ (token : TokenRef) (least : IsLeastToken it number token) (x : Next) (comes : next_of_token (token_seen token) ≡ x) where
    next_is : told.next ≡ x
    next_is =
        let same : told.token ≡ token_seen token = some_same told.token (token_seen token) (sym told.first_token ∙ least conflict at) in
        sym told.token_is ∙ ap next_of_token same ∙ comes

    -- it stands there before the token
    pub stands_before : IsStandingConflict (states_of it) x conflict
    stands_before = subst (λ y. IsStandingConflict (states_of it) y conflict) next_is told.stands

    pub least_before : slice_get (token_lookahead it.grammar.now.terminals conflict.lookahead).nexts 0 ≡ Some x
    least_before = told.least ∙ ap Some next_is
