use Rattle.std.proofs.Common.{◌≡◌, ◌∙◌, ◌↔◌, List, ℕ, map, subst, sym, true, false}
use Rattle.lalrpop_lr1_theory.specs.States.{HasEdge, HasItem}
use Rattle.lalrpop_lr1_core.specs.Views.{lr_state_view, token_lookahead}
use Rattle.lalrpop_lr1_core.specs.declared.state.State.{State}
use Rattle.lalrpop_lr1_check_lookaheads.specs.Moves.{FollowsEdges}
use Rattle.lalrpop_lr1_check_lookaheads.specs.Reductions.{FinishedAsSeen}
use Rattle.lalrpop_lr1_check.proofs.checking.pass_along_edges.Goals as goal

pub returns-then-not-reduces_finished : goal.returns-then-not-reduces_finished
returns-then-not-reduces_finished c =
    let look = token_lookahead c.args.terminals.now in
    let says = subst (λ (l : List (State (List ℕ))). (c.reduces_finished.result ≡ true)
    ↔ FinishedAsSeen (map (lr_state_view look) l))
    c.in_ok-listing.ensures.states (c.reduces_finished.ensures look) in (
      λ e. let w : ⊥ = cc in absurd w,
      λ p.
          let both : true ≡ false = sym (says.1 p.finished) ∙ c.if-not-reduces_finished.true in
          let w : ⊥ = cc in absurd w,
    )

pub returns : goal.returns
returns c =
    let look = token_lookahead c.args.terminals.now in
    let says = subst (λ (l : List (State (List ℕ))). (c.reduces_finished.result ≡ true)
    ↔ FinishedAsSeen (map (lr_state_view look) l))
    c.in_ok-listing.ensures.states (c.reduces_finished.ensures look) in
    let moves = subst (λ (l : List (State (List ℕ))). (c.follows_edges.result ≡ true)
    ↔ FollowsEdges (HasItem (map (lr_state_view look) l)) (HasEdge (map (lr_state_view look) l)))
    c.in_ok-listing.ensures.states (c.follows_edges.ensures look) in (
      λ e. record { finished = says.0 c.if-not-reduces_finished.false; follows = moves.0 e },
      λ p. moves.1 p.follows,
    )
