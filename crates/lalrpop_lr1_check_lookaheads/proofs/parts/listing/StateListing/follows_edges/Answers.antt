use Rattle.std.proofs.Common.{◌≡◌, ◌∙◌, ◌↔◌, sym, true, false, map, subst}
use Rattle.lalrpop_lr1_check_lookaheads.specs.ListTests.{HoldsAtEach}
use Rattle.lalrpop_lr1_check_lookaheads.specs.Listings.{listing_kernels, listing_keys}
use Rattle.lalrpop_lr1_check_lookaheads.specs.ListedItems.{item_key}
use Rattle.lalrpop_lr1_check_lookaheads.specs.Moves.{KernelComesBack}
use Rattle.lalrpop_lr1_check_lookaheads.specs.SeenEdges.{noted_edge}
use Rattle.lalrpop_lr1_check_lookaheads.proofs.FollowLemmas.{edges_followed, follows_both}
use Rattle.lalrpop_lr1_check_lookaheads.proofs.parts.listing.StateListing.follows_edges.Goals as goal

pub returns-then-states_move_on : goal.returns-then-states_move_on
returns-then-states_move_on c = λ look.
    let own = c.args.self.now in
    let kernels = c.as_slice.ensures.value in
    let edges = c.as_slice-then-states_move_on.ensures.value in
    let says = subst (λ es. (c.edges_come_back.result ≡ true) ↔ HoldsAtEach (λ _ edge. KernelComesBack (listing_keys own)
    (listing_kernels own) (noted_edge edge)) es) edges
    (subst (λ ks. (c.edges_come_back.result ≡ true) ↔ HoldsAtEach (λ _ edge. KernelComesBack (listing_keys own)
    (map (λ k. map item_key k.keys) ks) (noted_edge edge)) c.as_slice-then-states_move_on.result.now) kernels
    c.edges_come_back.ensures) in (
      λ e. follows_both look own c.requires (c.states_move_on.ensures.0 c.if-states_move_on.true) (says.0 e),
      λ h. says.1 (edges_followed look own c.requires h).1,
    )

pub returns-else-states_move_on : goal.returns-else-states_move_on
returns-else-states_move_on c = λ look. (
  λ e. let w : ⊥ = cc in absurd w,
  λ h.
      let all = (edges_followed look c.args.self.now c.requires h).0 in
      let both : true ≡ false = sym (c.states_move_on.ensures.1 all) ∙ c.if-states_move_on.false in let w : ⊥ = cc in absurd w,
)
