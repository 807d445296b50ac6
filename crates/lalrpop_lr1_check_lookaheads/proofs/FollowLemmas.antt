-- Items follow edges, as a listing of states tells it: for the test of states.
use Rattle.std.proofs.Common.{◌≡◌, ◌∙◌, ℕ, List, length, map}
use Rattle.lalrpop_lr1_theory.specs.States as states
use Rattle.lalrpop_lr1_core.specs.Views.{lr_state_view}
use Rattle.lalrpop_lr1_check_lookaheads.specs.ListTests.{HoldsAtEach}
use Rattle.lalrpop_lr1_check_lookaheads.specs.Listings.{IsStateListing, listing_kernels, listing_keys}
use Rattle.lalrpop_lr1_check_lookaheads.specs.Moves.{DoesMoveOn, FollowsEdges, KernelComesBack}
use Rattle.lalrpop_lr1_check_lookaheads.specs.SeenEdges.{noted_edge}
use Rattle.lalrpop_lr1_check_lookaheads.specs.declared.parts.listing.StateListing.{StateListing}
use Rattle.lalrpop_lr1_check_lookaheads.proofs.MoveLemmas.{back_seen, moves_seen, one_edge_any, seen_back, seen_moves}
use Rattle.lalrpop_lr1_first.proofs.TableLemmas.{long_map}

module _ (look : List ℕ → states.LookaheadSet) (own : StateListing) (is : IsStateListing own) where
  abbrev Follows : Type 0
  Follows = FollowsEdges (states.HasItem (map (lr_state_view look) own.states.now))
      (states.HasEdge (map (lr_state_view look) own.states.now))

  abbrev EachMoves : Type 0
  EachMoves = HoldsAtEach (λ _ state. HoldsAtEach (λ _ item. DoesMoveOn (listing_keys own) state item) state.items.vec) own.states.now

  abbrev EachBack : Type 0
  EachBack = HoldsAtEach (λ _ edge. KernelComesBack (listing_keys own) (listing_kernels own) (noted_edge edge)) own.edges.items

  count : length (listing_kernels own) ≡ length own.states.now
  count = long_map _ own.kernels.items ∙ is.count

  pub follows_both : EachMoves → EachBack → Follows
  follows_both moves back =
      let b = back_seen look own.states.now (listing_keys own) is.items (listing_kernels own) is.kernels count own.edges.items is.edges
      back in
      record {
        moves_on = moves_seen look own.states.now (listing_keys own) is.items moves;
        comes_back = b.comes_back;
        has_moved = b.has_moved;
        one_edge = one_edge_any look own.states.now (listing_keys own) is.items is.ordered;
      }

  pub edges_followed : Follows → EachMoves × EachBack
  edges_followed f = (
    seen_moves look own.states.now (listing_keys own) is.items is.ordered f.moves_on,
    seen_back look own.states.now (listing_keys own) is.items (listing_kernels own) is.kernels count own.edges.items is.edges
        (record { comes_back = f.comes_back; has_moved = f.has_moved }),
  )
