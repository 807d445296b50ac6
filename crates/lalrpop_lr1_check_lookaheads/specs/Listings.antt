-- When items, kernels and edges are those of states: for the test of states.
use Rattle.std.specs.Prelude.{◌≡◌, List, length, map}
use Rattle.lalrpop_lr1_check_lookaheads.specs.ListTests.{HaveSameElements, HoldsAtEach}
use Rattle.lalrpop_lr1_check_lookaheads.specs.ListedItems.{AreKernels, ItemKey, item_key, keys_of_states}
use Rattle.lalrpop_lr1_check_lookaheads.specs.SeenEdges.{HasOrderedEdges, noted_edge, edges_of_states}
use Rattle.lalrpop_lr1_check_lookaheads.specs.declared.parts.listing.StateListing.{StateListing}

abbrev pub listing_keys : StateListing → List ItemKey
listing_keys listing = map item_key listing.listed.keys

abbrev pub listing_kernels : StateListing → List (List ItemKey)
listing_kernels listing = map (λ k. map item_key k.keys) listing.kernels.items

-- the listing has the states' items, kernels and edges, and their maps are in order
pub record IsStateListing (listing : StateListing) : Type 0 where
  pub items : HaveSameElements (listing_keys listing) (keys_of_states listing.states.now)
  pub kernels : AreKernels (listing_kernels listing) listing.states.now
  pub count : length listing.kernels.items ≡ length listing.states.now
  pub edges : map noted_edge listing.edges.items ≡ edges_of_states listing.states.now
  pub ordered : HoldsAtEach (λ _ state. HasOrderedEdges state) listing.states.now
