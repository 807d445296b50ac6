use Rattle.std.proofs.Common.{◌≡◌, length}
use Rattle.lalrpop_lr1_core.specs.IncomingEdges.{HasNewest, HasPrevious}
use Rattle.lalrpop_lr1_core.proofs.state_graph.links_of.Given as goal

abbrev pub invariant-loop-place : goal.invariant-loop-place
invariant-loop-place l =
    HasNewest l.edges l.place l.newest.items × HasPrevious l.edges l.previous.items × (length l.previous.items ≡ l.place)
