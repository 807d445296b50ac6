-- Nodes as the program has them, by what they are seen as, and by what their productions are hashed.
use Rattle.std.specs.Prelude.{ℕ, ◌≡◌, true, List}
use Rattle.std.specs.Hash as fed
use Rattle.std.proofs.Common.{ap}
use Rattle.lalrpop_grammar_repr.specs.contracts.production.ProductionPartialEq.TheImpl as productions
use Rattle.lalrpop_grammar_repr.specs.declared.production.Production.{Production}
use Rattle.lalrpop_grammar_repr.proofs.EqualLemmas.{same_productions}
use Rattle.lalrpop_lr1_core.specs.Views.{production_view}
use Rattle.lalrpop_lane_tables.specs.TraceNodes.{TraceNode, front_node, moved_node}
use Rattle.lalrpop_lane_tables.specs.declared.lane_tracer.Node.{Node}
use Rattle.lalrpop_lane_tables.specs.declared.lane_tracer.Node.TheVariants.{Moved, Front}

-- what a node is seen as
abbrev pub node_key : Node → TraceNode
node_key (Moved m rule j) = moved_node m (production_view rule.0.now) j
node_key (Front m name) = front_node m name.now.0

-- productions are hashed by the numbers of their actions, and those that compare as equal alike
abbrev pub rule_hash : Production → List (List ℕ)
rule_hash p = fed.u32 p.action.0

pub same_rule_hash : (p q : Production) → (productions.ghosts).eq p q ≡ true → rule_hash p ≡ rule_hash q
same_rule_hash p q equal = ap rule_hash ((same_productions p q).0 equal)
