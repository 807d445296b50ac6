use Rattle.std.proofs.Common.{◌≡◌, map, length}
use Rattle.lalrpop_grammar.specs.Views.{item_view}
use Rattle.lalrpop_norm_token_check.specs.Blocks.{block_groups}
use Rattle.lalrpop_norm_token_check.proofs.block.first_block.Given as goal

abbrev pub invariant-loop-item : goal.invariant-loop-item
invariant-loop-item l = block_groups (map item_view l.rest) ≡ block_groups (map item_view l.items)

abbrev pub decreases-loop-item : goal.decreases-loop-item
decreases-loop-item l = length l.rest
