use Rattle.std.proofs.Common.{◌≡◌, map, length}
use Rattle.lalrpop_grammar.specs.Views.{item_view}
use Rattle.lalrpop_norm_prevalidate.specs.Firsts.{first_of}
use Rattle.lalrpop_norm_prevalidate.specs.Blocks.{later_blocks}
use Rattle.lalrpop_norm_prevalidate.proofs.blocks.second_block.Given as goal

abbrev pub invariant-loop-item : goal.invariant-loop-item
invariant-loop-item l =
    first_of (later_blocks (map item_view l.items)) ≡ first_of (later_blocks (map item_view l.grammar.items))

abbrev pub decreases-loop-item : goal.decreases-loop-item
decreases-loop-item l = length l.items
