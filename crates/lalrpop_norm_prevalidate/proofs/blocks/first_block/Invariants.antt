use Rattle.std.proofs.Common.{◌≡◌, map, drop}
use Rattle.std.specs.Prelude.{flat_map}
use Rattle.lalrpop_grammar.specs.Views.{item_view}
use Rattle.lalrpop_norm_prevalidate.specs.Firsts.{first_of}
use Rattle.lalrpop_norm_prevalidate.specs.Blocks.{block_span}
use Rattle.lalrpop_norm_prevalidate.proofs.blocks.first_block.Given as goal

abbrev pub invariant-loop-item : goal.invariant-loop-item
invariant-loop-item l =
    first_of (flat_map block_span (map item_view (drop l.item-index l.items)))
    ≡ first_of (flat_map block_span (map item_view l.items))
