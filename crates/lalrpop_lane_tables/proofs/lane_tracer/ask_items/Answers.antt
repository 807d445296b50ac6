use Rattle.std.proofs.Common.{◌≡◌, ◌∙◌, ◌+◌, ◌∷◌, ◌++◌, [], ap, map, sym, take}
use Rattle.std.proofs.lemmas.List.{take_more}
use Rattle.lalrpop_lane_tables.specs.NodeKeys.{node_key}
use Rattle.lalrpop_lane_tables.proofs.AskLemmas.{asks_both}
use Rattle.lalrpop_lane_tables.proofs.lane_tracer.ask_items.Goals as goal

pub loop-item-preserved : goal.loop-item-preserved
loop-item-preserved g c =
    let i = c.loop-item.item-index in
    let items = c.args.items.now in
    let more : take (i + 1) items ≡ take i items ++ c.item-item.result ∷ [] =
    take_more items i c.item-item.result c.loop-item-test.true ∙ ap (λ x. take i items ++ x ∷ []) (sym c.item-item.is) in
    rw more (asks_both c.args.ground.now.grammar.now c.args.state c.args.name.now.0 {L = g.row.L.Denot} (take i items)
    (c.item-item.result ∷ []) c.args.conflict.index (map node_key c.args.visited.now.keys) (map node_key c.loop-item.visited.keys)
    (map node_key c.ask_item.new.visited.keys) c.args.table.now c.loop-item.table c.ask_item.new.table c.loop-item.invariant
    c.in_ok-ask_item.ensures)
