use Rattle.std.proofs.Common.{arith, get_or, heap_items, refl, take}
use Rattle.std.proofs.lemmas.List.{take_more}
use Rattle.std.proofs.lemmas.List.Elements.{Contains-get_or}
use Rattle.std.proofs.lemmas.Option.{slice_get-get_or}
use Rattle.lalrpop_lr1_paths.proofs.EntryLemmas.{edges_more, edges_start}
use Rattle.lalrpop_lr1_paths.proofs.graph_paths.waiting.push_edges.Goals as goal

pub loop-number-init : goal.loop-number-init
loop-number-init c = edges_start c.args.edges.now c.args.rest c.args.rest_weight (heap_items c.args.waiting.now)

pub bounds-edges-number : goal.bounds-edges-number
bounds-edges-number c =
    let i = c.loop-number.number-index in
    c.requires (get_or c.args.entering.now i 0) (Contains-get_or c.args.entering.now i 0 c.loop-number-test.true)

pub loop-number-preserved : goal.loop-number-preserved
loop-number-preserved c =
    let i = c.loop-number.number-index in
    let es = c.args.entering.now in
    let within = c.requires (get_or es i 0) (Contains-get_or es i 0 c.loop-number-test.true) in
    rw (take_more es i 0 c.loop-number-test.true) (edges_more c.args.edges.now c.args.rest c.args.rest_weight
    (heap_items c.args.waiting.now) (take i es) (get_or es i 0) _ _ (heap_items c.loop-number.waiting) (heap_items c.push.new.self)
    (slice_get-get_or c.args.edges.now (get_or es i 0) (record { from = 0; to = 0; weight = 0 }) within) refl refl
    c.saturating_add.ensures c.in_ok-push.ensures.permutation c.loop-number.invariant)

pub offset_bounds-edges-number : goal.offset_bounds-edges-number
offset_bounds-edges-number c =
    let i = c.loop-number.number-index in
    let within = c.requires (get_or c.args.entering.now i 0) (Contains-get_or c.args.entering.now i 0 c.loop-number-test.true) in
    omega (arith, within)
