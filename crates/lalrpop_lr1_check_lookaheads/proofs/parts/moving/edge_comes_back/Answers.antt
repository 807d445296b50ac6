use Rattle.std.proofs.Common.{◌≡◌, ◌∙◌, ◌<◌, ◌↔◌, ap, map, sym, subst, true, length}
use Rattle.std.specs.Option.{option_copied}
use Rattle.lalrpop_lr1_check_lookaheads.specs.ListTests.{HoldsAtEach}
use Rattle.lalrpop_lr1_check_lookaheads.specs.ListedItems.{item_key}
use Rattle.lalrpop_lr1_check_lookaheads.specs.Moves.{DoesComeBack}
use Rattle.lalrpop_lr1_check_lookaheads.specs.SeenEdges.{noted_edge}
use Rattle.lalrpop_lr1_check_lookaheads.proofs.KernelLemmas.{kernel_none, kernel_some}
use Rattle.lalrpop_lr1_check_lookaheads.proofs.parts.moving.edge_comes_back.Goals as goal

pub returns-in-None : goal.returns-in-None
returns-in-None c =
    kernel_none (map item_key c.args.listed.now.keys) c.args.kernels.now (noted_edge c.args.edge.now)
    (sym c.kernel_at.ensures ∙ ap option_copied c.in-None.is)

pub returns-in-Some : goal.returns-in-Some
returns-in-Some c =
    let says = subst (λ l. (c.items_come_back.result ≡ true) ↔ ((0 < length l)
    × HoldsAtEach (λ _ item. DoesComeBack (map item_key c.args.listed.now.keys) (noted_edge c.args.edge.now) (item_key item)) l))
    c.as_slice.ensures.keys c.items_come_back.ensures in
    kernel_some (map item_key c.args.listed.now.keys) c.args.kernels.now (noted_edge c.args.edge.now) c.in-Some.kernel.now
    c.items_come_back.result (sym c.kernel_at.ensures ∙ ap option_copied c.in-Some.is) says
