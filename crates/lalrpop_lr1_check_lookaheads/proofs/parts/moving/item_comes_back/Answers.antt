use Rattle.std.proofs.Common.{◌≡◌, ◌+◌, ◌-◌, arith, map, subst}
use Rattle.lalrpop_lr1_check_lookaheads.specs.ListedItems.{item_key}
use Rattle.lalrpop_lr1_check_lookaheads.specs.Moves.{ComesBackFrom}
use Rattle.lalrpop_lr1_check_lookaheads.specs.SeenEdges.{noted_edge}
use Rattle.lalrpop_lr1_check_lookaheads.proofs.parts.moving.item_comes_back.Goals as goal

pub returns-then-item-eq0 : goal.returns-then-item-eq0
returns-then-item-eq0 c = (
  λ e. let w : ⊥ = cc in absurd w,
  λ h. absurd (omega (arith, h.1, c.if-item-eq0.true)),
)

pub returns : goal.returns
returns c =
    let i = c.args.item.now.dot in
    let before : i ≡ i - 1 + 1 = omega (arith, c.if-item-eq0.false) in (
      λ e. (i - 1, before, c.comes_back_from.ensures.0 e),
      λ h. let same : h.0 ≡ i - 1 = omega (arith, h.1, before) in
          c.comes_back_from.ensures.1
          (subst (λ j. ComesBackFrom (map item_key c.args.listed.now.keys) (noted_edge c.args.edge.now) c.args.item.now.production.now j)
          same h.2),
    )
