use Rattle.std.proofs.Common.{◌∙◌, ap, refl, sym, subst, map, ◌+◌}
use Rattle.lalrpop_lr1_core.specs.Dots.{lent_place}
use Rattle.lalrpop_lr1_theory.proofs.StepLemmas.{some_same}
use Rattle.lalrpop_lr1_check_lookaheads.specs.ListedItems.{item_key}
use Rattle.lalrpop_lr1_check_lookaheads.specs.Moves.{DoesMoveOver}
use Rattle.lalrpop_lr1_check_lookaheads.proofs.MoveLemmas.{placed_none, placed_some}
use Rattle.lalrpop_lr1_check_lookaheads.proofs.parts.moving.item_moves_on.Goals as goal

pub returns-in-None : goal.returns-in-None
returns-in-None c =
    let item = c.args.item.now in
    let none = placed_none item.production.now.symbols item.index (ap lent_place (sym c.in-None.is) ∙ c.symbol_and_next.ensures) in (
      λ e x at. let both = sym at ∙ none in let w : ⊥ = cc in absurd w,
      λ h. refl,
    )

pub returns-in-Some : goal.returns-in-Some
returns-in-Some c =
    let item = c.args.item.now in
    let own = c.in-Some.symbol.now in
    let at = placed_some item.production.now.symbols item.index own c.in-Some.next
    (ap lent_place (sym c.in-Some.is) ∙ c.symbol_and_next.ensures) in
    let Over = DoesMoveOver (map item_key c.args.listed.now.keys) c.args.state.now item.production.now in (
      λ e x there.
          subst (λ y. Over (item.index + 1) y) (some_same own x (sym at.0 ∙ there))
          (subst (λ i. Over i own) at.1 (c.moves_over.ensures.0 e)),
      λ h. c.moves_over.ensures.1 (subst (λ i. Over i own) (sym at.1) (h own at.0)),
    )
