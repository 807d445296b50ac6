use Rattle.std.proofs.Common.{◌∙◌, ap, sym, subst, map}
use Rattle.std.specs.Option.{option_copied}
use Rattle.lalrpop_lr1_theory.proofs.StepLemmas.{some_same}
use Rattle.lalrpop_lr1_check_lookaheads.specs.ListedItems.{item_key}
use Rattle.lalrpop_lr1_check_lookaheads.specs.Moves.{ComesBackOver}
use Rattle.lalrpop_lr1_check_lookaheads.specs.SeenEdges.{noted_edge}
use Rattle.lalrpop_lr1_check_lookaheads.proofs.parts.moving.comes_back_from.Goals as goal

pub returns-in-None : goal.returns-in-None
returns-in-None c =
    let none = sym c.symbol_at.ensures ∙ ap option_copied c.in-None.is in (
      λ e. let w : ⊥ = cc in absurd w,
      λ h. let both = sym h.1 ∙ none in let w : ⊥ = cc in absurd w,
    )

pub returns-in-Some : goal.returns-in-Some
returns-in-Some c =
    let own = c.in-Some.symbol.now in
    let there = sym c.symbol_at.ensures ∙ ap option_copied c.in-Some.is in (
      λ e. (own, there, c.comes_back_over.ensures.0 e),
      λ h. c.comes_back_over.ensures.1
          (subst (λ y. ComesBackOver (map item_key c.args.listed.now.keys) (noted_edge c.args.edge.now) c.args.production.now c.args.dot y)
          (some_same h.0 own (sym h.1 ∙ there)) h.2),
    )
