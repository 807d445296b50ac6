use Rattle.std.proofs.Common.{◌∙◌, sym, subst, Contains, map}
use Rattle.lalrpop_lr1_theory.proofs.StepLemmas.{some_same}
use Rattle.lalrpop_lr1_check_lookaheads.specs.ListedItems.{item_key, key_at}
use Rattle.lalrpop_lr1_check_lookaheads.proofs.parts.moving.moves_over.Goals as goal

pub returns-in-None : goal.returns-in-None
returns-in-None c = (
  λ e. let w : ⊥ = cc in absurd w,
  λ h. let both = sym c.in-None.is ∙ c.target_of.ensures ∙ h.1 in let w : ⊥ = cc in absurd w,
)

pub returns-in-Some : goal.returns-in-Some
returns-in-Some c =
    let m = c.in-Some.target in
    let at = sym c.target_of.ensures ∙ c.in-Some.is in (
      λ e. (m, at, c.has_item.ensures.0 e),
      λ h. c.has_item.ensures.1
          (subst (λ j. Contains (map item_key c.args.listed.now.keys) (key_at j c.args.item.now.production.now c.args.dot))
          (some_same h.0 m (sym h.1 ∙ at)) h.2),
    )
