use Rattle.std.proofs.Common.{◌∙◌, ◌++◌, ◌∷◌, [], ℕ, List, Option, Some, ap, map, sym}
use Rattle.std.proofs.lemmas.List.{take_all}
use Rattle.lalrpop_lr1_check_lookaheads.proofs.GainLemmas.{mapped_taken}
use Rattle.lalrpop_lr1_check_lookaheads.proofs.lookaheads.propagated.option_sets.Goals as goal

pub loop-set-preserved : goal.loop-set-preserved
loop-set-preserved c =
    let f : List ℕ → Option (List ℕ) = λ s. Some s in
    c.in_ok-push.ensures.items ∙ ap (λ s. c.loop-set.copies.items ++ f s ∷ []) c.in_ok-try_clone.ensures
    ∙ ap (λ l. l ++ f c.set-item.result ∷ []) c.loop-set.invariant
    ∙ sym (mapped_taken f c.args.sets.now c.loop-set.set-index c.set-item.result c.loop-set-test.true c.set-item.is)

pub returns : goal.returns
returns c = c.loop-set.invariant ∙ ap (map Some) (take_all c.loop-set.set-index c.args.sets.now c.loop-set-test.false)
