use Rattle.std.proofs.Common.{◌∙◌, sym, ap}
use Rattle.lalrpop_lexer_pattern.specs.PlainHirs.{PlainHir, hir_view, plain_repeated}
use Rattle.lalrpop_lexer_pattern.proofs.CopyLemmas.{hir_view-Repetition, plain_repeated-push}
use Rattle.lalrpop_lexer_pattern.proofs.copies.wrap_in_repeats.Goals as goal

pub loop-repeats-preserved : goal.loop-repeats-preserved
loop-repeats-preserved c =
    let r = c.in-Some.repeats in
    let rest = c.pop.new.self.items in
    ap (plain_repeated rest)
    (hir_view-Repetition r c.in_ok-new.field-0
    ∙ ap (λ h. PlainHir.repetition r.min r.max r.greedy (hir_view h)) c.in_ok-new.ensures.ok)
    ∙ sym (plain_repeated-push rest r (hir_view c.loop-repeats.whole))
    ∙ sym (ap (λ rs. plain_repeated rs (hir_view c.loop-repeats.whole)) c.in-Some.ensures.items) ∙ c.loop-repeats.invariant
