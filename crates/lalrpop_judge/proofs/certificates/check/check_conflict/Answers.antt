use Rattle.std.proofs.Common.{◌↔◌, IsTrue, ap, subst, sym}
use Rattle.lalrpop_lr1_theory.specs.Spans.{leaf_spans}
use Rattle.lalrpop_lr1_first.specs.FirstSetsOf.{IsProductionOf}
use Rattle.lalrpop_lr1_interpret.specs.ExpandedViews.{expanded_views}
use Rattle.lalrpop_judge.specs.CertificateViews.{certificate_view}
use Rattle.lalrpop_judge.specs.Certificates.{AreCountedFrom, MakesMove}
use Rattle.lalrpop_judge.proofs.EntryLemmas.{never}
use Rattle.lalrpop_judge.proofs.FrontLemmas.{second_decides}
use Rattle.lalrpop_judge.proofs.certificates.check.check_conflict.Goals as goal

pub returns-then-not-makes_first : goal.returns-then-not-makes_first
returns-then-not-makes_first c =
    let G = IsProductionOf c.args.grammar.now in
    let s = c.args.start.now.0 in
    let v = certificate_view c.args.certificate.now in
    let same = ap expanded_views c.as_slice-shared.ensures.value in (
      λ e. absurd (cc),
      λ k. absurd (never c.in_ok-makes_first.makes_first c.if-not-makes_first.true
          (c.in_ok-makes_first.ensures.1
          (subst (λ f. MakesMove G s f v.next v.move1 v.tree1 × AreCountedFrom 0 (leaf_spans f)) (sym same) (k.makes1, k.spans)))),
    )

pub returns : goal.returns
returns c =
    let G = IsProductionOf c.args.grammar.now in
    let s = c.args.start.now.0 in
    let v = certificate_view c.args.certificate.now in
    let yes = c.in_ok-makes_second.makes_second in
    let same = ap expanded_views c.as_slice-shared.ensures.value in
    second_decides G s v yes
    (λ e. never c.is_same_name.result c.if-is_same_name.false (c.is_same_name.ensures.1 e))
    (subst (λ f. MakesMove G s f v.next v.move1 v.tree1 × AreCountedFrom 0 (leaf_spans f)) same
    (c.in_ok-makes_first.ensures.0 c.if-not-makes_first.false))
    (subst (λ f. IsTrue yes ↔ (MakesMove G s f v.next v.move2 v.tree2 × AreCountedFrom 0 (leaf_spans f))) same
    c.in_ok-makes_second.ensures)
