use Rattle.std.proofs.Common.{◌≡◌, ◌↔◌, ◌∙◌, IsTrue, sym}
use Rattle.std.proofs.lemmas.Slice.Eq.{bytes_eq-Decides}
use Rattle.lalrpop_lr1_core.specs.Views.{production_view}
use Rattle.lalrpop_lr1_interpret.specs.ExpandedViews.{lent_view}
use Rattle.lalrpop_judge.proofs.RootLemmas.{root_decides}
use Rattle.lalrpop_judge.proofs.certificates.walk.is_rooted.Goals as goal

pub returns-in-Some : goal.returns-in-Some
returns-in-Some c =
    let p = c.in-Some.production.now in
    let name = c.args.name.now in
    let same = bytes_eq-Decides p.nonterminal.0 name.0 in
    let h : IsTrue c.eq.result ↔ (p.nonterminal.0 ≡ name.0) = (
      λ t. same.0 (sym c.eq.ensures ∙ t),
      λ e. c.eq.ensures ∙ same.1 e,
    ) in
    root_decides (lent_view c.args.tree) (production_view p) name.0 c.eq.result c.args.tree.in_order.1 c.in-Some.ensures h
