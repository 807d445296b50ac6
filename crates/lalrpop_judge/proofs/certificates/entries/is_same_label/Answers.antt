use Rattle.std.proofs.Common.{◌≡◌, ◌↔◌, ◌∙◌, IsTrue, sym}
use Rattle.lalrpop_grammar_repr.proofs.EqualLemmas.{same_productions}
use Rattle.lalrpop_judge.proofs.EntryLemmas.{same_nodes}
use Rattle.lalrpop_judge.proofs.certificates.entries.is_same_label.Goals as goal

pub returns-in-Node-b-2 : goal.returns-in-Node-b-2
returns-in-Node-b-2 c =
    let p = c.in-Node.production in
    let q = c.in-Node-b-2.other in
    let h : IsTrue c.eq.result ↔ (p.now ≡ q.now) = (
      λ t. (same_productions p.now q.now).0 (sym c.eq.ensures ∙ t),
      λ e. c.eq.ensures ∙ (same_productions p.now q.now).1 e,
    ) in
    same_nodes c.args.a.now c.args.b.now p q c.eq.result c.in-Node.is c.in-Node-b-2.is h
