use Rattle.std.proofs.Common.{◌≡◌, ◌∙◌, refl, sym, true}
use Rattle.lalrpop_grammar_repr.proofs.EqualLemmas.{same_productions}
use Rattle.lalrpop_judge.proofs.MembershipLemmas.{found_one, none_more}
use Rattle.lalrpop_judge.proofs.certificates.membership.is_among.Goals as goal

pub returns-then-eq : goal.returns-then-eq
returns-then-eq c =
    let e : c.other-item.result ≡ c.args.production.now =
    (same_productions c.other-item.result c.args.production.now).0 (sym c.eq.ensures ∙ c.if-eq.true) in (
      λ _. found_one c.args.productions.now c.loop-other.other-index c.args.production.now c.other-item.result
          c.loop-other-test.true c.other-item.is e,
      λ _. refl,
    )

pub loop-other-preserved : goal.loop-other-preserved
loop-other-preserved c =
    let ne : c.other-item.result ≡ c.args.production.now → ⊥ = λ e.
    let t : c.eq.result ≡ true = c.eq.ensures ∙ (same_productions c.other-item.result c.args.production.now).1 e in
    let z : ⊥ = cc in z in
    none_more c.args.productions.now c.args.production.now c.other-item.result c.loop-other.other-index c.loop-other-test.true
    c.loop-other.invariant c.other-item.is ne
