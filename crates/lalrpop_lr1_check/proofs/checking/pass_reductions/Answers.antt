use Rattle.std.proofs.Common.{◌≡◌, ◌∙◌, sym, true, false}
use Rattle.lalrpop_lr1_check.proofs.checking.pass_reductions.Goals as goal

pub returns-then-not-ends : goal.returns-then-not-ends
returns-then-not-ends c = λ over. (
  λ e. let w : ⊥ = cc in absurd w,
  λ p.
      let both : true ≡ false = sym ((c.in_ok-ends.ensures over.reductions).1 p.ends) ∙ c.if-not-ends.true in
      let w : ⊥ = cc in absurd w,
)

pub returns : goal.returns
returns c = λ over. (
  λ e. record {
    ends = (c.in_ok-ends.ensures over.reductions).0 c.if-not-ends.false;
    no_conflict = (c.in_ok-none.ensures c.requires.numbered c.requires.places over.reductions).0 e;
  },
  λ p. (c.in_ok-none.ensures c.requires.numbered c.requires.places over.reductions).1 p.no_conflict,
)
