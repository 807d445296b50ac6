use Rattle.std.proofs.Common.{◌≡◌, ◌∙◌, None, sym, ap, is_some, not, true, false, arith}
use Rattle.lalrpop_lexer_nfa.proofs.RepeatLemmas.{AreJoinedCounts, joined_from, joined_to}
use Rattle.lalrpop_lexer_nfa.proofs.repeats.joint_repeats.Goals as goal
use Rattle.lalrpop_lexer_nfa.proofs.repeats.joint_repeats.Goals.{then-outer-eq0, else-outer-eq0, then-is_none, else-is_none}

pub returns-clause-same : goal.returns-clause-same
returns-clause-same c =
    let outer = c.args.outer in
    let inner = c.args.inner in
    let counts : AreJoinedCounts outer.min outer.max inner.min inner.max c.new.result.min c.new.result.max = record {
      none = λ e. c.new.ensures.min ∙ elim c.if-outer-eq0.branch as (λ b. c.if-outer-eq0.min ≡ 0) [
        | then-outer-eq0 w ↦ w.min-is
        | else-outer-eq0 w ↦ absurd (w.if-outer-eq0.false e)
      ];
      some = λ more. c.new.ensures.min ∙ elim c.if-outer-eq0.branch as (λ b. c.if-outer-eq0.min ≡ inner.min) [
        | then-outer-eq0 w ↦ absurd (omega (arith, more, w.if-outer-eq0.true))
        | else-outer-eq0 w ↦ w.min-is
      ];
      endless = λ e. c.new.ensures.max ∙ elim c.if-is_none.branch as (λ b. c.if-is_none.max ≡ None) [
        | then-is_none w ↦ w.max-is
        | else-is_none w ↦
            let off : false ≡ true = sym (ap is_some e) ∙ c.is_none.ensures ∙ ap not w.if-is_none.false in
            absurd cc
      ];
      bounded = λ e. c.new.ensures.max ∙ elim c.if-is_none.branch as (λ b. c.if-is_none.max ≡ inner.max) [
        | then-is_none w ↦
            let off : true ≡ false = sym (ap is_some e) ∙ c.is_none.ensures ∙ ap not w.if-is_none.true in
            absurd cc
        | else-is_none w ↦ w.max-is
      ];
    } in
    λ p w. (
      joined_to p outer.min inner.min c.new.result.min outer.max inner.max c.new.result.max outer.greedy inner.greedy
          c.new.result.greedy c.requires.outer c.requires.inner counts w,
      joined_from p outer.min inner.min c.new.result.min outer.max inner.max c.new.result.max outer.greedy inner.greedy
          c.new.result.greedy c.requires.outer c.requires.inner counts w,
    )
