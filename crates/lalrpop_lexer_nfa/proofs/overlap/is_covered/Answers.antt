use Rattle.std.proofs.Common.{arith}
use Rattle.std.proofs.lemmas.Bool.{leb-true, le-leb, ltb-true}
use Rattle.lalrpop_lexer_nfa.proofs.CoverLemmas.{covered_from, covered_tells}
use Rattle.lalrpop_lexer_nfa.proofs.overlap.is_covered.Goals as goal

pub returns-then-beyond-gt0 : goal.returns-then-beyond-gt0
returns-then-beyond-gt0 c =
    let found = c.first_beyond-beyond.ensures in (
      λ h. covered_from c.args.ordered.now c.args.ends.now _ c.args.number c.requires.ends found.within found.below found.above
          c.if-beyond-gt0.true (leb-true _ _ h),
      λ h. le-leb _ _
          (covered_tells c.args.ordered.now c.args.ends.now _ c.args.number c.requires.ends found.within found.below found.above h).1,
    )

pub returns-else-beyond-gt0 : goal.returns-else-beyond-gt0
returns-else-beyond-gt0 c =
    let found = c.first_beyond-beyond.ensures in (
      λ h. absurd (let some = ltb-true 0 c.first_beyond-beyond.result h in omega (arith, some, c.if-beyond-gt0.false)),
      λ h. absurd
          (let some = (covered_tells c.args.ordered.now c.args.ends.now _ c.args.number c.requires.ends found.within found.below
          found.above h).0 in
          omega (arith, some, c.if-beyond-gt0.false)),
    )
