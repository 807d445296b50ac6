use Rattle.std.proofs.Common.{◌≡◌, ◌∙◌, ◌<◌, ◌-◌, ◌++◌, ◌∷◌, [], suc, arith, false, length, refl, set, subst, sym, take, true}
use Rattle.lalrpop_lexer_pattern.specs.declared.class.Range.{Range}
use Rattle.lalrpop_lexer_pattern.specs.TouchingRanges.{EndsBelow, joined_range, kept_with}
use Rattle.lalrpop_lexer_pattern.proofs.TouchingLemmas.{ends_taken, last_apart, last_joined}
use Rattle.lalrpop_lexer_pattern.proofs.touching.join_last.Goals as goal

pub touches-requires : goal.touches-requires
touches-requires c =
    let rs = c.args.ranges.now.items in
    let m = c.args.kept - 1 in
    let last = c.index-last.result.now in
    let some : c.args.kept ≡ suc m = omega (arith, c.if-kept-eq0.false) in
    let inside : m < length rs = omega (arith, c.requires.kept, some) in
    let ends = (ends_taken rs m c.args.range.start last inside).0
    (subst (λ k. EndsBelow (take k rs) c.args.range.start) some c.requires.below) in
    subst (λ (x : Range). x.end < c.args.range.start) (sym c.index-last.ensures) ends

pub returns-then-not-touches-clause-apart : goal.returns-then-not-touches-clause-apart
returns-then-not-touches-clause-apart c = λ told.
    let rs = c.args.ranges.now.items in
    let m = c.args.kept - 1 in
    let some : c.args.kept ≡ suc m = omega (arith, c.if-kept-eq0.false) in
    let inside : m < length rs = omega (arith, c.requires.kept, some) in (
      refl,
      subst (λ k. kept_with (take k rs) c.args.range ≡ take k rs ++ c.args.range ∷ []) (sym some)
          (last_apart rs m c.index-last.result.now c.args.range inside c.index-last.ensures
          (λ next. let both : true ≡ false = sym (c.touches.ensures.1 next) ∙ c.if-not-touches.true in let w : ⊥ = cc in w)),
    )

pub returns-clause-joined : goal.returns-clause-joined
returns-clause-joined c = λ told.
    let rs = c.args.ranges.now.items in
    let m = c.args.kept - 1 in
    let last = c.index-last.result.now in
    let some : c.args.kept ≡ suc m = omega (arith, c.if-kept-eq0.false) in
    let inside : m < length rs = omega (arith, c.requires.kept, some) in
    subst (λ k. take k (set rs m (joined_range last c.args.range)) ≡ kept_with (take k rs) c.args.range) (sym some)
    (last_joined rs m last c.args.range inside c.index-last.ensures (c.touches.ensures.0 c.if-not-touches.false))
