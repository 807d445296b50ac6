use Rattle.std.proofs.Common.{◌≡◌, ◌-◌, ◌++◌, ◌∷◌, [], map, Ok, refl, sym, ap, ◌∙◌, arith}
use Rattle.std.proofs.lemmas.Result.{err_from_is_err_and}
use Rattle.std.proofs.lemmas.List.{map-append}
use Rattle.std.proofs.lemmas.Bool.Decides.{nat_tests}
use Rattle.lalrpop_lexer_pattern.specs.Matches.{Pattern}
use Rattle.lalrpop_lexer_pattern.specs.Meaning.{meaning}
use Rattle.lalrpop_lexer_regex.specs.Outcome.{closing_at}
use Rattle.lalrpop_lexer_regex.specs.Patterns.{concat_of, one_of, atom_at, factor_at, pattern_at}
use Rattle.lalrpop_lexer_regex.proofs.PatternLemmas.{inner_at-none, inner_at-more, pattern_with-is, fails_first, fails_second, branches_bar}
use Rattle.lalrpop_lexer_regex.proofs.PatternLemmas.{branches_piece, branches_fail, branches_end, branches_none}
use Rattle.lalrpop_lexer_regex.proofs.pattern.+read.Goals as goal
use Rattle.lalrpop_lexer_regex.proofs.pattern.+read.Goals.{pattern-in-Some+then-character-eq41, pattern-in_default}

pub inner-returns-then-depth-eq0-clause-gives : goal.inner-returns-then-depth-eq0-clause-gives
inner-returns-then-depth-eq0-clause-gives t c = inner_at-none c.args.depth c.args.flags c.args.left c.args.text.now c.if-depth-eq0.true

pub inner-returns-in_err-tree-clause-gives : goal.inner-returns-in_err-tree-clause-gives
inner-returns-in_err-tree-clause-gives t c =
    let p = err_from_is_err_and c.from_residual.result c.from_residual.ensures.1 in
    rw (p.1, p.2, inner_at-more c.args.depth c.args.flags c.args.left c.args.text.now (omega arith))
    (fails_first c.in_err-tree.field-0.0 (pattern_at (c.args.depth - 1) c.args.flags c.args.text.now) _ c.in_err-tree.ensures.gives)

pub inner-returns-in_err-rest-clause-gives : goal.inner-returns-in_err-rest-clause-gives
inner-returns-in_err-rest-clause-gives t c =
    let p = err_from_is_err_and c.from_residual-in_err-rest.result c.from_residual-in_err-rest.ensures.1 in
    rw (p.1, p.2, inner_at-more c.args.depth c.args.flags c.args.left c.args.text.now (omega arith))
    (fails_second c.in_err-rest.field-0.0 (pattern_at (c.args.depth - 1) c.args.flags c.args.text.now)
    (meaning c.in_ok-tree.tree, c.in_ok-tree.close.now) _ c.in_ok-tree.ensures.gives
    (fails_first c.in_err-rest.field-0.0 (closing_at 41 c.in_ok-tree.close.now) _ c.in_err-rest.ensures.gives))

pub inner-returns-clause-gives : goal.inner-returns-clause-gives
inner-returns-clause-gives t c =
    rw (
      inner_at-more c.args.depth c.args.flags c.args.left c.args.text.now (omega arith),
      c.in_ok-tree.ensures.gives,
      c.in_ok-rest.ensures.gives,
    ) refl

pub pattern-loop-character-preserved-then-character-eq124 : goal.pattern-loop-character-preserved-then-character-eq124
pattern-loop-character-preserved-then-character-eq124 t c =
    let bs = map meaning c.loop-character.branches.items in
    let ps = map meaning c.loop-character.factors.items in
    let pushed : map meaning c.push.new.self.items ≡ bs ++ concat_of ps ∷ [] =
    ap (map meaning) c.in_ok-push.ensures.items ∙ map-append meaning c.loop-character.branches.items (c.concat_of.result ∷ [])
    ∙ ap (λ (p : Pattern). bs ++ p ∷ []) c.concat_of.ensures in
    let none : map meaning c.new-factors-then-character-eq124.result.items ≡ [] =
    ap (map meaning) c.new-factors-then-character-eq124.ensures.items in
    rw (pushed, none)
    (branches_bar (factor_at c.args.depth) c.args.before c.args.text.now bs ps c.loop-character.flags c.loop-character.rest.now
    c.in-Some.more.now c.in-Some.character c.in-Some.ensures
    c.loop-character.invariant (grind (arith, nat_tests)) (grind (arith, nat_tests)))

pub pattern-returns-in_err-factor-clause-gives : goal.pattern-returns-in_err-factor-clause-gives
pattern-returns-in_err-factor-clause-gives t c =
    let bs = map meaning c.loop-character.branches.items in
    let ps = map meaning c.loop-character.factors.items in
    let p = err_from_is_err_and c.from_residual-in_err-factor.result c.from_residual-in_err-factor.ensures.1 in
    rw (p.1, p.2, pattern_with-is (atom_at c.args.depth) c.args.before c.args.text.now)
    (branches_fail (factor_at c.args.depth) c.args.before c.args.text.now bs ps c.loop-character.flags c.loop-character.rest.now
    c.in-Some.more.now c.in-Some.character c.in-Some.ensures
    c.loop-character.invariant c.in_err-factor.field-0.0 (grind (arith, nat_tests)) (grind (arith, nat_tests))
    c.in_err-factor.ensures.gives)

pub pattern-loop-character-preserved : goal.pattern-loop-character-preserved
pattern-loop-character-preserved t c =
    let bs = map meaning c.loop-character.branches.items in
    let ps = map meaning c.loop-character.factors.items in
    let pushed : map meaning c.push-else-character-eq124.new.self.items ≡ ps ++ meaning c.in_ok-factor.factor ∷ [] =
    ap (map meaning) c.in_ok-push-2.ensures.items ∙ map-append meaning c.loop-character.factors.items (c.in_ok-factor.factor ∷ []) in
    rw pushed
    (branches_piece (factor_at c.args.depth) c.args.before c.args.text.now bs ps c.loop-character.flags c.loop-character.rest.now
    c.in-Some.more.now c.in-Some.character c.in-Some.ensures
    c.loop-character.invariant (meaning c.in_ok-factor.factor, c.in_ok-factor.changed) c.in_ok-factor.following.now
    (grind (arith, nat_tests)) (grind (arith, nat_tests)) c.in_ok-factor.ensures.gives c.in_ok-factor.ensures.shorter)

pub pattern-returns-clause-gives : goal.pattern-returns-clause-gives
pattern-returns-clause-gives t c =
    let bs = map meaning c.loop-character.branches.items in
    let ps = map meaning c.loop-character.factors.items in
    let pushed : map meaning c.push-2.new.self.items ≡ bs ++ concat_of ps ∷ [] =
    ap (map meaning) c.in_ok-push-3.ensures.items ∙ map-append meaning c.loop-character.branches.items (c.concat_of-2.result ∷ [])
    ∙ ap (λ (p : Pattern). bs ++ p ∷ []) c.concat_of-2.ensures in
    pattern_with-is (atom_at c.args.depth) c.args.before c.args.text.now
    ∙ elim c.match-first.branch [
      | pattern-in-Some+then-character-eq41 w ↦
          branches_end (factor_at c.args.depth) c.args.before c.args.text.now bs ps c.loop-character.flags c.loop-character.rest.now _
          w.in-Some.character w.in-Some.ensures
          c.loop-character.invariant (grind (arith, nat_tests))
      | pattern-in_default w ↦
          branches_none (factor_at c.args.depth) c.args.before c.args.text.now bs ps c.loop-character.flags c.loop-character.rest.now
          c.loop-character.invariant w.in_default.ensures
    ]
    ∙ ap (λ (p : Pattern). Ok (p, c.loop-character.rest.now)) (sym (c.one_of.ensures ∙ ap one_of pushed))
