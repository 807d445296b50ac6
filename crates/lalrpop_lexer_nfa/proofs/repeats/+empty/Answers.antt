use Rattle.std.proofs.Common.{◌≡◌, ◌<◌, ◌∙◌, All, map, length, sym, ap, subst, arith}
use Rattle.std.proofs.lemmas.Bool.{eqb-false}
use Rattle.std.proofs.lemmas.List.{length-map, take_all}
use Rattle.std.proofs.lemmas.List.Elements.{All-more}
use Rattle.lalrpop_lexer_pattern.specs.Meaning.{meaning}
use Rattle.lalrpop_lexer_pattern.specs.Matches.{Pattern, concat_all, alternation_all}
use Rattle.lalrpop_lexer_pattern.specs.declared.tree.Hir.{size-Hir}
use Rattle.lalrpop_lexer_pattern.proofs.MeaningLemmas.{meaning-Repetition, meaning-Concat, meaning-Alternation}
use Rattle.lalrpop_lexer_nfa.specs.Repeating.{HasEmptyWordAlone}
use Rattle.lalrpop_lexer_nfa.proofs.LanguageLemmas.{meaning_at}
use Rattle.lalrpop_lexer_nfa.proofs.RepeatLemmas.{empty_concat, empty_branches, empty_repeated, empty_unrepeated, same_count, size-repeated}
use Rattle.lalrpop_lexer_nfa.proofs.repeats.+empty.Goals as goal

-- what a pattern has, an equal one has
alone : (p q : Pattern) → p ≡ q → HasEmptyWordAlone q → HasEmptyWordAlone p
alone p q e h = let P : Pattern → Type 0 = λ x. HasEmptyWordAlone x in subst P (sym e) h

pub are_empty_words-loop-i-preserved : goal.are_empty_words-loop-i-preserved
are_empty_words-loop-i-preserved t c =
    let subs = c.args.subs.now in
    let at = meaning_at subs c.loop-i.i c.index-subs-i.result c.loop-i-test.true c.index-subs-i.is in
    All-more (λ p. HasEmptyWordAlone p) (map meaning subs) c.loop-i.i Pattern.empty (omega (arith, c.loop-i-test.true, length-map subs meaning))
    c.loop-i.invariant
    (alone _ (meaning c.index-subs-i.result) at (c.is_empty_word.ensures c.if-not-is_empty_word.false))

pub are_empty_words-returns : goal.are_empty_words-returns
are_empty_words-returns t c = λ e.
    let ps = map meaning c.args.subs.now in
    let all = take_all c.loop-i.i ps (omega (arith, c.loop-i-test.false, length-map c.args.subs.now meaning)) in
    let P : _ → Type 0 = All (λ p. HasEmptyWordAlone p) in subst P all c.loop-i.invariant

pub is_empty_word-returns-then-eq : goal.is_empty_word-returns-then-eq
is_empty_word-returns-then-eq t c = λ e.
    let r = c.in-Repetition.repeats in
    let sub = c.in-Repetition.sub in
    c.loop-tree.invariant.same
    (alone (meaning c.loop-tree.tree.now) (Pattern.repetition r.min r.max r.greedy (meaning sub.value))
    (ap meaning c.in-Repetition.is ∙ meaning-Repetition r sub)
    (empty_unrepeated (meaning sub.value) r.min r.max r.greedy r.ordered (same_count r.max 0 (sym c.eq.ensures ∙ c.if-eq.true))))

pub is_empty_word-loop-tree-preserved : goal.is_empty_word-loop-tree-preserved
is_empty_word-loop-tree-preserved t c =
    let r = c.in-Repetition.repeats in
    let sub = c.in-Repetition.sub in
    let inner = c.deref-tree-in-Repetition.result.now in
    let deeper = size-repeated r sub in
    let is = ap size-Hir c.in-Repetition.is in
    let at = ap size-Hir c.deref-tree-in-Repetition.ensures in
    record {
      same = λ h. c.loop-tree.invariant.same
          (alone (meaning c.loop-tree.tree.now) (Pattern.repetition r.min r.max r.greedy (meaning inner))
          (ap meaning c.in-Repetition.is ∙ meaning-Repetition r sub
          ∙ ap (λ x. Pattern.repetition r.min r.max r.greedy (meaning x)) (sym c.deref-tree-in-Repetition.ensures))
          (empty_repeated (meaning inner) r.min r.max r.greedy r.ordered h));
      within = omega (arith, deeper, is, at, c.loop-tree.invariant.within);
    }

pub is_empty_word-returns-in-Concat : goal.is_empty_word-returns-in-Concat
is_empty_word-returns-in-Concat t c = λ e.
    let ps = map meaning c.deref.result.now in
    c.loop-tree.invariant.same
    (alone (meaning c.loop-tree.tree.now) (concat_all ps)
    (ap meaning c.in-Concat.is ∙ meaning-Concat c.in-Concat.subs ∙ ap (λ hs. concat_all (map meaning hs)) (sym c.deref.ensures.value))
    (empty_concat ps (c.are_empty_words.ensures e)))

pub is_empty_word-returns-in-Alternation : goal.is_empty_word-returns-in-Alternation
is_empty_word-returns-in-Alternation t c = λ e.
    let ps = map meaning c.deref-in-Alternation.result.now in
    c.loop-tree.invariant.same
    (alone (meaning c.loop-tree.tree.now) (alternation_all ps)
    (ap meaning c.in-Alternation.is ∙ meaning-Alternation c.in-Alternation.subs
    ∙ ap (λ hs. alternation_all (map meaning hs)) (sym c.deref-in-Alternation.ensures.value))
    (c.are_empty_branches.ensures e))

pub are_empty_branches-returns : goal.are_empty_branches-returns
are_empty_branches-returns t c = λ e.
    let subs = c.args.subs.now in
    let none : length subs ≡ 0 → ⊥ = eqb-false (length subs) 0 (sym c.is_empty.ensures ∙ c.if-is_empty.false) in
    let some : 0 < length (map meaning subs) = omega (arith, none, length-map subs meaning) in
    empty_branches (map meaning subs) some (c.are_empty_words.ensures e)
