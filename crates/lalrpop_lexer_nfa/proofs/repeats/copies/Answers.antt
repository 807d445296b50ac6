use Rattle.std.proofs.Common.{◌≡◌, ◌*◌, ◌≤◌, sym, ap, ◌∙◌, arith}
use Rattle.lalrpop_lexer_pattern.specs.Meaning.{meaning}
use Rattle.lalrpop_lexer_pattern.specs.Matches.{Pattern}
use Rattle.lalrpop_lexer_pattern.proofs.MeaningLemmas.{meaning-Repetition, meaning-Concat, meaning-Alternation}
use Rattle.lalrpop_lexer_nfa.specs.Repeating.{copies_in, copy_count}
use Rattle.lalrpop_lexer_nfa.proofs.RepeatLemmas.{copies_step, copies_last, copies_in_concat, copies_in_alternation}
use Rattle.lalrpop_lexer_nfa.proofs.repeats.copies.Goals as goal

pub loop-tree-preserved : goal.loop-tree-preserved
loop-tree-preserved c =
    let r = c.in-Repetition.repeats in
    let deeper = c.deref-tree-in-Repetition.result.now in
    let k = copy_count r.min r.max in
    let total = copies_in (Pattern.repetition c.args.repeats.min c.args.repeats.max c.args.repeats.greedy (meaning c.args.sub.now)) in
    let is : meaning c.loop-tree.tree.now ≡ Pattern.repetition r.min r.max r.greedy (meaning deeper) =
    ap meaning c.in-Repetition.is ∙ meaning-Repetition r c.in-Repetition.sub
    ∙ ap (λ h. Pattern.repetition r.min r.max r.greedy (meaning h)) (sym c.deref-tree-in-Repetition.ensures) in
    let counted : copies_in (meaning c.loop-tree.tree.now) ≡ k * copies_in (meaning deeper) = ap copies_in is in
    let less : c.saturating_mul-count.result ≤ c.loop-tree.count * k =
    omega (arith, c.saturating_mul-count.ensures, ap (λ n. c.loop-tree.count * n) c.copies_of.ensures) in
    copies_step c.loop-tree.count k c.saturating_mul-count.result (copies_in (meaning deeper)) total less
    (omega (arith, ap (λ n. c.loop-tree.count * n) counted, c.loop-tree.invariant))

pub returns-in-Concat : goal.returns-in-Concat
returns-in-Concat c =
    copies_last c.loop-tree.count (copies_in (meaning c.loop-tree.tree.now)) _
    (ap copies_in (ap meaning c.in-Concat.is ∙ meaning-Concat c.in-Concat.field-0) ∙ copies_in_concat _) c.loop-tree.invariant

pub returns-in-Alternation : goal.returns-in-Alternation
returns-in-Alternation c =
    copies_last c.loop-tree.count (copies_in (meaning c.loop-tree.tree.now)) _
    (ap copies_in (ap meaning c.in-Alternation.is ∙ meaning-Alternation c.in-Alternation.field-0) ∙ copies_in_alternation _)
    c.loop-tree.invariant
