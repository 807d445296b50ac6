use Rattle.std.proofs.Common.{◌≡◌, ◌+◌, ◌<◌, ◌^◌, ◌∙◌, [], List, ap, arith, inr, length, map}
use Rattle.std.proofs.Common.{refl, subst, sym}
use Rattle.lalrpop_grammar_symbols.specs.Symbols.{Text}
use Rattle.lalrpop_grammar_symbols.specs.declared.names.NonterminalString.{NonterminalString}
use Rattle.lalrpop_lr1_inline.specs.InliningSteps.{numbers_after}
use Rattle.lalrpop_lr1_inline.specs.InlinedGrammars.{IsInlineFault}
use Rattle.lalrpop_lr1_inline.specs.NumberCounts.{counts_of, handed_out, sum_of_entries, up_to_limit}
use Rattle.lalrpop_lr1_inline.proofs.SourceLemmas.{numbers_told}
use Rattle.lalrpop_lr1_inline.proofs.grammar.order_within_limit.Goals as goal

abbrev names : List NonterminalString → List Text
names order = map (λ n. n.0) order

pub returns-then-branch-gt-LIMIT-clause-fault : goal.returns-then-branch-gt-LIMIT-clause-fault
returns-then-branch-gt-LIMIT-clause-fault c =
    let g = c.args.grammar.now in
    let es = g.nonterminals in
    let order = names c.in_ok-order.order.items in
    let k = length g.action_fn_defns in
    let o = c.in_ok-order.ensures in
    let many : c.in_ok-count_numbers.field-0 ≡ up_to_limit (numbers_after order es k) =
    numbers_told es order o.all o.once o.named_first k c.in_ok-count_numbers.field-0
    (c.in_ok-count_numbers.ensures
    ∙ ap (λ (l : List NonterminalString). up_to_limit (k + sum_of_entries (handed_out (counts_of es [] (names l))) es))
    c.as_slice.ensures.value) in
    let past : 2 ^ 32 < numbers_after order es k = omega (arith, many, c.if-branch-gt-LIMIT.true) in
    subst (IsInlineFault g) (sym c.too_many.ensures)
    (inr (record { order = order; is_order = o.order; too_many = past; error_is = refl }))

pub returns-clause-room : goal.returns-clause-room
returns-clause-room c =
    let g = c.args.grammar.now in
    let es = g.nonterminals in
    let order = names c.in_ok-order.order.items in
    let k = length g.action_fn_defns in
    let o = c.in_ok-order.ensures in
    let many : c.in_ok-count_numbers.field-0 ≡ up_to_limit (numbers_after order es k) =
    numbers_told es order o.all o.once o.named_first k c.in_ok-count_numbers.field-0
    (c.in_ok-count_numbers.ensures
    ∙ ap (λ (l : List NonterminalString). up_to_limit (k + sum_of_entries (handed_out (counts_of es [] (names l))) es))
    c.as_slice.ensures.value) in
    omega (arith, many, c.if-branch-gt-LIMIT.false)
