use Rattle.std.proofs.Common.{◌≤◌, ◌^◌, List, length, map, subst, sym}
use Rattle.lalrpop_grammar_symbols.specs.Symbols.{Text}
use Rattle.lalrpop_grammar_symbols.specs.declared.names.NonterminalString.{NonterminalString}
use Rattle.lalrpop_lr1_inline.specs.InliningSteps.{AreInlineSteps, numbers_after}
use Rattle.lalrpop_lr1_inline.proofs.grammar.inline.Goals as goal

abbrev names : List NonterminalString → List Text
names order = map (λ n. n.0) order

pub inline_by_order-requires-clause-room : goal.inline_by_order-requires-clause-room
inline_by_order-requires-clause-room c =
    let g = c.args.grammar in
    subst (λ (l : List NonterminalString). numbers_after (names l) g.nonterminals (length g.action_fn_defns) ≤ 2 ^ 32)
    (sym c.as_slice.ensures.value) c.in_ok-order.ensures.room

pub returns-clause-inlined : goal.returns-clause-inlined
returns-clause-inlined c =
    let g = c.args.grammar in
    let made = c.in_ok-inline_by_order.field-0 in
    record {
      order = names c.in_ok-order.order.items;
      is_order = c.in_ok-order.ensures.order;
      steps = subst (λ (l : List NonterminalString).
          AreInlineSteps (names l) g.nonterminals g.action_fn_defns made.nonterminals made.action_fn_defns)
          c.as_slice.ensures.value c.in_ok-inline_by_order.ensures.steps;
      numbers = c.in_ok-order.ensures.room;
      others = c.in_ok-inline_by_order.ensures.others;
    }
