use Rattle.std.proofs.Common.{◌∙◌, ◌+◌, ℕ, List, ap, arith, get_or, length, subst, sym}
use Rattle.std.proofs.lemmas.Option.{slice_get_within}
use Rattle.lalrpop_lr1_first.specs.declared.place.NumberedRule.{NumberedRule}
use Rattle.lalrpop_lr1_first.specs.NumberedGrammars.{table_names}
use Rattle.lalrpop_lr1_first.proofs.TableLemmas.{long_map}
use Rattle.lalrpop_lr1_barren.specs.NamedLists.{AreNamedLists, production_lists}
use Rattle.lalrpop_lr1_barren.proofs.NamedLemmas.{left_read, named_end, named_more, named_start, view_long}
use Rattle.lalrpop_lr1_barren.proofs.reachable.named.named_lists.Goals as goal

abbrev left : List NumberedRule → ℕ → ℕ
left rules number = (get_or rules number (record { left = 0; start = 0 })).left

pub loop-number-init : goal.loop-number-init
loop-number-init c =
    named_start c.args.table.now c.requires (production_lists c.in_ok-lists.lists.items)
    (view_long c.in_ok-lists.lists.items ∙ c.in_ok-lists.ensures.count ∙ ap length c.names.ensures) c.in_ok-lists.ensures.empty

pub list_under-requires : goal.list_under-requires
list_under-requires c =
    let t = c.args.table.now in
    let read = left_read t c.requires c.rules-rules.result.now c.productions-productions.result.now c.loop-number.number (record { left = 0; start = 0 })
    c.index-productions-number.result c.rules-rules.ensures c.productions-productions.ensures c.loop-number-test.true
    c.index-productions-number.is in
    omega (
      arith,
      slice_get_within (table_names t) (left c.rules-rules.result.now c.loop-number.number) c.index-productions-number.result.now.nonterminal read.1,
      long_map (λ b. b.now) t.names.items,
      c.loop-number.invariant.long,
      view_long c.loop-number.lists.items,
    )

pub loop-number-preserved : goal.loop-number-preserved
loop-number-preserved c =
    let t = c.args.table.now in
    let p = c.index-productions-number.result.now in
    let lists = production_lists c.loop-number.lists.items in
    let read = left_read t c.requires c.rules-rules.result.now c.productions-productions.result.now c.loop-number.number (record { left = 0; start = 0 })
    c.index-productions-number.result c.rules-rules.ensures c.productions-productions.ensures c.loop-number-test.true
    c.index-productions-number.is in
    subst (λ l. AreNamedLists t l (c.loop-number.number + 1)) (sym c.in_ok-list_under.ensures)
    (named_more t c.requires lists c.loop-number.number c.loop-number.invariant p (left c.rules-rules.result.now c.loop-number.number) read.0 read.1
    (omega (
      arith,
      slice_get_within (table_names t) (left c.rules-rules.result.now c.loop-number.number) p.nonterminal read.1,
      long_map (λ b. b.now) t.names.items,
      c.loop-number.invariant.long,
    )))

pub returns : goal.returns
returns c =
    let t = c.args.table.now in
    named_end t c.requires (production_lists c.loop-number.lists.items) c.loop-number.number
    (omega (
      arith,
      c.loop-number-test.false,
      ap length c.productions-productions.ensures,
      long_map (λ b. b.now) t.productions.items,
    )) c.loop-number.invariant
