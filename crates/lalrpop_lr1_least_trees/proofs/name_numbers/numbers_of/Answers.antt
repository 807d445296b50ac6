use Rattle.std.proofs.Common.{◌∙◌, ◌+◌, ap, drop, subst, sym}
use Rattle.std.specs.BTreeMap.{insert_entry}
use Rattle.std.specs.List.Sorted.{IsStrictlySortedBy}
use Rattle.lalrpop_grammar_symbols.specs.contracts.names.NonterminalStringOrd.TheImpl as names_order
use Rattle.lalrpop_lr1_first.specs.Listings.{lent}
use Rattle.lalrpop_lr1_first.specs.Tables.{pairs_from}
use Rattle.lalrpop_lr1_first.proofs.NameLemmas.{copied_goes_on, name_antisymm, pairs_keys}
use Rattle.lalrpop_lr1_least_trees.proofs.NumberLemmas.{pairs_end, pairs_more}
use Rattle.lalrpop_lr1_least_trees.proofs.name_numbers.numbers_of.Goals as goal

pub loop-number-preserved : goal.loop-number-preserved
loop-number-preserved c =
    let names = c.args.names.now in
    let i = c.loop-number.number in
    let n = c.index-names-number.result in
    copied_goes_on name_antisymm (pairs_from 0 (lent names)) c.loop-number.numbers (pairs_from i (drop i (lent names)))
    (pairs_from (i + 1) (drop (i + 1) (lent names))) c.insert.new.self n.now i
    (subst (IsStrictlySortedBy (names_order.ghosts).cmp) (sym (pairs_keys (lent names) 0)) c.requires)
    c.loop-number.invariant (pairs_more names i n c.loop-number-test.true c.index-names-number.is)
    (c.in_ok-insert.ensures.ok ∙ ap (λ k. insert_entry (names_order.ghosts).cmp c.loop-number.numbers k i) c.in_ok-try_clone.ensures)

pub returns : goal.returns
returns c = pairs_end c.args.names.now c.loop-number.number c.loop-number.numbers c.loop-number-test.false c.loop-number.invariant
