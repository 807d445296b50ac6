use Rattle.std.proofs.Common.{◌≡◌, ◌∙◌, ◌+◌, ap, arith, drop, subst, sym}
use Rattle.std.specs.BTreeMap.{insert_entry}
use Rattle.std.specs.List.Sorted.{IsStrictlySortedBy}
use Rattle.lalrpop_grammar_symbols.specs.contracts.names.NonterminalStringOrd.TheImpl as names_order
use Rattle.lalrpop_lr1_first.specs.FirstSetsOf.{named_from}
use Rattle.lalrpop_lr1_first.specs.Listings.{lent}
use Rattle.lalrpop_lr1_first.specs.Numbers.{set_of_number}
use Rattle.lalrpop_lr1_first.proofs.ListLemmas.{at_read_set}
use Rattle.lalrpop_lr1_first.proofs.NameLemmas.{copied_goes_on, name_antisymm}
use Rattle.lalrpop_lr1_first.proofs.NamedFirstLemmas.{named_keys, named_more}
use Rattle.lalrpop_lr1_first.proofs.first_sets.named_sets.Goals as goal

pub loop-number-preserved : goal.loop-number-preserved
loop-number-preserved c =
    let names = c.args.names.now in
    let sets = c.args.sets.now in
    let i = c.loop-number.number in
    let n = c.index-names-number.result in
    let set : c.index-sets-number.result ≡ set_of_number sets i =
    at_read_set sets i c.index-sets-number.result (omega (arith, c.loop-number-test.true, c.requires.enough)) c.index-sets-number.is in
    let put = insert_entry (names_order.ghosts).cmp c.loop-number.named in
    copied_goes_on name_antisymm (named_from 0 (lent names) sets) c.loop-number.named (named_from i (drop i (lent names)) sets)
    (named_from (i + 1) (drop (i + 1) (lent names)) sets) c.insert.new.self n.now (set_of_number sets i)
    (subst (IsStrictlySortedBy (names_order.ghosts).cmp) (sym (named_keys (lent names) 0 sets)) c.requires.ordered)
    c.loop-number.invariant (named_more names sets i n c.loop-number-test.true c.index-names-number.is)
    (c.in_ok-insert.ensures.ok ∙ ap (λ k. put k c.in_ok-try_clone-2.field-0) c.in_ok-try_clone.ensures
    ∙ ap (put n.now) (c.in_ok-try_clone-2.ensures ∙ set))
