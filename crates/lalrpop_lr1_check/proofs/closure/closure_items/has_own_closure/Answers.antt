use Rattle.std.proofs.Common.{subst, sym}
use Rattle.lalrpop_lr1_theory.specs.NameClosures.{IsMovedItem, IsNameBrought}
use Rattle.lalrpop_lr1_least_trees.specs.Searches.{number_lists}
use Rattle.lalrpop_lr1_first.specs.NumberedGrammars.{IsSeenIn, table_productions}
use Rattle.lalrpop_lr1_check.specs.BeginLists.{AreBeginLists}
use Rattle.lalrpop_lr1_check.specs.NamesBehind.{HasSeenItem}
use Rattle.lalrpop_lr1_check.specs.RuleLists.{AreRuleLists}
use Rattle.lalrpop_lr1_check.proofs.UnmovedLemmas.{seen_unmoved, unmoved_seen}
use Rattle.lalrpop_lr1_check.proofs.closure.closure_items.has_own_closure.Goals as goal

pub mark_brought_names-requires-clause-begins : goal.mark_brought_names-requires-clause-begins
mark_brought_names-requires-clause-begins c =
    subst (λ l. AreBeginLists c.args.table.now (number_lists l)) (sym c.as_slice.ensures.value) c.requires.lists.begins

pub mark_brought_names-requires-clause-names : goal.mark_brought_names-requires-clause-names
mark_brought_names-requires-clause-names c = c.requires.lent.of_names

pub are_items_of_names-requires-clause-rules : goal.are_items_of_names-requires-clause-rules
are_items_of_names-requires-clause-rules c =
    subst (λ l. AreRuleLists c.args.table.now (number_lists l)) (sym c.as_slice-2.ensures.value) c.requires.lists.rules

pub are_items_of_names-requires-clause-names : goal.are_items_of_names-requires-clause-names
are_items_of_names-requires-clause-names c = c.in_ok-mark_brought_names.ensures.names.listed

pub are_items_of_names-requires-clause-productions : goal.are_items_of_names-requires-clause-productions
are_items_of_names-requires-clause-productions c = c.requires.lent.of_productions

pub returns-clause-brings : goal.returns-clause-brings
returns-clause-brings c =
    let t = c.args.table.now in
    let G = IsSeenIn (table_productions t) in
    let items = c.args.items.now in
    let names = c.mark_brought_names.new.names.marks.items in
    let Name = IsNameBrought G (IsMovedItem (HasSeenItem items)) in
    let marks = c.in_ok-mark_brought_names.ensures.marks in
    let says = c.in_ok-brings.ensures.are in (
      λ e. unmoved_seen t c.requires.table names Name marks items (says.0 e),
      λ h. says.1 (seen_unmoved t c.requires.table names Name marks items h),
    )

pub returns-clause-lent : goal.returns-clause-lent
returns-clause-lent c = λ e. record {
  of_names = c.in_ok-mark_brought_names.ensures.names;
  of_productions = c.in_ok-brings.ensures.productions e;
}
