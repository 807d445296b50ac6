use Rattle.std.proofs.Common.{◌∙◌, ap, length, subst, sym}
use Rattle.lalrpop_lr1_theory.specs.NameClosures.{IsNameBegun}
use Rattle.lalrpop_lr1_least_trees.specs.Searches.{number_lists}
use Rattle.lalrpop_lr1_first.specs.NumberedGrammars.{IsSeenIn, table_productions}
use Rattle.lalrpop_lr1_check.specs.BeginLists.{AreBeginLists}
use Rattle.lalrpop_lr1_check.specs.RuleLists.{AreRuleLists}
use Rattle.lalrpop_lr1_check.proofs.UnmovedLemmas.{seen_unmoved, unmoved_seen}
use Rattle.lalrpop_lr1_check.proofs.closure.closure_items.are_begun.Goals as goal

pub begun_names-requires-clause-begins : goal.begun_names-requires-clause-begins
begun_names-requires-clause-begins c =
    subst (λ l. AreBeginLists c.args.table.now (number_lists l)) (sym c.as_slice.ensures.value) c.requires.lists.begins

pub are_items_of_names-requires-clause-rules : goal.are_items_of_names-requires-clause-rules
are_items_of_names-requires-clause-rules c =
    subst (λ l. AreRuleLists c.args.table.now (number_lists l)) (sym c.as_slice-2.ensures.value) c.requires.lists.rules

pub are_items_of_names-requires-clause-names : goal.are_items_of_names-requires-clause-names
are_items_of_names-requires-clause-names c = c.in_ok-names.ensures.names.listed

pub are_items_of_names-requires-clause-productions : goal.are_items_of_names-requires-clause-productions
are_items_of_names-requires-clause-productions c = record {
  long = c.in_ok-productions.ensures.marks.long ∙ ap length c.productions.ensures;
  listed = c.in_ok-productions.ensures.marks.listed;
}

pub returns : goal.returns
returns c =
    let t = c.args.table.now in
    let G = IsSeenIn (table_productions t) in
    let items = c.args.items.now in
    let names = c.in_ok-names.names.marks.items in
    let Name = IsNameBegun G c.args.start.now.0 in
    let marks = c.in_ok-names.ensures.marks in
    let says = c.in_ok-are.ensures.are in (
      λ e. unmoved_seen t c.requires.table names Name marks items (says.0 e),
      λ h. says.1 (seen_unmoved t c.requires.table names Name marks items h),
    )
