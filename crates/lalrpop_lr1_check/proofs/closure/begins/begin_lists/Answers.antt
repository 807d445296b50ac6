use Rattle.std.proofs.Common.{◌∙◌, ◌<◌, ◌≤◌, List, ap, arith, get_or, length, refl, subst}
use Rattle.lalrpop_lr1_least_trees.specs.Searches.{number_lists}
use Rattle.lalrpop_lr1_least_trees.proofs.UseLemmas.{view_long}
use Rattle.lalrpop_lr1_first.specs.declared.place.NumberedRule.{NumberedRule}
use Rattle.lalrpop_lr1_first.proofs.ListLemmas.{read_default}
use Rattle.lalrpop_lr1_check.specs.BeginClauses.{begin_of_rule}
use Rattle.lalrpop_lr1_check.specs.BeginLists.{AddsBegins}
use Rattle.lalrpop_lr1_check.proofs.BeginLemmas.{left_within}
use Rattle.lalrpop_lr1_check.proofs.ListedBeginLemmas.{begins_end, begins_more}
use Rattle.lalrpop_lr1_check.proofs.closure.begins.begin_lists.Goals as goal

abbrev none : NumberedRule
none = record { left = 0; start = 0 }

pub add_begin-requires : goal.add_begin-requires
add_begin-requires c =
    omega (
      arith,
      left_within c.args.table.now c.requires c.rules-rules.result.now c.loop-number.number none c.rules-rules.ensures
          c.loop-number-test.true,
      c.loop-number.invariant.0,
      view_long c.loop-number.begins.items,
    )

pub loop-number-preserved : goal.loop-number-preserved
loop-number-preserved c =
    let t = c.args.table.now in
    let k = c.loop-number.number in
    let old = number_lists c.loop-number.begins.items in
    let new = number_lists c.add_begin.new.begins.items in
    let inside : k < length t.rules.items = omega (arith, c.loop-number-test.true, ap length c.rules-rules.ensures) in
    let rule = get_or t.rules.items k none in
    let adds : AddsBegins (begin_of_rule t rule) old new =
    subst (λ (l : List NumberedRule). AddsBegins (begin_of_rule t (get_or l k none)) old new) c.rules-rules.ensures
    c.in_ok-add_begin.ensures in (
      adds.count ∙ c.loop-number.invariant.0,
      begins_more t k rule old new inside (read_default t.rules.items k none rule inside refl) c.loop-number.invariant.1 adds,
    )

pub returns : goal.returns
returns c =
    let t = c.args.table.now in
    let past : length t.rules.items ≤ c.loop-number.number =
    omega (arith, c.loop-number-test.false, ap length c.rules-rules.ensures) in
    begins_end t c.loop-number.number (number_lists c.loop-number.begins.items) past c.loop-number.invariant.0
    c.loop-number.invariant.1
