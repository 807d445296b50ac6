use Rattle.std.proofs.Common.{◌≡◌, ◌∙◌, ◌<◌, ◌≤◌, ℕ, List, Contains, Some, arith, length, slice_get, subst}
use Rattle.std.specs.Prelude.{flat_map}
use Rattle.lalrpop_lr1_least_trees.specs.Searches.{number_lists}
use Rattle.lalrpop_lr1_first.proofs.ListLemmas.{get_slice}
use Rattle.lalrpop_lr1_check.specs.BeginClauses.{begin_of_rule}
use Rattle.lalrpop_lr1_check.specs.BeginLists.{Queues}
use Rattle.lalrpop_lr1_check.proofs.BeginLemmas.{begin_within, one_need}
use Rattle.lalrpop_lr1_check.proofs.CloseLemmas.{names_end, names_more, names_start, queue_end}
use Rattle.lalrpop_lr1_check.proofs.closure.closing.close_names.Goals as goal

pub loop-done-init : goal.loop-done-init
loop-done-init c =
    let t = c.args.table.now in
    names_start (flat_map (begin_of_rule t) t.rules.items) (number_lists c.args.begins.now) c.requires.begins.begins
    c.args.names.now.marks.items c.args.names.now.numbers.items c.requires.names.listed

pub loop-done-preserved : goal.loop-done-preserved
loop-done-preserved c =
    let t = c.args.table.now in
    let clauses = flat_map (begin_of_rule t) t.rules.items in
    let first = c.args.names.now.marks.items in
    let now = c.loop-done.names.marks.items in
    let new = c.mark_all.new.marks.marks.items in
    let queue = c.loop-done.names.numbers.items in
    let more = c.mark_all.new.marks.numbers.items in
    let done = c.loop-done.done in
    let own = c.index.result.now in
    let inside : done < length queue = omega (arith, c.loop-done-test.true, c.len.ensures) in
    let at : slice_get queue done ≡ Some own = get_slice queue done own inside c.index.ensures in
    let within : (d : List ℕ × ℕ) → Contains clauses d → d.1 < length first =
    λ d e. omega (arith, begin_within t c.requires.table d e, c.requires.names.long) in
    let gain = subst (λ xs. Queues xs now new queue more) c.listed_for.ensures c.in_ok-mark_all.ensures in
    names_more clauses (number_lists c.args.begins.now) c.requires.begins.begins first now new queue more done own within
    c.loop-done.invariant at gain

pub returns-clause-names : goal.returns-clause-names
returns-clause-names c =
    let t = c.args.table.now in
    let clauses = flat_map (begin_of_rule t) t.rules.items in
    let lists = number_lists c.args.begins.now in
    let first = c.args.names.now.marks.items in
    let now = c.loop-done.names.marks.items in
    let queue = c.loop-done.names.numbers.items in
    let past : length queue ≤ c.loop-done.done = omega (arith, c.loop-done-test.false, c.len.ensures) in
    record {
      long = c.loop-done.invariant.count ∙ c.requires.names.long;
      listed = queue_end clauses lists c.requires.begins.begins first now queue c.loop-done.done c.loop-done.invariant
          (names_end clauses lists c.requires.begins.begins first now queue c.loop-done.done (one_need t c.requires.table) past
          c.loop-done.invariant);
    }

pub returns-clause-closed : goal.returns-clause-closed
returns-clause-closed c =
    let t = c.args.table.now in
    let past : length c.loop-done.names.numbers.items ≤ c.loop-done.done = omega (arith, c.loop-done-test.false, c.len.ensures) in
    names_end (flat_map (begin_of_rule t) t.rules.items) (number_lists c.args.begins.now) c.requires.begins.begins
    c.args.names.now.marks.items c.loop-done.names.marks.items c.loop-done.names.numbers.items c.loop-done.done
    (one_need t c.requires.table) past c.loop-done.invariant
