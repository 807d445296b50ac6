use Rattle.std.proofs.Common.{◌≡◌, ◌+◌, ◌++◌, length, map, arith}
use Rattle.lalrpop_grammar_symbols.specs.Views.{literal_view}
use Rattle.lalrpop_grammar.specs.Views.{intern_entry_view}
use Rattle.lalrpop_norm_token_check.specs.Entries.{entries_of_groups}
use Rattle.lalrpop_norm_token_check.proofs.MakingLemmas.{group_view, group_moved}
use Rattle.lalrpop_norm_token_check.proofs.making.push_groups.Goals as goal

pub loop-group-preserved : goal.loop-group-preserved
loop-group-preserved c =
    let others = map (λ x. literal_view x.now) c.args.others.now in
    let size : length c.in-Some.behind.now + 1 ≡ length c.loop-group.rest.now = c.in-Some.ensures.cases.1 in
    record {
      shorter = omega arith;
      same = group_moved others (map intern_entry_view c.loop-group.entries) (map intern_entry_view c.push_group.new.entries)
          (map intern_entry_view c.args.entries.now ++ entries_of_groups others (map group_view c.args.groups.now))
          c.loop-group.rest.now c.in-Some.behind.now c.in-Some.group.now c.in-Some.ensures.cases.0 size c.loop-group.invariant.same
          (rw c.as_slice.ensures at c.in_ok-push_group.ensures);
    }
