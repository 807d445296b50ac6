use Rattle.std.proofs.Common.{◌≤◌, ◌<◌, get_or, nat_lt, arith, rules}
use Rattle.std.proofs.lemmas.Bool.Decides.{nat_tests}
use Rattle.std.proofs.lemmas.List.Sorted.{IsPartitionPoint-from_clause, IsPartitionedBy-ltb}
use Rattle.lalrpop_sets.specs.declared.token_range.TokenRange.{TokenRange}
use Rattle.lalrpop_sets.proofs.RangeEditLemmas.{lasts_ascend}
use Rattle.lalrpop_sets.proofs.ranges.first_from.Goals as goal

pub returns-clause-parts : goal.returns-clause-parts
returns-clause-parts c =
    let rs = c.args.ranges.now in
    let n = c.args.number in
    let parted = IsPartitionedBy-ltb (λ (r : TokenRange). r.last) rs n (lasts_ascend 2 0 rs c.requires) in
    let point = IsPartitionPoint-from_clause (λ (r : TokenRange). nat_lt r.last n) _ _ c.partition_point.ensures.partitioned parted
    (λ a r q k. search rules) in (
      λ i d l g. let e = point.0 i d l g in let z : (get_or rs i d).last < n = grind (arith, nat_tests) in z,
      λ i d l g. let e = point.1 i d l g in let z : n ≤ (get_or rs i d).last = grind (arith, nat_tests) in z,
    )
