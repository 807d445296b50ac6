use Rattle.std.proofs.Common.{◌∙◌, ltb, rules}
use Rattle.std.proofs.lemmas.List.Sorted.{IsPartitionPoint-from_clause, IsPartitionedBy-ltb}
use Rattle.lalrpop_grammar_rules.proofs.GreatestLemmas.{greatest_at_point}
use Rattle.lalrpop_grammar_rules.proofs.rule.greatest_below.Goals as goal

pub returns : goal.returns
returns c =
    let parted = IsPartitionedBy-ltb (λ n. n) c.args.levels.now c.args.bound c.requires in
    let point = IsPartitionPoint-from_clause (λ n. ltb n c.args.bound) c.args.levels.now c.partition_point-below.result
    c.partition_point-below.ensures.partitioned parted (λ a r q k. search rules) in
    c.copied.ensures ∙ (c.last.ensures.value
    ∙ greatest_at_point (λ n. ltb n c.args.bound) c.args.levels.now c.partition_point-below.result c.partition_point-below.ensures.bound
    c.requires point)
