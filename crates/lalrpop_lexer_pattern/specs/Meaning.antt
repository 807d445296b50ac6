-- The pattern that a tree is.
use Rattle.std.specs.Prelude.{option_map}
use Rattle.std.specs.String.{string_bytes}
use Rattle.lalrpop_lexer_pattern.specs.Matches.{Pattern, concat_all, alternation_all}
use Rattle.lalrpop_lexer_pattern.specs.declared.tree.Hir.{Hir}
use Rattle.lalrpop_lexer_pattern.specs.declared.tree.Hir.TheOpen.{Hir-F}
use Rattle.lalrpop_lexer_pattern.specs.declared.tree.Hir.TheFolds.{fold-Hir}

abbrev pub node_meaning : Hir-F Pattern → Pattern
node_meaning Hir-F.Empty = Pattern.empty
node_meaning (Hir-F.Literal cs) = Pattern.literal cs.items
node_meaning (Hir-F.Class class_of) = Pattern.class class_of.ranges.items
node_meaning (Hir-F.Look l) = Pattern.look l
node_meaning (Hir-F.Capture name sub) = Pattern.capture (option_map string_bytes name) sub.value
node_meaning (Hir-F.Repetition repeats sub) = Pattern.repetition repeats.min repeats.max repeats.greedy sub.value
node_meaning (Hir-F.Concat subs) = concat_all subs.items
node_meaning (Hir-F.Alternation subs) = alternation_all subs.items

abbrev pub meaning : Hir → Pattern
meaning = fold-Hir Pattern node_meaning
