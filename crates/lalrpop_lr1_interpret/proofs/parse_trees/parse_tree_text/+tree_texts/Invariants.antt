use Rattle.std.proofs.Common.{take}
use Rattle.std.specs.Fmt.{HasWritten, IsPlainFormatter}
use Rattle.lalrpop_lr1_interpret.specs.ParseTreeTexts.{parse_tree_texts, trees_text}
use Rattle.lalrpop_lr1_interpret.proofs.parse_trees.parse_tree_text.+tree_texts.Given as goal

abbrev pub invariant-write_trees-loop-i : goal.invariant-write_trees-loop-i
invariant-write_trees-loop-i g l =
    IsPlainFormatter l.initial.f
    → HasWritten g.W.Write.write_str_gives l.initial.f (trees_text (parse_tree_texts (take l.i l.trees))) l.f
