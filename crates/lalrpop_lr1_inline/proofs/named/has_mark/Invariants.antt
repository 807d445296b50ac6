use Rattle.std.proofs.Common.{◌≡◌, drop}
use Rattle.std.specs.List.{list_any}
use Rattle.lalrpop_lr1_inline.specs.InlinedNames.{is_inline_mark}
use Rattle.lalrpop_lr1_inline.proofs.named.has_mark.Given as goal

abbrev pub invariant-loop-attribute : goal.invariant-loop-attribute
invariant-loop-attribute l = list_any is_inline_mark l.attributes ≡ list_any is_inline_mark (drop l.attribute-index l.attributes)
