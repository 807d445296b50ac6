use Rattle.std.proofs.Common.{◌≡◌, length}
use Rattle.lalrpop_lexer_pattern.specs.PlainHirs.{hir_view, plain_repeated}
use Rattle.lalrpop_lexer_pattern.proofs.copies.wrap_in_repeats.Given as goal

abbrev pub invariant-loop-repeats : goal.invariant-loop-repeats
invariant-loop-repeats l = plain_repeated l.around.items (hir_view l.whole) ≡ plain_repeated l.fn.around.items (hir_view l.fn.tree)

abbrev pub decreases-loop-repeats : goal.decreases-loop-repeats
decreases-loop-repeats l = length l.around.items
