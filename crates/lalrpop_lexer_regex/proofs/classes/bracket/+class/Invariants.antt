use Rattle.std.proofs.Common.{◌+◌, ◌*◌, length}
use Rattle.lalrpop_lexer_regex.specs.Classes.{class_item_at}
use Rattle.lalrpop_lexer_regex.proofs.ClassLemmas.{IsUnderWay}
use Rattle.lalrpop_lexer_regex.proofs.classes.bracket.+class.Given as goal

abbrev pub decreases-class : goal.decreases-class
decreases-class l = 3 * l.depth

abbrev pub decreases-items : goal.decreases-items
decreases-items l = 3 * l.depth + 2

abbrev pub decreases-item : goal.decreases-item
decreases-item l = 3 * l.depth + 1

abbrev pub invariant-items-loop-character : goal.invariant-items-loop-character
invariant-items-loop-character l = IsUnderWay (class_item_at l.depth l.fold) l.text l.rest l.is_first l.items

abbrev pub decreases-items-loop-character : goal.decreases-items-loop-character
decreases-items-loop-character l = length l.rest
