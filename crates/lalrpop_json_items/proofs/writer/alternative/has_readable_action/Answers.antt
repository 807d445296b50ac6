use Rattle.std.proofs.Common.{rules}
use Rattle.lalrpop_json_items.proofs.writer.alternative.has_readable_action.Goals as goal

pub returns-then-is_readable_condition : goal.returns-then-is_readable_condition
returns-then-is_readable_condition c = (
  (λ is. (c.is_readable_condition.ensures.0 (search rules), c.is_readable_action.ensures.0 is)),
  (λ both. c.is_readable_action.ensures.1 both.1),
)

pub returns-else-is_readable_condition : goal.returns-else-is_readable_condition
returns-else-is_readable_condition c =
    ((λ is. absurd (search rules)), (λ both. c.is_readable_condition.ensures.1 both.0))
