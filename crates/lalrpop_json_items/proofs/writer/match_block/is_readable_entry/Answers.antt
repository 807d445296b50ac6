use Rattle.std.proofs.Common.{rules}
use Rattle.lalrpop_json_items.proofs.MatchSpellingLemmas.{of_catch_all, of_mapped, of_no_mapping, of_unmapped}
use Rattle.lalrpop_json_items.proofs.writer.match_block.is_readable_entry.Goals as goal

pub returns-in-CatchAll : goal.returns-in-CatchAll
returns-in-CatchAll c = of_catch_all c.is_readable_span.result _ _ c.in-CatchAll.is c.is_readable_span.ensures

pub returns-in-Unmapped : goal.returns-in-Unmapped
returns-in-Unmapped c = of_unmapped c.is_readable_span-in-Unmapped.result _ _ _ c.in-Unmapped.is c.is_readable_span-in-Unmapped.ensures

pub returns-then-is_readable_mapping : goal.returns-then-is_readable_mapping
returns-then-is_readable_mapping c =
    of_mapped c.is_readable_span-then-is_readable_mapping.result _ _ _ _ c.in-Mapped.is (c.is_readable_mapping.ensures.0 (search rules))
    c.is_readable_span-then-is_readable_mapping.ensures

pub returns-else-is_readable_mapping : goal.returns-else-is_readable_mapping
returns-else-is_readable_mapping c =
    of_no_mapping c.is_readable_mapping.result _ _ _ _ c.in-Mapped.is c.is_readable_mapping.ensures (search rules)
