use Rattle.std.proofs.Common.{map, take}
use Rattle.lalrpop_grammar.specs.Views.{match_item_view}
use Rattle.lalrpop_norm_token_check.specs.Blocks.{entries_in_groups}
use Rattle.lalrpop_norm_token_check.specs.Noting.{NotesEntries}
use Rattle.lalrpop_norm_token_check.proofs.noting.note_groups.Given as goal

abbrev pub invariant-loop-group : goal.invariant-loop-group
invariant-loop-group l =
    NotesEntries l.fn.noted l.noted (entries_in_groups (map (λ c. map match_item_view c.items) (take l.group-index l.groups)))
