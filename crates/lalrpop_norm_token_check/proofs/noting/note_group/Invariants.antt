use Rattle.std.proofs.Common.{map, take}
use Rattle.lalrpop_grammar.specs.Views.{match_item_view}
use Rattle.lalrpop_norm_token_check.specs.Noting.{NotesEntries}
use Rattle.lalrpop_norm_token_check.proofs.noting.note_group.Given as goal

abbrev pub invariant-loop-entry : goal.invariant-loop-entry
invariant-loop-entry l = NotesEntries l.fn.noted l.noted (map match_item_view (take l.entry-index l.group))
