use Rattle.std.proofs.Common.{map, take}
use Rattle.lalrpop_grammar.specs.Views.{match_item_view}
use Rattle.lalrpop_norm_prevalidate.proofs.SetLemmas.{HasSeen}
use Rattle.lalrpop_norm_prevalidate.proofs.entries.first_again.Given as goal

abbrev pub invariant-loop-entry : goal.invariant-loop-entry
invariant-loop-entry l = HasSeen l.literals (map (λ e. match_item_view e.now) (take l.entry-index l.entries))
