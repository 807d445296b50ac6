use Rattle.std.proofs.Common.{take}
use Rattle.std.specs.Prelude.{None}
use Rattle.lalrpop_grammar_rules.specs.Views.{closed_view}
use Rattle.lalrpop_norm_keys.specs.Tables.{IsPlaceAmong}
use Rattle.lalrpop_norm_keys.proofs.key_table.key_table.find_at.Given as goal

abbrev pub invariant-loop-place : goal.invariant-loop-place
invariant-loop-place l = IsPlaceAmong l.keys (take l.place-index l.places) (closed_view l.key) None
