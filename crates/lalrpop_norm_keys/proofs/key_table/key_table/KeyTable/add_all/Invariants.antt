use Rattle.std.proofs.Common.{map, take}
use Rattle.lalrpop_grammar_rules.specs.Views.{closed_view}
use Rattle.lalrpop_norm_keys.specs.Tables.{AddsKeys, IsKeyIndex, table_keys}
use Rattle.lalrpop_norm_keys.proofs.key_table.key_table.KeyTable.add_all.Given as goal

abbrev pub invariant-loop-key : goal.invariant-loop-key
invariant-loop-key l = record {
  indexed : IsKeyIndex l.self;
  added : AddsKeys (table_keys l.initial.self) (map closed_view (take l.key-index l.keys)) (table_keys l.self);
}
