use Rattle.std.proofs.Common.{◌≡◌, ◌++◌, map, drop}
use Rattle.lalrpop_grammar_rules.specs.Views.{closed_view}
use Rattle.lalrpop_norm_macros.specs.OrderedNames.{key_names_from, taken_behind_keys}
use Rattle.lalrpop_norm_macros.specs.TextTimes.{times_of_texts}
use Rattle.lalrpop_norm_macros.proofs.key_names.names.names_of_keys.Given as goal

-- what is named and what is to come are the whole
abbrev pub invariant-loop-key : goal.invariant-loop-key
invariant-loop-key l = record {
  named : l.names ++ key_names_from (times_of_texts l.taken) (map closed_view (drop l.key-index l.keys))
      ≡ key_names_from (times_of_texts l.initial.taken) (map closed_view l.keys);
  taken : taken_behind_keys (times_of_texts l.taken) (map closed_view (drop l.key-index l.keys))
      ≡ taken_behind_keys (times_of_texts l.initial.taken) (map closed_view l.keys);
}
