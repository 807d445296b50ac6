use Rattle.std.proofs.Common.{◌≡◌, ◌++◌, map, drop}
use Rattle.lalrpop_grammar.specs.Views.{nonterminal_view}
use Rattle.lalrpop_norm_precedence.specs.GivenNames.{given_names, taken_behind_all}
use Rattle.lalrpop_norm_precedence.specs.LevelTables.{named_level_view}
use Rattle.lalrpop_norm_precedence.specs.TakenViews.{taken_times}
use Rattle.lalrpop_norm_precedence.proofs.level_names.names.push_named.Given as goal

-- what is named and what is to come are the whole
abbrev pub invariant-loop-level : goal.invariant-loop-level
invariant-loop-level l = record {
  named : map named_level_view l.named.items
      ++ given_names (nonterminal_view l.rule) (taken_times l.taken) (drop l.level-index l.levels)
      ≡ map named_level_view l.initial.named.items
      ++ given_names (nonterminal_view l.rule) (taken_times l.initial.taken) l.levels;
  taken : taken_behind_all (nonterminal_view l.rule) (taken_times l.taken) (drop l.level-index l.levels)
      ≡ taken_behind_all (nonterminal_view l.rule) (taken_times l.initial.taken) l.levels;
}
