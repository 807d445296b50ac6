use Rattle.std.proofs.Common.{◌≡◌, ◌++◌, map, drop}
use Rattle.std.specs.Prelude.{Some}
use Rattle.lalrpop_grammar.specs.Views.{intern_entry_view}
use Rattle.lalrpop_lexer_pattern.specs.Meaning.{meaning}
use Rattle.lalrpop_norm_token_check.specs.Patterns.{entry_pattern, first_refused}
use Rattle.lalrpop_norm_token_check.proofs.reading.read_patterns.Given as goal

abbrev pub invariant-loop-entry : goal.invariant-loop-entry
invariant-loop-entry l = record {
  read :
      map Some (map meaning l.patterns.items) ++ map entry_pattern (map intern_entry_view (drop l.entry-index l.entries))
      ≡ map entry_pattern (map intern_entry_view l.entries);
  refused : first_refused (map intern_entry_view (drop l.entry-index l.entries)) ≡ first_refused (map intern_entry_view l.entries);
}
