-- What the token check makes of an expanded grammar in which it finds no fault.
use Rattle.std.specs.Prelude.{◌≡◌, List, None}
use Rattle.lalrpop_grammar.specs.WrittenGrammar.{InternEntry, Grammar}
use Rattle.lalrpop_lexer_pattern.specs.Wins.{HasNoTie}
use Rattle.lalrpop_lexer.specs.Simulation.{Decides, StateView}
use Rattle.lalrpop_norm_token_check.specs.Entries.{AreEntries, AreFullEntries, with_entries}
use Rattle.lalrpop_norm_token_check.specs.Faults.{HasNoTokenFault}
use Rattle.lalrpop_norm_token_check.specs.Patterns.{first_refused, entry_patterns, entry_precedences}
use Rattle.lalrpop_norm_token_check.specs.Places.{FirstPlaces}

-- The tokenizer's entries of a grammar without fault: no literal is lacking, no entry is refused, and no two tie.
pub record AreCheckedEntries (first : FirstPlaces) (g : Grammar) (entries : List InternEntry) : Type 0 where
  pub are_full : AreFullEntries g entries
  pub none_refused : first_refused entries ≡ None
  pub unambiguous : HasNoTie (entry_patterns entries) (entry_precedences entries)
  pub no_fault : HasNoTokenFault first g

-- The automaton decides the patterns of the grammar's entries by their precedences.
abbrev pub DecidesEntries : Grammar → List StateView → Type 0
DecidesEntries g dfa =
    (entries : List InternEntry) → AreEntries g entries → Decides dfa (entry_patterns entries) (entry_precedences entries)

-- The grammar has its tokenizer's entries behind its items, else it is as it was.
pub record IsTokenChecked (first : FirstPlaces) (before after : Grammar) : Type 0 where
  pub entries : List InternEntry
  pub are_checked : AreCheckedEntries first before entries
  pub whole : after ≡ with_entries entries before
