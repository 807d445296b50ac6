-- Where a literal that is told stands.
use Rattle.std.specs.Prelude.{List, [], ◌∷◌, Option, Some, None, unwrap_or, if◌then◌else◌}
use Rattle.std.specs.Option.{option_or}
use Rattle.lalrpop_grammar_symbols.specs.Symbols.{TextSpan, Terminal}
use Rattle.lalrpop_grammar.specs.WrittenGrammar.{WrittenEntry, Grammar}
use Rattle.lalrpop_norm_prevalidate.specs.Entries.{literal_in_entry, entry_span}
use Rattle.lalrpop_norm_token_check.specs.Blocks.{block_groups, entries_in_groups, is_option_of}

-- where literals stand first in the written, enabled grammar, of which the expanded one has lost the order
abbrev pub FirstPlaces : Type 0
FirstPlaces = Terminal → Option TextSpan

-- where the first entry stands that lists the literal
abbrev pub listed_at : List WrittenEntry → Terminal → Option TextSpan
listed_at [] l = None
listed_at (e ∷ es) l = if is_option_of l (literal_in_entry e) then Some (entry_span e) else listed_at es l

abbrev pub listed_in : Option (List (List WrittenEntry)) → Terminal → Option TextSpan
listed_in None l = None
listed_in (Some groups) l = listed_at (entries_in_groups groups) l

-- the entry of the match block that lists the literal, else its first place, else the grammar's own span
abbrev pub place_of : FirstPlaces → Grammar → Terminal → TextSpan
place_of first g l = unwrap_or (option_or (listed_in (block_groups g.items) l) (first l)) g.span
