-- Computed examples of the tokenizer's entries, of literals that a match block lacks, and of the places that are told.
use Prim.Native.String.{String}
use Rattle.std.proofs.Common.{◌≡◌, ℕ, List, [], ◌∷◌, map, refl}
use Rattle.std.specs.Prelude.{true, false, Some, None, codes, if◌then◌else◌}
use Rattle.lalrpop_grammar_symbols.specs.Symbols.{Terminal}
use Rattle.lalrpop_grammar.specs.WrittenGrammar.{EntryMapping, InternEntry, WrittenEntry, WrittenItem, Grammar}
use Rattle.lalrpop_lexer_scan.specs.Entries.{some_skips}
use Rattle.lalrpop_lexer_scan.specs.Literals.{same_terminal}
use Rattle.lalrpop_lexer_scan.specs.Tokens.{terminal_unless_skip}
use Rattle.lalrpop_norm_token_check.specs.Blocks.{block_groups, first_lacking, is_lacking}
use Rattle.lalrpop_norm_token_check.specs.Entries.{tokenizer_entries}
use Rattle.lalrpop_norm_token_check.specs.Patterns.{entry_precedences, is_refused, scan_entry}
use Rattle.lalrpop_norm_token_check.specs.Places.{FirstPlaces, place_of}

-- a quoted literal with this text
abbrev pub quoted : String → Terminal
quoted s = Terminal.quoted (codes s)

-- a regex literal with this text
abbrev pub regex : String → Terminal
regex s = Terminal.regex (codes s)

-- a bare name with this text, as a terminal
abbrev pub bare : String → Terminal
bare s = Terminal.bare (codes s)

-- entries of match blocks, at different places
abbrev pub itself : ℕ → Terminal → WrittenEntry
itself p l = WrittenEntry.unmapped l (p, p)

-- an entry at a place that maps a literal to a terminal
abbrev pub to : ℕ → Terminal → Terminal → WrittenEntry
to p l t = WrittenEntry.mapped l t (p, p)

abbrev pub skip : ℕ → Terminal → WrittenEntry
skip p l = WrittenEntry.skip l (p, p)

abbrev pub rest : ℕ → WrittenEntry
rest p = WrittenEntry.catch_all (p, p)

-- what is made of them
abbrev pub token : ℕ → Terminal → Terminal → InternEntry
token precedence l t = record { precedence = precedence; literal = l; mapping = EntryMapping.terminal t }

abbrev pub skipped : ℕ → Terminal → InternEntry
skipped precedence l = record { precedence = precedence; literal = l; mapping = EntryMapping.skip }

-- without a block: each literal for itself, quoted ones above regexes, and white space is skipped
no_block : tokenizer_entries None (quoted "a" ∷ quoted "b" ∷ regex "a" ∷ [])
    ≡ token 3 (quoted "a") (quoted "a") ∷ token 3 (quoted "b") (quoted "b") ∷ token 2 (regex "a") (regex "a") ∷ []
no_block = refl

-- names and skips: `match { r"[0-9]+" => NUM, r"-" => { } }`, where no literal is in use; a skip takes the default one away
abbrev numbers : List (List WrittenEntry)
numbers = (to 1 (regex "[0-9]+") (bare "NUM") ∷ skip 2 (regex "-") ∷ []) ∷ []

named_and_skipped : tokenizer_entries (Some numbers) [] ≡ token 2 (regex "[0-9]+") (bare "NUM") ∷ skipped 2 (regex "-") ∷ []
named_and_skipped = refl

-- two groups: a regex of the first beats a quoted literal of the second, which beats a regex of its own group
two_groups : entry_precedences (tokenizer_entries (Some ((itself 1 (regex "[a-z]+") ∷ [])
    ∷ (itself 2 (quoted "if") ∷ itself 3 (regex "[0-9]+") ∷ []) ∷ [])) [])
    ≡ 4 ∷ 3 ∷ 2 ∷ []
two_groups = refl

-- the entries stand in written order, whatever they list
written_order : tokenizer_entries (Some ((itself 1 (regex "b") ∷ itself 2 (quoted "b") ∷ itself 3 (quoted "a") ∷ []) ∷ []))
    (quoted "a" ∷ quoted "b" ∷ regex "b" ∷ [])
    ≡ token 2 (regex "b") (regex "b") ∷ token 3 (quoted "b") (quoted "b") ∷ token 3 (quoted "a") (quoted "a") ∷ []
written_order = refl

-- `_` stands for what no entry lists, in the order of literals, with its own group's precedence; what a later group lists isn't its
the_rest : tokenizer_entries (Some ((to 1 (quoted "a") (bare "A") ∷ rest 2 ∷ []) ∷ (itself 3 (quoted "z") ∷ []) ∷ []))
    (quoted "b" ∷ quoted "z" ∷ regex "c" ∷ [])
    ≡ token 5 (quoted "a") (bare "A") ∷ token 5 (quoted "b") (quoted "b") ∷ token 4 (regex "c") (regex "c")
    ∷ token 3 (quoted "z") (quoted "z") ∷ []
the_rest = refl

-- what an entry maps to isn't listed by that: `match { r"x" => "b", _ }` with "b" in use
target_is_unlisted : tokenizer_entries (Some ((to 1 (regex "x") (quoted "b") ∷ rest 2 ∷ []) ∷ [])) (quoted "b" ∷ [])
    ≡ token 2 (regex "x") (quoted "b") ∷ token 3 (quoted "b") (quoted "b") ∷ []
target_is_unlisted = refl

-- several entries have one name, and an entry that nothing uses stays
one_name : tokenizer_entries (Some ((to 1 (quoted "a") (bare "A") ∷ to 2 (quoted "b") (bare "A")
    ∷ itself 3 (quoted "c") ∷ []) ∷ []))
    []
    ≡ token 3 (quoted "a") (bare "A") ∷ token 3 (quoted "b") (bare "A") ∷ token 3 (quoted "c") (quoted "c") ∷ []
one_name = refl

-- an empty block has no entry
empty_block : tokenizer_entries (Some []) (quoted "a" ∷ []) ≡ []
empty_block = refl

-- the empty text is a literal like others
empty_literal : is_refused (token 3 (quoted "") (quoted "")) ≡ false
empty_literal = refl

-- white space is skipped where no entry is a skip
blanks_skipped : some_skips (map scan_entry (tokenizer_entries None (quoted "a" ∷ []))) ≡ false
blanks_skipped = refl

blanks_kept : some_skips (map scan_entry (tokenizer_entries (Some numbers) [])) ≡ true
blanks_kept = refl

-- an entry's own literal isn't what it gives; a skip gives nothing
no_terminal_of_a_skip : map terminal_unless_skip (map scan_entry (tokenizer_entries (Some numbers) []))
    ≡ Some (bare "NUM") ∷ None ∷ []
no_terminal_of_a_skip = refl

-- what a block lacks

unlisted_literal : is_lacking (itself 1 (quoted "a") ∷ []) (quoted "b") ≡ true
unlisted_literal = refl

named_literal : is_lacking (to 1 (quoted "a") (bare "A") ∷ []) (quoted "a") ≡ true
named_literal = refl

skipped_literal : is_lacking (skip 1 (quoted "a") ∷ []) (quoted "a") ≡ true
skipped_literal = refl

-- given by one entry and listed by another, which turns it into a third; `_` takes nothing that is listed
given_and_turned : is_lacking (to 1 (quoted "a") (quoted "b") ∷ to 2 (quoted "b") (quoted "c") ∷ rest 3 ∷ []) (quoted "b") ≡ true
given_and_turned = refl

-- a quoted text isn't the regex of that text
other_kind : is_lacking (itself 1 (regex "a") ∷ []) (quoted "a") ≡ true
other_kind = refl

-- near misses: listed, given by another, caught, mapped to itself
listed_literal : is_lacking (itself 1 (quoted "a") ∷ []) (quoted "a") ≡ false
listed_literal = refl

given_literal : is_lacking (to 1 (regex "x") (quoted "b") ∷ []) (quoted "b") ≡ false
given_literal = refl

caught_literal : is_lacking (to 1 (quoted "a") (bare "A") ∷ rest 2 ∷ []) (quoted "b") ≡ false
caught_literal = refl

to_itself : is_lacking (to 1 (quoted "a") (quoted "a") ∷ []) (quoted "a") ≡ false
to_itself = refl

-- the first that is lacking is told, in the order of literals
first_that_lacks : first_lacking (Some ((itself 1 (quoted "b") ∷ []) ∷ [])) (quoted "b" ∷ quoted "c" ∷ regex "a" ∷ [])
    ≡ Some (quoted "c")
first_that_lacks = refl

nothing_lacks_without_block : first_lacking None (quoted "b" ∷ []) ≡ None
nothing_lacks_without_block = refl

-- the block of a grammar, and places

-- a grammar of these items alone: the prefix is two underscores, and it has no parameters and no attributes
abbrev pub grammar : List WrittenItem → Grammar
grammar items = record {
  prefix = codes "__";
  span = (0, 99);
  parameters = [];
  type_parameters = [];
  where_clauses = [];
  attributes = [];
  items = items;
}

-- "a" stands first at 40, "b" at 50
abbrev pub first : FirstPlaces
first l =
    if same_terminal l (quoted "a") then Some (40, 41) else (if same_terminal l (quoted "b") then Some (50, 51) else None)

abbrev with_block : Grammar
with_block = grammar (WrittenItem.import (codes "x")
    ∷ WrittenItem.match_token ((to 7 (quoted "a") (bare "A") ∷ []) ∷ []) (5, 9) ∷ [])

no_groups : block_groups ((grammar []).items) ≡ None
no_groups = refl

-- a listed literal at its entry, another where it stands first, one without a place at the grammar
listed_place : place_of first with_block (quoted "a") ≡ (7, 7)
listed_place = refl

used_place : place_of first with_block (quoted "b") ≡ (50, 51)
used_place = refl

used_place_without_block : place_of first (grammar []) (quoted "a") ≡ (40, 41)
used_place_without_block = refl

grammar_place : place_of first with_block (regex "a") ≡ (0, 99)
grammar_place = refl
