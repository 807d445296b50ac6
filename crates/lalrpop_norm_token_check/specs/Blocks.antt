-- The match block of a grammar: what its entries list, what they give, and which literals it lacks.
use Rattle.std.specs.Prelude.{Bool, true, false, ◌&&◌, ◌||◌, not, List, [], ◌∷◌, Option, Some, None, filter_map, flat_map}
use Rattle.std.specs.Prelude.{find, if◌then◌else◌}
use Rattle.std.specs.List.{list_any}
use Rattle.lalrpop_grammar_symbols.specs.Symbols.{Terminal}
use Rattle.lalrpop_grammar.specs.WrittenGrammar.{EntryMapping, WrittenEntry, WrittenItem}
use Rattle.lalrpop_lexer_scan.specs.Literals.{same_terminal}
use Rattle.lalrpop_norm_prevalidate.specs.Entries.{literal_in_entry}

-- the groups of the first match block; none where no block is written
abbrev pub block_groups : List WrittenItem → Option (List (List WrittenEntry))
block_groups [] = None
block_groups (WrittenItem.match_token groups place ∷ items) = Some groups
block_groups (WrittenItem.extern_token block ∷ items) = block_groups items
block_groups (WrittenItem.intern_token entries ∷ items) = block_groups items
block_groups (WrittenItem.nonterminal r ∷ items) = block_groups items
block_groups (WrittenItem.import text ∷ items) = block_groups items

-- the entries of the groups, in written order
abbrev pub entries_in_groups : List (List WrittenEntry) → List WrittenEntry
entries_in_groups groups = flat_map (λ es. es) groups

-- the literal, where the terminal is one
abbrev pub literal_in_terminal : Terminal → Option Terminal
literal_in_terminal (Terminal.quoted t) = Some (Terminal.quoted t)
literal_in_terminal (Terminal.regex t) = Some (Terminal.regex t)
literal_in_terminal (Terminal.bare n) = None
literal_in_terminal Terminal.error = None

-- the literal that matches become, where they become one
abbrev pub literal_mapped : EntryMapping → Option Terminal
literal_mapped (EntryMapping.terminal t) = literal_in_terminal t
literal_mapped EntryMapping.skip = None

abbrev pub is_option_of : Terminal → Option Terminal → Bool
is_option_of l None = false
is_option_of l (Some t) = same_terminal t l

-- matches become this literal
abbrev pub is_mapped_to : Terminal → EntryMapping → Bool
is_mapped_to l m = is_option_of l (literal_mapped m)

-- the literal that an entry gives to what it matches; none where it gives a name or skips, and none for `_`
abbrev pub literal_given : WrittenEntry → Option Terminal
literal_given (WrittenEntry.catch_all p) = None
literal_given (WrittenEntry.unmapped l p) = Some l
literal_given (WrittenEntry.skip l p) = None
literal_given (WrittenEntry.mapped l t p) = literal_in_terminal t

-- the literal that an entry lists and makes something else of, or skips
abbrev pub literal_turned : WrittenEntry → Option Terminal
literal_turned (WrittenEntry.catch_all p) = None
literal_turned (WrittenEntry.unmapped l p) = None
literal_turned (WrittenEntry.skip l p) = Some l
literal_turned (WrittenEntry.mapped l t p) = if is_option_of l (literal_mapped (EntryMapping.terminal t)) then None else Some l

abbrev pub is_catch_all : WrittenEntry → Bool
is_catch_all (WrittenEntry.catch_all p) = true
is_catch_all (WrittenEntry.unmapped l p) = false
is_catch_all (WrittenEntry.skip l p) = false
is_catch_all (WrittenEntry.mapped l t p) = false

abbrev pub has_terminal : List Terminal → Terminal → Bool
has_terminal ts l = list_any (λ t. same_terminal t l) ts

-- an entry's own literal is this one; what entries map to isn't listed by that
abbrev pub lists_literal : List WrittenEntry → Terminal → Bool
lists_literal entries l = has_terminal (filter_map literal_in_entry entries) l

-- `_` takes the literal
abbrev pub is_caught : List WrittenEntry → Terminal → Bool
is_caught entries l = list_any is_catch_all entries && not (lists_literal entries l)

-- an entry gives the literal, or `_` takes it
abbrev pub is_given : List WrittenEntry → Terminal → Bool
is_given entries l = has_terminal (filter_map literal_given entries) l || is_caught entries l

-- The block lacks the literal: none of its entries gives it, or one that lists it makes something else of it.
abbrev pub is_lacking : List WrittenEntry → Terminal → Bool
is_lacking entries l = not (is_given entries l) || has_terminal (filter_map literal_turned entries) l

-- the first literal in use that the block lacks; none where no block is written
abbrev pub first_lacking : Option (List (List WrittenEntry)) → List Terminal → Option Terminal
first_lacking None used = None
first_lacking (Some groups) used = find (is_lacking (entries_in_groups groups)) used
