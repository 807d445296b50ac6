-- Which match blocks have a spelling, by their parts: for the functions that tell it.
use Rattle.std.proofs.Common.{◌≡◌, ◌↔◌, Bool, IsTrue}
use Rattle.lalrpop_grammar_symbols.specs.declared.span.Span.{Span}
use Rattle.lalrpop_grammar_symbols.specs.declared.terminal.TerminalLiteral.{TerminalLiteral}
use Rattle.lalrpop_grammar_symbols.specs.declared.terminal.TerminalString.{TerminalString}
use Rattle.lalrpop_grammar.specs.declared.match_token.MatchItem.{MatchItem}
use Rattle.lalrpop_grammar.specs.declared.match_token.MatchItem.TheVariants as entries
use Rattle.lalrpop_grammar.specs.declared.match_token.MatchMapping.{MatchMapping}
use Rattle.lalrpop_grammar.specs.declared.match_token.MatchMapping.TheVariants as maps
use Rattle.lalrpop_grammar.specs.declared.match_token.MatchToken.{MatchToken}
use Rattle.lalrpop_json_values.specs.Spelled.{EachFrom, IsSpan}
use Rattle.lalrpop_json_symbols.specs.Readable.{IsReadableTerminal}
use Rattle.lalrpop_json_items.specs.Readable.{IsReadableContents, IsReadableEntry, IsReadableMapping, IsReadableMatch}

-- ---- what an entry is mapped to

abbrev Mapping : MatchMapping → Type 0
Mapping maps.Skip = Unit {0}
Mapping (maps.Terminal t) = IsReadableTerminal t

mapping_parts : (m : MatchMapping) → IsReadableMapping m → Mapping m
mapping_parts m (IsReadableMapping.skip e) = rw e tt
mapping_parts m (IsReadableMapping.terminal t e is) = rw e is

pub of_skip : (m : MatchMapping) → m ≡ maps.Skip → IsReadableMapping m
of_skip m e = IsReadableMapping.skip e

-- a mapping to a terminal has a spelling where the terminal has one
pub of_terminal : (r : Bool) (m : MatchMapping) (t : TerminalString) → m ≡ maps.Terminal t → (IsTrue r ↔ IsReadableTerminal t)
    → IsTrue r ↔ IsReadableMapping m
of_terminal r m t e told = (
  (λ is. IsReadableMapping.terminal t e (told.0 is)),
  (λ is. let parts : Mapping (maps.Terminal t) = rw e at (mapping_parts m is) in told.1 parts),
)

pub ruleset mappings_told = (of_skip)

-- ---- entries

abbrev Entry : MatchItem → Type 0
Entry (entries.CatchAll s) = IsSpan s
Entry (entries.Unmapped l s) = IsSpan s
Entry (entries.Mapped l m s) = IsReadableMapping m × IsSpan s

entry_parts : (i : MatchItem) → IsReadableEntry i → Entry i
entry_parts i (IsReadableEntry.catch_all s e spanned) = rw e spanned
entry_parts i (IsReadableEntry.unmapped l s e spanned) = rw e spanned
entry_parts i (IsReadableEntry.mapped l m s e is spanned) = rw e (is, spanned)

-- the entry for all other literals has a spelling where its span has one
pub of_catch_all : (r : Bool) (i : MatchItem) (s : Span) → i ≡ entries.CatchAll s → (IsTrue r ↔ IsSpan s) → IsTrue r
    ↔ IsReadableEntry i
of_catch_all r i s e told = (
  (λ is. IsReadableEntry.catch_all s e (told.0 is)),
  (λ is. let parts : Entry (entries.CatchAll s) = rw e at (entry_parts i is) in told.1 parts),
)

-- an entry without a mapping has a spelling where its span has one
pub of_unmapped : (r : Bool) (i : MatchItem) (l : TerminalLiteral) (s : Span) → i ≡ entries.Unmapped l s → (IsTrue r ↔ IsSpan s)
    → IsTrue r ↔ IsReadableEntry i
of_unmapped r i l s e told = (
  (λ is. IsReadableEntry.unmapped l s e (told.0 is)),
  (λ is. let parts : Entry (entries.Unmapped l s) = rw e at (entry_parts i is) in told.1 parts),
)

-- an entry whose mapping has a spelling has one where its span has one
pub of_mapped : (r : Bool) (i : MatchItem) (l : TerminalLiteral) (m : MatchMapping) (s : Span) → i ≡ entries.Mapped l m s
    → IsReadableMapping m → (IsTrue r ↔ IsSpan s)
    → IsTrue r ↔ IsReadableEntry i
of_mapped r i l m s e mapping told = (
  (λ is. IsReadableEntry.mapped l m s e mapping (told.0 is)),
  (λ is. let parts : Entry (entries.Mapped l m s) = rw e at (entry_parts i is) in told.1 parts.1),
)

-- an entry whose mapping has no spelling has none
pub of_no_mapping : (r : Bool) (i : MatchItem) (l : TerminalLiteral) (m : MatchMapping) (s : Span) → i ≡ entries.Mapped l m s
    → (IsTrue r ↔ IsReadableMapping m)
    → (IsTrue r → ⊥) → IsTrue r ↔ IsReadableEntry i
of_no_mapping r i l m s e told not =
    ((λ is. absurd (not is)), (λ is. let parts : Entry (entries.Mapped l m s) = rw e at (entry_parts i is) in told.1 parts.0))

-- ---- match blocks

pub match_whole : (b : MatchToken) → EachFrom (λ _. IsReadableContents) 0 b.contents → IsSpan b.span → IsReadableMatch b
match_whole b contents spanned = record { contents = contents; span = spanned }

pub match_parts : (b : MatchToken) → IsReadableMatch b → EachFrom (λ _. IsReadableContents) 0 b.contents × IsSpan b.span
match_parts b is = (is.contents, is.span)

pub ruleset matches_told = (match_parts, match_whole)
