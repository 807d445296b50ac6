-- The tokenizer's entries: in order, with their precedences, and what their matches become.
use Rattle.std.specs.Prelude.{◌≡◌, ℕ, ◌+◌, ◌*◌, not, List, [], ◌∷◌, ◌++◌, Option, Some, None}
use Rattle.std.specs.Prelude.{length, map, filter, flat_map}
use Rattle.lalrpop_grammar_symbols.specs.Symbols.{Terminal}
use Rattle.lalrpop_grammar.specs.WrittenGrammar.{EntryMapping, InternEntry, WrittenEntry, WrittenItem, Grammar}
use Rattle.lalrpop_lexer_scan.specs.Literals.{LiteralUse, uses_in_grammar, AreLiterals}
use Rattle.lalrpop_norm_token_check.specs.Blocks.{block_groups, entries_in_groups, first_lacking, lists_literal}

-- The precedence of a literal in a group behind which there are so many groups less one: earlier groups beat later ones, and
-- in one group quoted literals beat regexes.
abbrev pub rank : ℕ → Terminal → ℕ
rank groups (Terminal.quoted t) = 2 * groups + 1
rank groups (Terminal.regex t) = 2 * groups
rank groups (Terminal.bare n) = 2 * groups
rank groups Terminal.error = 2 * groups

abbrev pub entry : ℕ → Terminal → EntryMapping → InternEntry
entry groups l m = record { precedence = rank groups l; literal = l; mapping = m }

-- the entry of a literal that stands for itself
abbrev pub own_entry : ℕ → Terminal → InternEntry
own_entry groups l = entry groups l (EntryMapping.terminal l)

-- what an entry of a block stands for; `_` for the literals that no entry lists
abbrev pub entries_for : ℕ → List Terminal → WrittenEntry → List InternEntry
entries_for groups others (WrittenEntry.catch_all p) = map (own_entry groups) others
entries_for groups others (WrittenEntry.unmapped l p) = own_entry groups l ∷ []
entries_for groups others (WrittenEntry.skip l p) = entry groups l EntryMapping.skip ∷ []
entries_for groups others (WrittenEntry.mapped l t p) = entry groups l (EntryMapping.terminal t) ∷ []

-- group by group, in written order
abbrev pub entries_of_groups : List Terminal → List (List WrittenEntry) → List InternEntry
entries_of_groups others [] = []
entries_of_groups others (g ∷ gs) = flat_map (entries_for (length gs + 1) others) g ++ entries_of_groups others gs

-- the literals that no entry lists, in the order of the literals
abbrev pub not_listed : List WrittenEntry → List Terminal → List Terminal
not_listed entries used = filter (λ l. not (lists_literal entries l)) used

-- without a block all literals are one group, each for itself
abbrev pub tokenizer_entries : Option (List (List WrittenEntry)) → List Terminal → List InternEntry
tokenizer_entries None used = map (own_entry 1) used
tokenizer_entries (Some groups) used = entries_of_groups (filter (λ l. not (lists_literal (entries_in_groups groups) l)) used) groups

-- The literals in use, each once, quoted ones before regexes, each by their bytes.
pub record AreUsed (g : Grammar) (used : List Terminal) : Type 0 where
  pub uses : List LiteralUse
  pub each_once : AreLiterals (uses_in_grammar g) uses
  pub literals : map (λ u. u.literal) uses ≡ used

-- The entries are the tokenizer's of an expanded grammar.
pub record AreEntries (g : Grammar) (entries : List InternEntry) : Type 0 where
  pub used : List Terminal
  pub are_used : AreUsed g used
  pub entries_are : entries ≡ tokenizer_entries (block_groups g.items) used

-- The entries are the tokenizer's, and the match block lacks no literal in use.
pub record AreFullEntries (g : Grammar) (entries : List InternEntry) : Type 0 where
  pub listed : AreEntries g entries
  pub none_lacks : first_lacking (block_groups g.items) listed.used ≡ None

-- the grammar with the entries behind its items, else as it was
abbrev pub with_entries : List InternEntry → Grammar → Grammar
with_entries entries g = record g { items = g.items ++ WrittenItem.intern_token entries ∷ [] }
