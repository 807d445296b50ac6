-- What is noted of the entries of a match block: the literals that they list, give and turn, and whether `_` is one of them.
use Rattle.std.specs.Prelude.{◌≡◌, Bool, ◌||◌, List, [], ◌∷◌, Option, Some, None, filter_map, if◌then◌else◌}
use Rattle.std.specs.Borrow.{Bor}
use Rattle.std.specs.BTreeSet.{BTreeSet, contains}
use Rattle.std.specs.List.{list_any}
use Rattle.std.specs.declared.cmp.Ordering.{Ordering}
use Rattle.lalrpop_grammar_symbols.specs.Symbols.{Terminal}
use Rattle.lalrpop_grammar_symbols.specs.Views.{literal_view}
use Rattle.lalrpop_grammar_symbols.specs.contracts.terminal.TerminalLiteralOrd.TheImpl as literals
use Rattle.lalrpop_grammar_symbols.specs.declared.terminal.TerminalLiteral.{TerminalLiteral}
use Rattle.lalrpop_grammar.specs.WrittenGrammar.{WrittenEntry}
use Rattle.lalrpop_norm_prevalidate.specs.Entries.{literal_in_entry}
use Rattle.lalrpop_norm_token_check.specs.declared.noting.Noted.{Noted}
use Rattle.lalrpop_norm_token_check.specs.Blocks.{has_terminal, is_catch_all, literal_given, literal_turned}

-- a set of literals, and how they are compared
abbrev pub LiteralSet : Type 0
LiteralSet = BTreeSet (Bor TerminalLiteral)

abbrev pub literal_cmp : Bor TerminalLiteral → Bor TerminalLiteral → Ordering
literal_cmp x y = (literals.ghosts).cmp x.now y.now

-- to the set these literals were added
abbrev pub Adds : LiteralSet → LiteralSet → List Terminal → Type 0
Adds old new ts =
    (q : Bor TerminalLiteral) → contains literal_cmp new q ≡ (contains literal_cmp old q || has_terminal ts (literal_view q.now))

abbrev pub literals_of : Option Terminal → List Terminal
literals_of None = []
literals_of (Some t) = t ∷ []

abbrev pub list_unless : Bool → Terminal → List Terminal
list_unless outside t = if outside then [] else t ∷ []

-- to what was noted these entries were added
pub record NotesEntries (old new : Noted) (entries : List WrittenEntry) : Type 0 where
  pub listed : Adds old.listed new.listed (filter_map literal_in_entry entries)
  pub given : Adds old.given new.given (filter_map literal_given entries)
  pub turned : Adds old.turned new.turned (filter_map literal_turned entries)
  pub rest : new.has_rest ≡ (old.has_rest || list_any is_catch_all entries)

-- these entries are noted, and no other
pub record HasNoted (noted : Noted) (entries : List WrittenEntry) : Type 0 where
  pub listed : (q : Bor TerminalLiteral) → contains literal_cmp noted.listed q
      ≡ has_terminal (filter_map literal_in_entry entries) (literal_view q.now)
  pub given : (q : Bor TerminalLiteral) → contains literal_cmp noted.given q
      ≡ has_terminal (filter_map literal_given entries) (literal_view q.now)
  pub turned : (q : Bor TerminalLiteral) → contains literal_cmp noted.turned q
      ≡ has_terminal (filter_map literal_turned entries) (literal_view q.now)
  pub rest : noted.has_rest ≡ list_any is_catch_all entries
