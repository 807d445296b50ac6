-- What a scanner is made for, and what it finds at the front of a text.
use Rattle.std.specs.Prelude.{◌≡◌, ℕ, ◌<◌, ◌≤◌, not, List, [], ◌∷◌, Option, Some, None, length, map, option_map}
use Rattle.std.specs.Prelude.{take, if◌then◌else◌, encode_utf8_all, slice_get}
use Rattle.std.specs.Str.{chars}
use Rattle.lalrpop_grammar_symbols.specs.Symbols.{Text, TextSpan, Terminal}
use Rattle.lalrpop_grammar_symbols.specs.Views.{terminal_view}
use Rattle.lalrpop_grammar_symbols.specs.declared.terminal.TerminalString.{TerminalString}
use Rattle.lalrpop_grammar.specs.Trees.{Token}
use Rattle.lalrpop_grammar.specs.declared.token.ScanToken.{ScanToken}
use Rattle.lalrpop_lexer_pattern.specs.Wins.{HasNoMatch}
use Rattle.lalrpop_lexer.specs.Simulation.{Decides}
use Rattle.lalrpop_lexer_scan.specs.declared.entry_terminal.EntryTerminal.{EntryTerminal}
use Rattle.lalrpop_lexer_scan.specs.declared.scanner.Scanner.{Scanner}
use Rattle.lalrpop_lexer_scan.specs.Entries.{ScanEntry, patterns, precedences, some_skips}
use Rattle.lalrpop_lexer_scan.specs.Pieces.{Piece, piece_size, blanks, default_skip, IsPieceAt}
use Rattle.lalrpop_lexer_scan.specs.Tokens.{terminal_unless_skip, terminal_of}

-- The scanner cuts texts by the entries: its automaton decides their patterns, and it has their terminals.
pub record IsScannerOf (scanner : Scanner) (entries : List ScanEntry) : Type 0 where
  pub decides : Decides scanner.dfa (patterns entries) (precedences entries)
  pub terminals : map (option_map terminal_view) scanner.terminals.items ≡ map terminal_unless_skip entries
  pub blanks_are : scanner.skips_blanks ≡ not (some_skips entries)

-- how many characters the scanner skips at the front where nothing longer is matched
abbrev pub skip_count : Scanner → List ℕ → ℕ
skip_count scanner text = if scanner.skips_blanks then blanks text else 0

-- the terminal of what was found, where it isn't skipped
abbrev pub found_terminal_view : Option EntryTerminal → Option Terminal
found_terminal_view = option_map (λ t. terminal_view t.terminal.now)

-- the number's entry has the terminal
abbrev pub IsTerminalAt : Scanner → ℕ → TerminalString → Type 0
IsTerminalAt scanner n t = slice_get scanner.terminals.items n ≡ Some (Some t)

-- what was found, where it isn't skipped, is the number of an entry and the entry's terminal
abbrev pub IsItsTerminal : Scanner → Option EntryTerminal → Type 0
IsItsTerminal scanner None = Unit {0}
IsItsTerminal scanner (Some t) = IsTerminalAt scanner t.number t.terminal.now

-- Token by token the numbers are those of entries that have the tokens' terminals.
abbrev pub AreEntriesOf : Scanner → List ScanToken → List ℕ → Type 0
AreEntriesOf scanner [] [] = Unit {0}
AreEntriesOf scanner [] (n ∷ ns) = ⊥
AreEntriesOf scanner (k ∷ ks) [] = ⊥
AreEntriesOf scanner (k ∷ ks) (n ∷ ns) = IsTerminalAt scanner n k.terminal × AreEntriesOf scanner ks ns

-- the token of a piece that has a terminal
abbrev pub token_of : Option Terminal → Text → TextSpan → List Token
token_of None bytes p = []
token_of (Some t) bytes p = record { terminal = t; text = bytes; span = p } ∷ []

-- The front of the text is its piece, by whatever entries the scanner is for, and so is the terminal.
pub record IsFoundPiece (scanner : Scanner) (text front : Text) (terminal : Option Terminal) : Type 0 where
  pub count : ℕ
  pub some : 0 < count
  pub within : count ≤ length (chars text)
  pub front_is : front ≡ encode_utf8_all (take count (chars text))
  pub piece : (entries : List ScanEntry) → IsScannerOf scanner entries
      → (p : Piece) × (IsPieceAt entries (chars text) p × ((piece_size p ≡ count) × (terminal_of entries p ≡ terminal)))

-- The text has no piece at its front, by whatever entries the scanner is for.
abbrev pub HasNoPiece : Scanner → Text → Type 0
HasNoPiece scanner text = (entries : List ScanEntry) → IsScannerOf scanner entries
    → HasNoMatch (patterns entries) (chars text) × (default_skip entries (chars text) ≡ 0)
