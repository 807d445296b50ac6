-- Where each entry has a terminal, none is skipped. For the making of a scanner.
use Rattle.std.proofs.Common.{◌≡◌, ◌∙◌, Bool, true, false, not, ◌&&◌, ◌||◌, cond, List, [], ◌∷◌, map}
use Rattle.std.proofs.Common.{refl, ap, ap₂}
use Rattle.std.specs.Prelude.{Option, Some, None, is_some, option_map}
use Rattle.std.specs.List.{list_all}
use Rattle.lalrpop_grammar_symbols.specs.Symbols.{Terminal}
use Rattle.lalrpop_grammar_symbols.specs.Views.{terminal_view}
use Rattle.lalrpop_grammar_symbols.specs.declared.terminal.TerminalString.{TerminalString}
use Rattle.lalrpop_lexer_scan.specs.Entries.{ScanEntry, some_skips}
use Rattle.lalrpop_lexer_scan.specs.Tokens.{terminal_unless_skip}

one_stands : (b c d : Bool) (t : Terminal) → c ≡ not d → is_some (cond b None (Some t)) && c ≡ not (b || d)
one_stands true c d t h = refl
one_stands false c d t h = h

all_stand : (es : List ScanEntry) → list_all is_some (map terminal_unless_skip es) ≡ not (some_skips es)
all_stand [] = refl
all_stand (e ∷ es) = one_stands e.skips _ (some_skips es) e.terminal (all_stand es)

same_stands : (o : Option TerminalString) → is_some o ≡ is_some (option_map terminal_view o)
same_stands None = refl
same_stands (Some t) = refl

viewed_stand : (ts : List (Option TerminalString)) → list_all is_some ts ≡ list_all is_some (map (option_map terminal_view) ts)
viewed_stand [] = refl
viewed_stand (o ∷ ts) = ap₂ ◌&&◌ (same_stands o) (viewed_stand ts)

-- all entries have a terminal exactly where none skips
pub none_skips : (ts : List (Option TerminalString)) (es : List ScanEntry)
    → map (option_map terminal_view) ts ≡ map terminal_unless_skip es → list_all is_some ts ≡ not (some_skips es)
none_skips ts es h = viewed_stand ts ∙ ap (list_all is_some) h ∙ all_stand es
