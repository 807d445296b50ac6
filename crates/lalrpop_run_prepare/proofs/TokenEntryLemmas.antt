-- One terminal more, taken from one entry; for the terminals of entries.
use Rattle.std.proofs.Common.{◌≡◌, ◌∙◌, List, [], ◌∷◌, ◌++◌, map, ap, append_assoc, option_map}
use Rattle.std.specs.Prelude.{Option}
use Rattle.std.proofs.lemmas.List.{map-append}
use Rattle.lalrpop_grammar_symbols.specs.Symbols.{Terminal}
use Rattle.lalrpop_grammar_symbols.specs.Views.{terminal_view}
use Rattle.lalrpop_grammar_symbols.specs.declared.terminal.TerminalString.{TerminalString}
use Rattle.lalrpop_grammar.specs.Views.{intern_entry_view}
use Rattle.lalrpop_grammar.specs.declared.intern_token.MatchEntry.{MatchEntry}
use Rattle.lalrpop_lexer_scan.specs.Tokens.{terminal_unless_skip}
use Rattle.lalrpop_norm_token_check.specs.Patterns.{scan_entry}
use Rattle.lalrpop_run_prepare.specs.Tokenizers.{scan_entries}

-- the terminals that the entries have
abbrev pub terminals_in : List MatchEntry → List (Option Terminal)
terminals_in es = map terminal_unless_skip (scan_entries (map intern_entry_view es))

pub one_more : (ts : List (Option TerminalString)) (t : Option TerminalString) (e : MatchEntry) (rest : List MatchEntry)
    (all : List (Option Terminal)) → option_map terminal_view t ≡ terminal_unless_skip (scan_entry (intern_entry_view e))
    → map (option_map terminal_view) ts ++ terminals_in (e ∷ rest) ≡ all
    → map (option_map terminal_view) (ts ++ t ∷ []) ++ terminals_in rest ≡ all
one_more ts t e rest all same before =
    ap (λ z. z ++ terminals_in rest) (map-append (option_map terminal_view) ts (t ∷ []))
    ∙ append_assoc (map (option_map terminal_view) ts) (option_map terminal_view t ∷ []) (terminals_in rest)
    ∙ ap (λ x. map (option_map terminal_view) ts ++ x ∷ terminals_in rest) same ∙ before
