-- Literals in use and entries as the program finds them, the faults that it tells, and that no others stand; for the token check.
use Rattle.std.proofs.Common.{◌≡◌, ◌∙◌, ap, sym, subst, List, map}
use Rattle.std.specs.Prelude.{Option, Some, None, option_map}
use Rattle.std.specs.Borrow.{Bor}
use Rattle.lalrpop_grammar_symbols.specs.Symbols.{Terminal}
use Rattle.lalrpop_grammar_symbols.specs.Views.{span_view, literal_view}
use Rattle.lalrpop_grammar_symbols.specs.declared.span.Span.{Span}
use Rattle.lalrpop_grammar_symbols.specs.declared.terminal.TerminalLiteral.{TerminalLiteral}
use Rattle.lalrpop_grammar.specs.WrittenGrammar.{InternEntry, Grammar}
use Rattle.lalrpop_grammar_repr.specs.declared.norm_error.NormErrorKind.TheVariants as kinds
use Rattle.lalrpop_lexer_pattern.specs.Wins.{HasNoTie}
use Rattle.lalrpop_lexer.specs.Simulation.{Decides, StateView}
use Rattle.lalrpop_lexer_scan.specs.Literals.{LiteralUse, uses_in_grammar, AreLiterals}
use Rattle.lalrpop_norm_token_check.specs.Blocks.{block_groups, first_lacking}
use Rattle.lalrpop_norm_token_check.specs.Checked.{AreCheckedEntries, DecidesEntries}
use Rattle.lalrpop_norm_token_check.specs.Entries.{AreUsed, AreFullEntries, tokenizer_entries}
use Rattle.lalrpop_norm_token_check.specs.Faults.{HasNoTokenFault, IsLackingInExpanded}
use Rattle.lalrpop_norm_token_check.specs.Patterns.{first_refused, entry_patterns, entry_precedences}
use Rattle.lalrpop_norm_token_check.specs.Places.{FirstPlaces, place_of}
use Rattle.lalrpop_norm_token_check.proofs.UniqueLemmas.{entries_unique, none_is_some, used_unique}

-- the literals of the uses of a grammar
pub used_of : (g : Grammar) (uses : List LiteralUse) (used : List Terminal) → AreLiterals (uses_in_grammar g) uses
    → used ≡ map (λ (u : LiteralUse). u.literal) uses → AreUsed g used
used_of g uses used h e = record { uses = uses; each_once = h; literals = sym e }

-- entries that are made of them, where none is lacking
pub full_entries : (g : Grammar) (used : List Terminal) (entries : List InternEntry) → AreUsed g used
    → first_lacking (block_groups g.items) used ≡ None → entries ≡ tokenizer_entries (block_groups g.items) used
    → AreFullEntries g entries
full_entries g used entries are none e = record {
  listed = record { used = used; are_used = are; entries_are = e };
  none_lacks = none;
}

-- the first literal that is lacking, at its place
pub lacking_told : (first : FirstPlaces) (g : Grammar) (used : List Terminal) (found : Option (Bor TerminalLiteral))
    (l : Bor TerminalLiteral) (copy : TerminalLiteral) (span : Span)
    → option_map (λ (x : Bor TerminalLiteral). literal_view x.now) found ≡ first_lacking (block_groups g.items) used
    → found ≡ Some l → copy ≡ l.now → span_view span ≡ place_of first g (literal_view l.now) → AreUsed g used
    → IsLackingInExpanded first g (literal_view copy) (span_view span)
lacking_told first g used found l copy span e is same place are = record {
  used = used;
  are_used = are;
  first_is = sym e ∙ ap (option_map (λ (x : Bor TerminalLiteral). literal_view x.now)) is
      ∙ ap (λ (x : TerminalLiteral). Some (literal_view x)) (sym same);
  place = ap (λ (x : TerminalLiteral). place_of first g (literal_view x)) same ∙ sym place;
}

-- where none is lacking, none refused and no two tie, no fault stands
pub none_stands : (first : FirstPlaces) (g : Grammar) (entries : List InternEntry) → AreFullEntries g entries
    → first_refused entries ≡ None → HasNoTie (entry_patterns entries) (entry_precedences entries) → HasNoTokenFault first g
none_stands first g entries full accepted unambiguous (kinds.NotInMatchBlock l) p h =
    let same : h.used ≡ full.listed.used = used_unique g h.used full.listed.used h.are_used full.listed.are_used in
    none_is_some (literal_view l) (sym full.none_lacks ∙ ap (first_lacking (block_groups g.items)) (sym same) ∙ h.first_is)
none_stands first g entries full accepted unambiguous (kinds.PatternRefused l) p h =
    let same : h.entries ≡ entries = entries_unique g h.entries entries h.are_full.listed full.listed in
    none_is_some (literal_view l) (sym accepted ∙ ap first_refused (sym same) ∙ h.first_is)
none_stands first g entries full accepted unambiguous (kinds.SameText l m) p h =
    let same : h.entries ≡ entries = entries_unique g h.entries entries h.are_full.listed full.listed in
    let none : HasNoTie (entry_patterns h.entries) (entry_precedences h.entries) =
    subst (λ (es : List InternEntry). HasNoTie (entry_patterns es) (entry_precedences es)) (sym same) unambiguous in
    none h.tied.word h.tied.one h.tied.two h.tied.tie.ties
none_stands first g entries full accepted unambiguous _ p h = h

-- an automaton of the entries is that of the grammar's
pub decides_entries : (g : Grammar) (es : List InternEntry) (dfa : List StateView) → AreFullEntries g es
    → Decides dfa (entry_patterns es) (entry_precedences es) → DecidesEntries g dfa
decides_entries g es dfa full decides entries are =
    subst (λ (fs : List InternEntry). Decides dfa (entry_patterns fs) (entry_precedences fs))
    (entries_unique g es entries full.listed are) decides

-- entries without fault
pub checked_entries : (first : FirstPlaces) (g : Grammar) (entries : List InternEntry) → first_refused entries ≡ None
    → HasNoTie (entry_patterns entries) (entry_precedences entries) → AreFullEntries g entries → AreCheckedEntries first g entries
checked_entries first g entries accepted unambiguous full = record {
  are_full = full;
  none_refused = accepted;
  unambiguous = unambiguous;
  no_fault = none_stands first g entries full accepted unambiguous;
}
