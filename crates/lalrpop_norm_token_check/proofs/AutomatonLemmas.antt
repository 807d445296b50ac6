-- The patterns, precedences and ties of entries as the program finds them; for the making of their automaton.
use Rattle.std.proofs.Common.{◌≡◌, ◌∙◌, ℕ, zero, suc, ◌<◌, ap, ap₂, sym, subst, refl, List, [], ◌∷◌}
use Rattle.std.proofs.Common.{map, length, get_or, cond}
use Rattle.std.proofs.Common.{arith, option_map, Result, Ok, Err}
use Rattle.std.specs.Prelude.{Option, Some, None, is_some, not, find, unwrap_or}
use Rattle.std.specs.Str.{chars}
use Rattle.std.proofs.lemmas.List.{length-map}
use Rattle.std.proofs.lemmas.Option.{slice_get_read, slice_get-map}
use Rattle.lalrpop_grammar_symbols.specs.Symbols.{Terminal}
use Rattle.lalrpop_grammar_symbols.specs.Views.{literal_view}
use Rattle.lalrpop_grammar_symbols.specs.declared.terminal.TerminalLiteral.{TerminalLiteral}
use Rattle.lalrpop_grammar.specs.WrittenGrammar.{InternEntry}
use Rattle.lalrpop_grammar.specs.Views.{intern_entry_view}
use Rattle.lalrpop_grammar.specs.declared.intern_token.MatchEntry.{MatchEntry}
use Rattle.lalrpop_lexer_pattern.specs.declared.refusal.Refusal.{Refusal}
use Rattle.lalrpop_lexer_pattern.specs.declared.tree.Hir.{Hir}
use Rattle.lalrpop_lexer_pattern.specs.Matches.{Pattern}
use Rattle.lalrpop_lexer_pattern.specs.Meaning.{meaning}
use Rattle.lalrpop_lexer_pattern.specs.Refused.{refusal}
use Rattle.lalrpop_lexer_pattern.specs.Wins.{HasNoTie, IsFirstTie}
use Rattle.lalrpop_lexer.specs.declared.outcome.Precedence.{Precedence}
use Rattle.lalrpop_lexer_regex.specs.Regex.{whole_pattern}
use Rattle.lalrpop_lexer.specs.declared.error.DfaConstructionError.{DfaConstructionError}
use Rattle.lalrpop_lexer.specs.declared.error.DfaConstructionError.TheVariants as error
use Rattle.lalrpop_lexer.specs.Build as build
use Rattle.lalrpop_lexer.specs.Outcome.{numbers}
use Rattle.lalrpop_lexer.specs.Simulation.{Decides, StateView}
use Rattle.lalrpop_lexer_scan.specs.Entries.{ScanEntry}
use Rattle.lalrpop_lexer_scan.specs.Patterns.{if_supported, pattern_of}
use Rattle.lalrpop_norm_token_check.specs.declared.automaton.EntryFault.{EntryFault}
use Rattle.lalrpop_norm_token_check.specs.declared.automaton.EntryFault.TheVariants as faults
use Rattle.lalrpop_norm_token_check.specs.EntryFaults.{IsEntryFault, TellsEntryTie}
use Rattle.lalrpop_norm_token_check.specs.Patterns.{entry_literal_at, entry_pattern, entry_patterns, entry_precedences, first_refused}
use Rattle.lalrpop_norm_token_check.specs.Patterns.{is_refused, scan_entry, AreEntryPatterns}

-- patterns that were read are those of the entries
pub patterns_read : (es : List InternEntry) (ps : List Pattern) → AreEntryPatterns es ps → ps ≡ entry_patterns es
patterns_read [] [] h = refl
patterns_read [] (p ∷ ps) h = cc
patterns_read (e ∷ es) [] h = cc
patterns_read (e ∷ es) (p ∷ ps) h =
    let first : entry_pattern e ≡ Some p = cc in
    let others : AreEntryPatterns es ps = cc in
    ap₂ ◌∷◌ (sym (ap (λ (o : Option Pattern). unwrap_or o Pattern.empty) first)) (patterns_read es ps others)

-- and no entry is refused
pub none_refused : (es : List InternEntry) (ps : List Pattern) → AreEntryPatterns es ps → first_refused es ≡ None
none_refused [] ps h = refl
none_refused (e ∷ es) [] h = cc
none_refused (e ∷ es) (p ∷ ps) h =
    let first : entry_pattern e ≡ Some p = cc in
    let others : AreEntryPatterns es ps = cc in
    ap (λ (o : Option Pattern). option_map (λ (x : InternEntry). x.literal)
    (cond (not (is_some o)) (Some e) (find is_refused es))) first
    ∙ none_refused es ps others

read_size : (es : List InternEntry) (ps : List Pattern) → AreEntryPatterns es ps → length ps ≡ length es
read_size es ps h = sym (length-map ps Some) ∙ sym (ap length h) ∙ length-map es entry_pattern

-- as many patterns as entries, and as many precedences
pub same_sizes : (es : List InternEntry) (ts : List Hir) (ps : List Precedence) → AreEntryPatterns es (map meaning ts)
    → numbers ps ≡ entry_precedences es → length ts ≡ length ps
same_sizes es ts ps h k =
    sym (length-map ts meaning) ∙ read_size es (map meaning ts) h
    ∙ sym (sym (length-map ps (λ (p : Precedence). p.0)) ∙ ap length k
    ∙ length-map (map scan_entry es) (λ (e : ScanEntry). e.precedence) ∙ length-map es scan_entry)

-- the automaton of what was read is that of the entries
pub dfa_decides : (es : List InternEntry) (ts : List Hir) (ps : List Precedence) (dfa : List StateView)
    → AreEntryPatterns es (map meaning ts) → numbers ps ≡ entry_precedences es → Decides dfa (map meaning ts) (numbers ps)
    → Decides dfa (entry_patterns es) (entry_precedences es)
dfa_decides es ts ps dfa h k d =
    subst (λ (x : List Pattern). Decides dfa x (entry_precedences es)) (patterns_read es (map meaning ts) h)
    (subst (λ (y : List ℕ). Decides dfa (map meaning ts) y) k d)

-- where no two of the read patterns tie by their precedences, no two of the entries do
pub no_tie : (es : List InternEntry) (ts : List Hir) (ps : List Precedence) → AreEntryPatterns es (map meaning ts)
    → numbers ps ≡ entry_precedences es → HasNoTie (map meaning ts) (numbers ps)
    → HasNoTie (entry_patterns es) (entry_precedences es)
no_tie es ts ps h k d =
    subst (λ (x : List Pattern). HasNoTie x (entry_precedences es)) (patterns_read es (map meaning ts) h)
    (subst (λ (y : List ℕ). HasNoTie (map meaning ts) y) k d)

-- the entries of a tie
pub tie_told : (es : List InternEntry) (ts : List Hir) (ps : List Precedence) (w : List ℕ) (one two : ℕ) (fault : EntryFault)
    → AreEntryPatterns es (map meaning ts) → numbers ps ≡ entry_precedences es
    → IsFirstTie (map meaning ts) (numbers ps) w one two → TellsEntryTie es one two fault → IsEntryFault es fault
tie_told es ts ps w one two (faults.Refused l) h k tie is = absurd is
tie_told es ts ps w one two (faults.Tied l m) h k tie is = (
  none_refused es (map meaning ts) h,
  record {
    word = w;
    one = one;
    two = two;
    tie = subst (λ (x : List Pattern). IsFirstTie x (entry_precedences es) w one two) (patterns_read es (map meaning ts) h)
        (subst (λ (y : List ℕ). IsFirstTie (map meaning ts) y w one two) k tie);
    first_is = is.0;
    second_is = is.1;
  },
)
tie_told es ts ps w one two faults.Memory h k tie is = absurd is

-- the two indices of a tie are those of entries
pub second_within : (es : List MatchEntry) (ts : List Hir) (qs w : List ℕ) (one two : ℕ)
    → AreEntryPatterns (map intern_entry_view es) (map meaning ts) → IsFirstTie (map meaning ts) qs w one two → two < length es
second_within es ts qs w one two h tie =
    let sizes : length (map meaning ts) ≡ length es =
    read_size (map intern_entry_view es) (map meaning ts) h ∙ length-map es intern_entry_view in
    let inside : two < length (map meaning ts) = tie.ties.second.0 in
    omega arith

-- the first of the two entries that are told to tie is one of the entries: its place is below their number
pub first_within : (es : List MatchEntry) (ts : List Hir) (qs w : List ℕ) (one two : ℕ)
    → AreEntryPatterns (map intern_entry_view es) (map meaning ts) → IsFirstTie (map meaning ts) qs w one two → one < length es
first_within es ts qs w one two h tie =
    let inside : two < length es = second_within es ts qs w one two h tie in
    let apart : one < two = tie.ties.apart in
    omega arith

-- a first tie is one by equal indices as well
pub tie_moved : (ps : List Pattern) (qs w : List ℕ) (a b one two : ℕ) → one ≡ a → two ≡ b → IsFirstTie ps qs w a b
    → IsFirstTie ps qs w one two
tie_moved ps qs w a b one two e f tie =
    subst (λ x. IsFirstTie ps qs w x two) (sym e) (subst (λ y. IsFirstTie ps qs w a y) (sym f) tie)

-- a copy of an entry's literal is the literal at the entry's index
pub named_at : (es : List MatchEntry) (i : ℕ) (e : MatchEntry) (l : TerminalLiteral) → i < length es → e ≡ get_or es i e
    → l ≡ e.match_literal → entry_literal_at (map intern_entry_view es) i ≡ Some (literal_view l)
named_at es i e l inside is same =
    ap (option_map (λ (x : InternEntry). x.literal))
    (slice_get-map intern_entry_view es i ∙ ap (option_map intern_entry_view) (slice_get_read es (length es) i e refl inside is))
    ∙ ap (λ (x : TerminalLiteral). Some (literal_view x)) (sym same)

-- for what was read an automaton is made
kept : (q p : Pattern) (o : Option Refusal) → refusal q ≡ o → cond (is_some o) None (Some q) ≡ Some p → refusal p ≡ None
kept q p None e h = let same : p ≡ q = cc in ap refusal same ∙ e
kept q p (Some r) e h = cc

accepted_clean : {E : Type 0} (r : Result Pattern E) (p : Pattern) → if_supported r ≡ Some p → refusal p ≡ None
accepted_clean (Ok q) p h = kept q p (refusal q) refl h
accepted_clean (Err e) p h = cc

pattern_clean : (t : Terminal) (p : Pattern) → pattern_of t ≡ Some p → refusal p ≡ None
pattern_clean (Terminal.quoted t) p h = let same : p ≡ Pattern.literal (chars t) = cc in ap refusal same
pattern_clean (Terminal.regex t) p h = accepted_clean (whole_pattern (chars t)) p h
pattern_clean (Terminal.bare n) p h = cc
pattern_clean Terminal.error p h = cc

all_clean : (es : List InternEntry) (ps : List Pattern) (i : ℕ) → AreEntryPatterns es ps →
    refusal (get_or ps i Pattern.empty) ≡ None
all_clean es [] i h = refl
all_clean [] (p ∷ ps) i h = cc
all_clean (e ∷ es) (p ∷ ps) zero h = let first : entry_pattern e ≡ Some p = cc in pattern_clean e.literal p first
all_clean (e ∷ es) (p ∷ ps) (suc i) h = let others : AreEntryPatterns es ps = cc in all_clean es ps i others

never_unsupported : (es : List InternEntry) (ps : List Pattern) (i : ℕ) (why : Refusal) → AreEntryPatterns es ps
    → build.IsFirstUnsupported ps i why → ⊥
never_unsupported es ps i why h refused =
    let none : refusal (get_or ps i Pattern.empty) ≡ None = all_clean es ps i h in
    let some : refusal (get_or ps i Pattern.empty) ≡ Some why = refused.refused in
    cc

-- the error is that a pattern was refused
abbrev pub IsRefusal : DfaConstructionError → Type 0
IsRefusal (error.NfaConstructionError index why) = Unit {0}
IsRefusal (error.Ambiguity match0 match1) = ⊥
IsRefusal error.Memory = ⊥

-- where all patterns were read, no error says that one of them is refused
pub never_refused : (es : List InternEntry) (ps : List Pattern) (qs : List ℕ) (e : DfaConstructionError) → AreEntryPatterns es ps
    → build.IsDfaFault ps qs e → IsRefusal e → ⊥
never_refused es ps qs (error.NfaConstructionError index why) h told is = never_unsupported es ps index.0 told.0 h told.2
never_refused es ps qs (error.Ambiguity match0 match1) h told is = absurd is
never_refused es ps qs error.Memory h told is = absurd is
